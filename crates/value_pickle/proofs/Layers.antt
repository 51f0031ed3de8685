-- What the definitions say of each form of a description and of a datum.
use Rattle.std.proofs.Common.{◌≡◌, ℕ, List, Bool, sym, ap, ◌∙◌}
use Rattle.web_data.specs.declared.datum.Datum.{Datum, out-Datum}
use Rattle.web_data.specs.declared.datum.Datum.TheViews.{roll-Datum, out-roll-Datum}
use Rattle.web_data.specs.declared.datum.Datum.TheOpen.{Datum-F}
use Rattle.web_data.specs.declared.datum.Datum.TheVariants as datum
use Rattle.web_data.specs.declared.datum.Desc.{Desc, map-Desc}
use Rattle.web_data.specs.declared.datum.Desc.TheOpen.{Desc-F}
use Rattle.web_data.specs.declared.datum.Desc.TheViews.{roll-Desc}
use Rattle.web_data.specs.declared.datum.Desc.TheVariants as desc
use Rattle.web_data.specs.declared.datum.Desc.TheFolds.{fold-roll-Desc}
use Rattle.web_data.specs.Data.{has_desc, has_form_of, has_form}
use Rattle.web_data.specs.Pickles.{pickle, pickle_of_form, form_pickle, list_pickle}

pub has_roll : (x : Desc-F Desc) → has_desc (roll-Desc x) ≡ has_form_of (map-Desc _ _ has_desc x)
has_roll x = fold-roll-Desc (Datum → Bool) has_form_of x

pub pickle_roll : (x : Desc-F Desc) → pickle (roll-Desc x) ≡ pickle_of_form (map-Desc _ _ pickle x)
pickle_roll x = fold-roll-Desc (Datum → List ℕ) pickle_of_form x

-- a datum that is made of a form has it
pub form_back : (f : Datum-F Datum) → out-Datum (roll-Datum f) ≡ f
form_back f = out-roll-Datum f

-- what the definitions say of a datum of a form and a description of a form
pub has_at : (l : Desc-F Desc) (f : Datum-F Datum) → has_desc (roll-Desc l) (roll-Datum f) ≡ has_form (map-Desc _ _ has_desc l) f
has_at l f = ap (λ g. g (roll-Datum f)) (has_roll l) ∙ ap (has_form (map-Desc _ _ has_desc l)) (form_back f)

pub pickle_at : (l : Desc-F Desc) (f : Datum-F Datum) → pickle (roll-Desc l) (roll-Datum f) ≡ form_pickle (map-Desc _ _ pickle l) f
pickle_at l f = ap (λ g. g (roll-Datum f)) (pickle_roll l) ∙ ap (form_pickle (map-Desc _ _ pickle l)) (form_back f)

pub pickle_list : (a : Desc) (xs : List Datum) → pickle (desc.List a) (datum.List xs) ≡ list_pickle (pickle a) xs
pickle_list a xs = ap (λ d. pickle d (datum.List xs)) (sym (desc.rolls-List a)) ∙ ap (pickle (roll-Desc (Desc-F.List a))) (sym (datum.rolls-List xs)) ∙ pickle_at (Desc-F.List a) (Datum-F.List xs)
