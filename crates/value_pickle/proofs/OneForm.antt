-- One pickle for each datum, and one datum for each pickle: where two pickles of one description begin two lists that are
-- equal, the data are equal, and what follows the pickles too.
use Rattle.std.proofs.Common.{◌≡◌, ℕ, List, [], ◌∷◌, ◌++◌, length, Bool, true, false, Some, None, refl, sym, ap, subst, ◌∙◌, append_assoc}
use Rattle.std.specs.Prelude.{◌&&◌}
use Rattle.std.specs.List.{list_all}
use Rattle.std.proofs.lemmas.Bool.{and_parts}
use Rattle.std.proofs.lemmas.List.{append-nil}
use Rattle.sml_syntax.proofs.Lists.{cons_parts, same_cut}
use Rattle.web_data.specs.declared.datum.Datum.{Datum, out-Datum}
use Rattle.web_data.specs.declared.datum.Datum.TheViews.{roll-Datum, roll-out-Datum}
use Rattle.web_data.specs.declared.datum.Datum.TheOpen.{Datum-F}
use Rattle.web_data.specs.declared.datum.Desc.{Desc, map-Desc}
use Rattle.web_data.specs.declared.datum.Desc.TheOpen.{Desc-F}
use Rattle.web_data.specs.declared.datum.Desc.TheViews.{roll-Desc}
use Rattle.web_data.specs.declared.datum.Desc.TheFolds.{ind-Desc, fold-roll-Desc}
use Rattle.web_data.specs.Data.{DatumLayer, has_form, has_form_of, has_desc}
use Rattle.web_data.specs.Pickles.{zigzag, number_pickle, bool_pickle, list_pickle, form_pickle, pickle_of_form, pickle}
use Rattle.value_pickle.proofs.Digits.{one_number, one_integer}

-- data that pass a test have one spelling each, and no spelling begins another
abbrev pub OneSpelling : (Datum → Bool) → (Datum → List ℕ) → Type 0
OneSpelling test spell = (x y : Datum) (u v : List ℕ) → test x ≡ true → test y ≡ true → spell x ++ u ≡ spell y ++ v → (x ≡ y) × (u ≡ v)

-- the same of forms of data, by the form of a description
abbrev OneForm : Desc-F (Datum → Bool) → Desc-F (Datum → List ℕ) → Type 0
OneForm d s = (f g : DatumLayer) (u v : List ℕ) → has_form d f ≡ true → has_form d g ≡ true → form_pickle s f ++ u ≡ form_pickle s g ++ v → (f ≡ g) × (u ≡ v)

one_int : OneForm Desc-F.Int Desc-F.Int
one_int (Datum-F.Int m) (Datum-F.Int n) u v hf hg e =
    let p = one_number 9 (zigzag m) (zigzag n) u v e
    in (ap Datum-F.Int (one_integer m n p.0), p.1)
one_int (Datum-F.Int m) _ u v hf hg e = absurd cc
one_int _ g u v hf hg e = absurd cc

one_flag : (a b : Bool) (u v : List ℕ) → bool_pickle a ++ u ≡ bool_pickle b ++ v → (a ≡ b) × (u ≡ v)
one_flag true true u v e = (refl, cc)
one_flag false false u v e = (refl, cc)
one_flag true false u v e = absurd cc
one_flag false true u v e = absurd cc

one_bool : OneForm Desc-F.Bool Desc-F.Bool
one_bool (Datum-F.Bool a) (Datum-F.Bool b) u v hf hg e =
    let p = one_flag a b u v e
    in (ap Datum-F.Bool p.0, p.1)
one_bool (Datum-F.Bool a) _ u v hf hg e = absurd cc
one_bool _ g u v hf hg e = absurd cc

one_char : OneForm Desc-F.Char Desc-F.Char
one_char (Datum-F.Char b) (Datum-F.Char c) u v hf hg e =
    let p = cons_parts b c u v e
    in (ap Datum-F.Char p.0, p.1)
one_char (Datum-F.Char b) _ u v hf hg e = absurd cc
one_char _ g u v hf hg e = absurd cc

one_text : (s t u v : List ℕ) → (number_pickle (length s) ++ s) ++ u ≡ (number_pickle (length t) ++ t) ++ v → (s ≡ t) × (u ≡ v)
one_text s t u v e =
    let p = one_number 9 (length s) (length t) (s ++ u) (t ++ v) (sym (append_assoc (number_pickle (length s)) s u) ∙ e ∙ append_assoc (number_pickle (length t)) t v)
    in same_cut s u t v p.1 p.0

one_str : OneForm Desc-F.Str Desc-F.Str
one_str (Datum-F.Str s) (Datum-F.Str t) u v hf hg e =
    let p = one_text s t u v e
    in (ap Datum-F.Str p.0, p.1)
one_str (Datum-F.Str s) _ u v hf hg e = absurd cc
one_str _ g u v hf hg e = absurd cc

one_unit : OneForm Desc-F.Unit Desc-F.Unit
one_unit Datum-F.Unit Datum-F.Unit u v hf hg e = (refl, e)
one_unit Datum-F.Unit _ u v hf hg e = absurd cc
one_unit _ g u v hf hg e = absurd cc

one_pair : (a b : Datum → Bool) (p q : Datum → List ℕ) → OneSpelling a p → OneSpelling b q → OneForm (Desc-F.Pair a b) (Desc-F.Pair p q)
one_pair a b p q A B (Datum-F.Pair x y) (Datum-F.Pair x' y') u v hf hg e =
    let hf = and_parts (a x) (b y) hf
    in let hg = and_parts (a x') (b y') hg
    in let first = A x x' (q y ++ u) (q y' ++ v) hf.0 hg.0 (sym (append_assoc (p x) (q y) u) ∙ e ∙ append_assoc (p x') (q y') v)
    in let second = B y y' u v hf.1 hg.1 first.1
    in (ap (λ z. Datum-F.Pair z y) first.0 ∙ ap (λ z. Datum-F.Pair x' z) second.0, second.1)
one_pair a b p q A B (Datum-F.Pair x y) _ u v hf hg e = absurd cc
one_pair a b p q A B _ g u v hf hg e = absurd cc

regrouped : (s t r u : List ℕ) → (s ++ t ++ r) ++ u ≡ s ++ (t ++ (r ++ u))
regrouped s t r u = append_assoc (s ++ t) r u ∙ append_assoc s t (r ++ u)

one_triple : (a b c : Datum → Bool) (p q r : Datum → List ℕ) → OneSpelling a p → OneSpelling b q → OneSpelling c r → OneForm (Desc-F.Triple a b c) (Desc-F.Triple p q r)
one_triple a b c p q r A B C (Datum-F.Triple x y z) (Datum-F.Triple x' y' z') u v hf hg e =
    let hf = and_parts (a x) (b y && c z) hf
    in let hg = and_parts (a x') (b y' && c z') hg
    in let hf2 = and_parts (b y) (c z) hf.1
    in let hg2 = and_parts (b y') (c z') hg.1
    in let first = A x x' (q y ++ (r z ++ u)) (q y' ++ (r z' ++ v)) hf.0 hg.0 (sym (regrouped (p x) (q y) (r z) u) ∙ e ∙ regrouped (p x') (q y') (r z') v)
    in let second = B y y' (r z ++ u) (r z' ++ v) hf2.0 hg2.0 first.1
    in let third = C z z' u v hf2.1 hg2.1 second.1
    in (ap (λ t. Datum-F.Triple t y z) first.0 ∙ ap (λ t. Datum-F.Triple x' t z) second.0 ∙ ap (λ t. Datum-F.Triple x' y' t) third.0, third.1)
one_triple a b c p q r A B C (Datum-F.Triple x y z) _ u v hf hg e = absurd cc
one_triple a b c p q r A B C _ g u v hf hg e = absurd cc

one_opt : (a : Datum → Bool) (p : Datum → List ℕ) → OneSpelling a p → OneForm (Desc-F.Opt a) (Desc-F.Opt p)
one_opt a p A (Datum-F.Opt None) (Datum-F.Opt None) u v hf hg e = (refl, cc)
one_opt a p A (Datum-F.Opt None) (Datum-F.Opt (Some y)) u v hf hg e = absurd cc
one_opt a p A (Datum-F.Opt (Some x)) (Datum-F.Opt None) u v hf hg e = absurd cc
one_opt a p A (Datum-F.Opt (Some x)) (Datum-F.Opt (Some y)) u v hf hg e =
    let both = A x y u v hf hg (cons_parts 1 1 (p x ++ u) (p y ++ v) e).1
    in (ap (λ z. Datum-F.Opt (Some z)) both.0, both.1)
one_opt a p A (Datum-F.Opt None) _ u v hf hg e = absurd cc
one_opt a p A (Datum-F.Opt (Some x)) _ u v hf hg e = absurd cc
one_opt a p A _ g u v hf hg e = absurd cc

one_items : (a : Datum → Bool) (p : Datum → List ℕ) → OneSpelling a p → (xs ys : List Datum) (u v : List ℕ) → list_all a xs ≡ true → list_all a ys ≡ true → list_pickle p xs ++ u ≡ list_pickle p ys ++ v → (xs ≡ ys) × (u ≡ v)
one_items a p A [] [] u v hf hg e = (refl, cc)
one_items a p A [] (y ∷ ys) u v hf hg e = absurd cc
one_items a p A (x ∷ xs) [] u v hf hg e = absurd cc
one_items a p A (x ∷ xs) (y ∷ ys) u v hf hg e =
    let hf = and_parts (a x) (list_all a xs) hf
    in let hg = and_parts (a y) (list_all a ys) hg
    in let rest = (cons_parts 1 1 ((p x ++ list_pickle p xs) ++ u) ((p y ++ list_pickle p ys) ++ v) e).1
    in let first = A x y (list_pickle p xs ++ u) (list_pickle p ys ++ v) hf.0 hg.0 (sym (append_assoc (p x) (list_pickle p xs) u) ∙ rest ∙ append_assoc (p y) (list_pickle p ys) v)
    in let others = one_items a p A xs ys u v hf.1 hg.1 first.1
    in (ap (λ z. z ∷ xs) first.0 ∙ ap (λ z. y ∷ z) others.0, others.1)

one_list : (a : Datum → Bool) (p : Datum → List ℕ) → OneSpelling a p → OneForm (Desc-F.List a) (Desc-F.List p)
one_list a p A (Datum-F.List xs) (Datum-F.List ys) u v hf hg e =
    let both = one_items a p A xs ys u v hf hg e
    in (ap Datum-F.List both.0, both.1)
one_list a p A (Datum-F.List xs) _ u v hf hg e = absurd cc
one_list a p A _ g u v hf hg e = absurd cc

of_forms : (d : Desc-F (Datum → Bool)) (s : Desc-F (Datum → List ℕ)) → OneForm d s → OneSpelling (has_form_of d) (pickle_of_form s)
of_forms d s one x y u v hx hy e =
    let p = one (out-Datum x) (out-Datum y) u v hx hy e
    in (sym (roll-out-Datum x) ∙ ap roll-Datum p.0 ∙ roll-out-Datum y, p.1)

abbrev OfDesc : Desc → Type 0
OfDesc d = OneSpelling (has_desc d) (pickle d)

-- a layer of a description, whose parts come with what holds of them
abbrev Layer : Type 0
Layer = Desc-F ((d : Desc) × OfDesc d)

abbrev desc_of : Layer → Desc-F Desc
desc_of y = map-Desc _ _ (λ e. e.0) y

one_layer : (y : Layer) → OneForm (map-Desc _ _ has_desc (desc_of y)) (map-Desc _ _ pickle (desc_of y))
one_layer Desc-F.Int = one_int
one_layer Desc-F.Bool = one_bool
one_layer Desc-F.Char = one_char
one_layer Desc-F.Str = one_str
one_layer Desc-F.Unit = one_unit
one_layer (Desc-F.Pair a b) = one_pair (has_desc a.0) (has_desc b.0) (pickle a.0) (pickle b.0) a.1 b.1
one_layer (Desc-F.Triple a b c) = one_triple (has_desc a.0) (has_desc b.0) (has_desc c.0) (pickle a.0) (pickle b.0) (pickle c.0) a.1 b.1 c.1
one_layer (Desc-F.Opt a) = one_opt (has_desc a.0) (pickle a.0) a.1
one_layer (Desc-F.List a) = one_list (has_desc a.0) (pickle a.0) a.1

has_roll : (x : Desc-F Desc) → has_desc (roll-Desc x) ≡ has_form_of (map-Desc _ _ has_desc x)
has_roll x = fold-roll-Desc (Datum → Bool) has_form_of x

pickle_roll : (x : Desc-F Desc) → pickle (roll-Desc x) ≡ pickle_of_form (map-Desc _ _ pickle x)
pickle_roll x = fold-roll-Desc (Datum → List ℕ) pickle_of_form x

one_rolled : (y : Layer) → OfDesc (roll-Desc (desc_of y))
one_rolled y =
    subst (λ test. OneSpelling test (pickle (roll-Desc (desc_of y)))) (sym (has_roll (desc_of y)))
    (subst (OneSpelling (has_form_of (map-Desc _ _ has_desc (desc_of y)))) (sym (pickle_roll (desc_of y)))
    (of_forms (map-Desc _ _ has_desc (desc_of y)) (map-Desc _ _ pickle (desc_of y)) (one_layer y)))

-- where two pickles of one description begin two equal lists, the data are equal, and what follows them too
pub one_form : (desc : Desc) (x y : Datum) (u v : List ℕ) → has_desc desc x ≡ true → has_desc desc y ≡ true → pickle desc x ++ u ≡ pickle desc y ++ v → (x ≡ y) × (u ≡ v)
one_form = ind-Desc OfDesc (λ x y is. subst (λ z. OfDesc (roll-Desc z)) is (one_rolled y))

-- two data of one description are equal where their pickles are
pub equal_pickles : (desc : Desc) (x y : Datum) → has_desc desc x ≡ true → has_desc desc y ≡ true → pickle desc x ≡ pickle desc y → x ≡ y
equal_pickles desc x y hx hy e = (one_form desc x y [] [] hx hy (ap (λ z. z ++ []) e)).0

-- no pickle is a proper prefix of another
pub no_proper_prefix : (desc : Desc) (x y : Datum) (more : List ℕ) → has_desc desc x ≡ true → has_desc desc y ≡ true → pickle desc x ++ more ≡ pickle desc y → more ≡ []
no_proper_prefix desc x y more hx hy e = (one_form desc x y more [] hx hy (e ∙ sym (append-nil (pickle desc y)))).1
