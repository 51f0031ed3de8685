-- The bytes of items, each behind a 1.
use Rattle.std.proofs.Common.{◌≡◌, ℕ, ◌≤◌, List, [], ◌∷◌, ◌++◌, length, take, refl, sym, ap, ◌∙◌, append_assoc}
use Rattle.std.proofs.lemmas.List.{take_all}
use Rattle.std.proofs.lemmas.List.Concat.{flat_map-cons}
use Rattle.web_data.specs.declared.datum.Datum.{Datum}
use Rattle.web_data.specs.declared.datum.Desc.{Desc}
use Rattle.web_data.specs.Pickles.{pickle, list_pickle}
use Rattle.value_pickle.specs.Halting.{item_bytes}

-- the items and then a list are a list
pub items_and_list : (desc : Desc) (xs ys : List Datum) → list_pickle (pickle desc) (xs ++ ys) ≡ item_bytes desc xs ++ list_pickle (pickle desc) ys
items_and_list desc [] ys = refl
items_and_list desc (x ∷ xs) ys =
    ap (λ z. 1 ∷ pickle desc x ++ z) (items_and_list desc xs ys)
    ∙ sym (append_assoc (1 ∷ pickle desc x) (item_bytes desc xs) (list_pickle (pickle desc) ys))
    ∙ ap (λ z. z ++ list_pickle (pickle desc) ys) (sym (flat_map-cons (λ y. 1 ∷ pickle desc y) x xs))

-- the items and a 0 are a list
pub items_and_end : (desc : Desc) (xs : List Datum) → list_pickle (pickle desc) xs ≡ item_bytes desc xs ++ 0 ∷ []
items_and_end desc [] = refl
items_and_end desc (x ∷ xs) =
    ap (λ z. 1 ∷ pickle desc x ++ z) (items_and_end desc xs)
    ∙ sym (append_assoc (1 ∷ pickle desc x) (item_bytes desc xs) (0 ∷ []))
    ∙ ap (λ z. z ++ 0 ∷ []) (sym (flat_map-cons (λ y. 1 ∷ pickle desc y) x xs))

pub all_items : (desc : Desc) (out : List ℕ) (xs : List Datum) (i : ℕ) → length xs ≤ i → (out ++ item_bytes desc (take i xs)) ++ 0 ∷ [] ≡ out ++ list_pickle (pickle desc) xs
all_items desc out xs i h =
    ap (λ z. (out ++ item_bytes desc z) ++ 0 ∷ []) (take_all i xs h)
    ∙ append_assoc out (item_bytes desc xs) (0 ∷ [])
    ∙ ap (λ z. out ++ z) (sym (items_and_end desc xs))
