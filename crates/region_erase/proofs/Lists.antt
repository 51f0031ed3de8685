-- Lists that are made item by item from the items of another.
use Rattle.std.proofs.Common.{◌≡◌, ℕ, zero, suc, List, [], ◌∷◌, ◌++◌, map, take, Some, ap, ap₂, sym, ◌∙◌, refl}
use Rattle.std.specs.List.{slice_get}

map_push : {A C : Type 0} (f : A → C) (xs : List A) (x : A) → map f (xs ++ x ∷ []) ≡ map f xs ++ f x ∷ []
map_push f [] x = refl
map_push f (y ∷ xs) x = ap (λ z. f y ∷ z) (map_push f xs x)

take_push : {B C : Type 0} (g : B → C) (items : List B) (i : ℕ) (y : B) → slice_get items i ≡ Some y → map g (take (suc i) items) ≡ map g (take i items) ++ g y ∷ []
take_push g [] i y e = absurd (cc)
take_push g (x ∷ items) zero y e = ap (λ z. g z ∷ []) cc
take_push g (x ∷ items) (suc i) y e = ap (λ z. g x ∷ z) (take_push g items i y e)

-- the copies of one item more
pub pushed : {A B C : Type 0} (f : A → C) (g : B → C) (copies : List A) (x : A) (items : List B) (i : ℕ) (y : B) → map f copies ≡ map g (take i items)
    → slice_get items i ≡ Some y → f x ≡ g y → map f (copies ++ x ∷ []) ≡ map g (take (suc i) items)
pushed f g copies x items i y before there same =
    map_push f copies x ∙ ap₂ (λ z w. z ++ w ∷ []) before same ∙ sym (take_push g items i y there)
