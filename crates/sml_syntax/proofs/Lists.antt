-- Lists that are equal after they were put together.
use Rattle.std.proofs.Common.{◌≡◌, ℕ, ◌+◌, ◌≤◌, ◌<◌, List, [], ◌∷◌, ◌++◌, length, drop, Some, refl, ap, sym, ◌∙◌, arith}
use Rattle.std.specs.List.{slice_get}
use Rattle.std.proofs.lemmas.List.{drop-drop}
use Rattle.std.proofs.Math.Seq.{drop-append_seam}

pub cons_parts : {A : Type 0} (x y : A) (xs ys : List A) → x ∷ xs ≡ y ∷ ys → (x ≡ y) × (xs ≡ ys)
cons_parts x y xs ys e = (cc, cc)

pub nil_parts : {A : Type 0} (xs ys : List A) → xs ++ ys ≡ [] → (xs ≡ []) × (ys ≡ [])
nil_parts [] ys e = (refl, e)
nil_parts (x ∷ xs) ys e = absurd (cc)

-- of two fronts of one list the shorter is a front of the longer
pub front_of_front : {A : Type 0} (p r q s : List A) → p ++ r ≡ q ++ s → length p ≤ length q → (more : List A) × (q ≡ p ++ more) × (r ≡ more ++ s)
front_of_front [] r q s e h = (q, refl, e)
front_of_front (x ∷ p) r [] s e h = absurd (omega (arith, h))
front_of_front (x ∷ p) r (y ∷ q) s e h =
    let parts = cons_parts x y (p ++ r) (q ++ s) e
    in let (more, same, rest) = front_of_front p r q s parts.1 (omega (arith, h))
    in (more, cc, rest)

-- two cuts of one list at one place are the same cut
pub same_cut : {A : Type 0} (p r q s : List A) → p ++ r ≡ q ++ s → length p ≡ length q → (p ≡ q) × (r ≡ s)
same_cut [] r [] s e h = (refl, e)
same_cut [] r (y ∷ q) s e h = absurd (omega (arith, h))
same_cut (x ∷ p) r [] s e h = absurd (omega (arith, h))
same_cut (x ∷ p) r (y ∷ q) s e h =
    let parts = cons_parts x y (p ++ r) (q ++ s) e
    in let same = same_cut p r q s parts.1 (omega (arith, h))
    in (cc, same.1)

-- what stands behind a piece that begins at n
pub drop_behind : {A : Type 0} (all piece rest : List A) (n : ℕ) → drop n all ≡ piece ++ rest → drop (n + length piece) all ≡ rest
drop_behind all piece rest n e = sym (drop-drop (length piece) n all) ∙ ap (drop (length piece)) e ∙ drop-append_seam piece rest

-- the item behind a front is at the front's length
pub slice_get_behind : {A : Type 0} (front : List A) (x : A) (rest : List A) → slice_get (front ++ x ∷ rest) (length front) ≡ Some x
slice_get_behind [] x rest = refl
slice_get_behind (y ∷ front) x rest = slice_get_behind front x rest

pub nil_from_short : {A : Type 0} (xs : List A) → length xs < 1 → xs ≡ []
nil_from_short [] h = refl
nil_from_short (x ∷ xs) h = absurd (omega (arith, h))
