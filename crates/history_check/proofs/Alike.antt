-- Equality of rows of texts, as `==` tests it.
use Rattle.std.proofs.Common.{◌≡◌, ℕ, List, Bool, Decides, nat_eq}
use Rattle.std.proofs.lemmas.Slice.Eq.{slice_eq-Decides, bytes_eq-Decides}
use lib.Pointwise.{pointwise}

pub rows-same : (a b : List (List (List ℕ))) (r : Bool) → r ≡ pointwise (pointwise (pointwise nat_eq)) a b → Decides r (a ≡ b)
rows-same a b r h = slice_eq-Decides (λ x y. slice_eq-Decides bytes_eq-Decides x y _ (λ i. pointwise (pointwise nat_eq) x y)) a b r h
