-- Items of lists by their places.
use Rattle.std.proofs.Common.{arith, ◌≡◌, sym, subst, ℕ, zero, suc, ◌<◌, List, [], ◌∷◌, length, get_or}
use Rattle.typing_rules.specs.Scope.{IsOneOf, first_one, other_one}

pub one-of-get : {A : Type 0} (xs : List A) (i : ℕ) (d : A) → i < length xs → IsOneOf (get_or xs i d) xs
one-of-get [] i d h = absurd (omega (arith, h))
one-of-get (x ∷ xs) zero d h = first_one
one-of-get (x ∷ xs) (suc i) d h = other_one (one-of-get xs i d (omega (arith, h)))

-- what a loop finds there
pub one-of-items : {A : Type 0} (xs : List A) (i : ℕ) (d x : A) → x ≡ get_or xs i d → i < length xs → IsOneOf x xs
one-of-items xs i d x e h = subst (λ y. IsOneOf y xs) (sym e) (one-of-get xs i d h)
