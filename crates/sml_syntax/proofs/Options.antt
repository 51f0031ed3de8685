-- Options. Of std see also `same_Some`, `some_pair_parts` and `IfSome_then`.
use Rattle.std.proofs.Common.{◌≡◌, ◌⊎◌, Option, Some, None, refl, ap, ◌∙◌, inl, inr}
use Rattle.std.specs.Option.{option_and_then}

-- where two steps one after another end with an item, both do
pub and_then_parts : {A B : Type 0} (f : A → Option B) (o : Option A) (y : B) → option_and_then f o ≡ Some y → (x : A) × (o ≡ Some x) × (f x ≡ Some y)
and_then_parts f None y e = absurd (cc)
and_then_parts f (Some x) y e = (x, refl, e)

pub and_then_from : {A B : Type 0} (f : A → Option B) (o : Option A) (x : A) (y : B) → o ≡ Some x → f x ≡ Some y → option_and_then f o ≡ Some y
and_then_from f o x y first second = ap (option_and_then f) first ∙ second

-- after a first step that ends with nothing, both do
pub and_then_none : {A B : Type 0} (f : A → Option B) (o : Option A) → o ≡ None → option_and_then f o ≡ None
and_then_none f o first = ap (option_and_then f) first

pub option_cases : {A : Type 0} (o : Option A) → (o ≡ None) ⊎ ((x : A) × (o ≡ Some x))
option_cases None = inl refl
option_cases (Some x) = inr (x, refl)
