-- Tests of a condition. Of std see also `and_parts`, `or_cases`, `cases_Bool` and `cond_some`.
use Rattle.std.proofs.Common.{◌≡◌, ◌⊎◌, Bool, true, false, cond, refl, inl, inr}

-- which way a test went
pub cond_cases : {A : Type 0} (test : Bool) (x y z : A) → cond test x y ≡ z → ((test ≡ true) × (x ≡ z)) ⊎ ((test ≡ false) × (y ≡ z))
cond_cases true x y z e = inl (refl, e)
cond_cases false x y z e = inr (refl, e)
