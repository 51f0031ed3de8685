-- Results. Of std see also `IfOk-at_ok`, `IfErr-at_err` and `IfOk-weaker`.
use Rattle.std.proofs.Common.{◌≡◌, ◌⊎◌, Result, Ok, Err, IfOk, refl, inl, inr}

pub result_cases : {T E : Type 0} (r : Result T E) → ((x : T) × (r ≡ Ok x)) ⊎ ((e : E) × (r ≡ Err e))
result_cases (Ok x) = inl (x, refl)
result_cases (Err e) = inr (e, refl)

-- a clause on an `Ok` holds where each value that may stand there meets it
pub IfOk_from : {T E : Type 0} (r : Result T E) (P : T → Type 0) → ((x : T) → r ≡ Ok x → P x) → IfOk r P
IfOk_from (Ok x) P h = h x refl
IfOk_from (Err e) P h = tt
