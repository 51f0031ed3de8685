-- Runs as numbers of steps.
use Rattle.std.proofs.Common.{◌≡◌, ℕ, List, zero, suc, ap}
use Rattle.kam_code.specs.declared.code.Code.{Code}
use Rattle.kam_code.specs.State.{State, start}
use Rattle.kam_code.specs.Step.{End, Halted, Next, Goes, Ends, Waits, Stuck, step, and_then, steps, Writes, NeverStuck}

apart : (end : End) (final : State) (next : Next) (f g : State → Next) → ((state : State) → f state ≡ Ends end final → g state ≡ Stuck → ⊥) → and_then next f ≡ Ends end final → and_then next g ≡ Stuck → ⊥
apart end final (Goes state) f g h e s = h state e s
apart end final (Ends other last) f g h e s = absurd (cc)
apart end final (Waits call last) f g h e s = absurd (cc)
apart end final Stuck f g h e s = absurd (cc)

-- where a run ends, no state before lacks a step
pub ended-never_stuck : (code : Code) (end : End) (final : State) (n m : ℕ) (state : State) → steps code n state ≡ Ends end final → steps code m state ≡ Stuck → ⊥
ended-never_stuck code end final zero m state e s = absurd (cc)
ended-never_stuck code end final (suc n) zero state e s = absurd (cc)
ended-never_stuck code end final (suc n) (suc m) state e s =
    apart end final (step code state) (steps code n) (steps code m) (λ next. ended-never_stuck code end final n m next) e s

-- a step, and then the others
pub steps-suc : (code : Code) (n : ℕ) (state next : State) → step code state ≡ Goes next → steps code (suc n) state ≡ steps code n next
steps-suc code n state next e = ap (λ x. and_then x (steps code n)) e

-- code that writes is never stuck
pub writes-never_stuck : (code : Code) (n : ℕ) (body : List ℕ) → Writes code n body → NeverStuck code
writes-never_stuck code n body w form databases m s =
    let halt = w form databases in ended-never_stuck code Halted halt.0 n m (start form databases) halt.1 s
