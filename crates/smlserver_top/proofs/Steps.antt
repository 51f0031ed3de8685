-- Steps in states whose only region is the global one.
use Rattle.std.proofs.Common.{◌≡◌, ℕ, suc, ◌+◌, ◌-◌, ◌^◌, ◌<◌, true, cond, List, [], ◌∷◌, length, Some, refl, ap, sym, ◌∙◌, arith}
use Rattle.std.specs.Prelude.{nat_lt, slice_get}
use Rattle.std.proofs.lemmas.Bool.Decides.{nat_tests}
use Rattle.kam_code.specs.declared.code.Code.{Code}
use Rattle.kam_code.specs.State.{State, start}
use Rattle.kam_code.specs.Layout.{text_words}
use Rattle.kam_code.specs.Memory.{region_words, pointer}
use Rattle.kam_code.specs.Step.{Halted, Uncaught, Next, Goes, Ends, Stuck, with_found, onward, pushed, grown, made_in, text_made, raised_to, thrown, step, and_then, steps, Writes}
use Rattle.kam_code.proofs.Runs.{steps-suc}
use Rattle.smlserver_top.specs.declared.machine.Stop.{Stop}
use Rattle.smlserver_top.specs.declared.machine.Stop.TheVariants.{Going as going, Halted as halted, Raised as raised, Stuck as stuck}
use Rattle.smlserver_top.specs.OneRegion.{global}
use Rattle.smlserver_top.specs.Stop.{next_of}

pub below_sum : (a b n : ℕ) → a + b < n → a < n
below_sum a b n h = omega (arith, h)

-- words made in the global region, where there is room
pub made_in_global : (words more : List ℕ) (state : State) (f : ℕ → State → Next) → state.regions ≡ global words → length words < 2 ^ 32 → made_in 1 more state f ≡ f (2 ^ 32 + length words) (grown 1 more state)
made_in_global words more state f e l =
    let test : nat_lt (length words) (2 ^ 32) ≡ true = grind (arith, nat_tests) in
    ap (λ regions. with_found (region_words 1 regions) (λ ws. cond (nat_lt (length ws) (2 ^ 32)) (f (pointer 1 (length ws)) (grown 1 more state)) Stuck)) e
    ∙ ap (λ b. cond b (f (2 ^ 32 + length words) (grown 1 more state)) Stuck) test

pub text_made_global : (serial : ℕ) (words text stack : List ℕ) (state : State) → serial ≡ 1 → state.regions ≡ global words → length words < 2 ^ 32 → text_made serial text stack state ≡ pushed (2 ^ 32 + length words) stack (grown 1 (text_words text) state)
text_made_global serial words text stack state s e l =
    ap (λ r. text_made r text stack state) s
    ∙ made_in_global words (text_words text) state (λ p later. pushed p stack later) e l

pub thrown_global : (code : Code) (number : ℕ) (words name stack : List ℕ) (state : State) → state.regions ≡ global words → state.handlers ≡ [] → length words < 2 ^ 32 → slice_get code.names number ≡ Some name → thrown code number stack state ≡ Ends (Uncaught name) (onward stack (grown 1 (number ∷ 0 ∷ []) state))
thrown_global code number words name stack state e h l n =
    made_in_global words (number ∷ 0 ∷ []) state (λ p later. raised_to code number p state.handlers (onward stack later)) e l
    ∙ ap (λ hs. raised_to code number (2 ^ 32 + length words) hs (onward stack (grown 1 (number ∷ 0 ∷ []) state))) h
    ∙ ap (λ o. with_found o (λ x. Ends (Uncaught x) (onward stack (grown 1 (number ∷ 0 ∷ []) state)))) n

-- a turn of the run
pub steps_turn : (code : Code) (most turn : ℕ) (state next : State) (whole : Next) → turn < most → steps code (most - turn) state ≡ whole → Goes next ≡ step code state → steps code (most - (turn + 1)) next ≡ whole
steps_turn code most turn state next whole l w e =
    let n : most - turn ≡ suc (most - (turn + 1)) = omega arith in
    sym (ap (λ k. steps code k state) n ∙ steps-suc code (most - (turn + 1)) state next (sym e)) ∙ w

-- an end stays, whatever would follow
end_stays : (stop : Stop) (next : State) (f : State → Next) → (stop ≡ going → ⊥) → and_then (next_of stop next) f ≡ next_of stop next
end_stays going next f g = absurd (g refl)
end_stays halted next f g = refl
end_stays (raised name) next f g = refl
end_stays stuck next f g = refl

-- the last turn of a run
pub steps_stop : (code : Code) (most turn : ℕ) (stop : Stop) (state next : State) (whole : Next) → turn < most → steps code (most - turn) state ≡ whole → next_of stop next ≡ step code state → (stop ≡ going → ⊥) → next_of stop next ≡ whole
steps_stop code most turn stop state next whole l w e g =
    let n : most - turn ≡ suc (most - (turn + 1)) = omega arith in
    sym (end_stays stop next (steps code (most - (turn + 1))) g)
    ∙ ap (λ x. and_then x (steps code (most - (turn + 1)))) e
    ∙ sym (ap (λ k. steps code k state) n)
    ∙ w

ends_halted : (stop : Stop) (state final : State) → next_of stop state ≡ Ends Halted final → (stop ≡ halted) × (state ≡ final)
ends_halted going state final e = absurd (cc)
ends_halted halted state final e = (refl, cc)
ends_halted (raised name) state final e = absurd (cc)
ends_halted stuck state final e = absurd (cc)

-- a run of code that writes is halted, and the body is what the code writes
pub run_writes : (code : Code) (n m : ℕ) (body : List ℕ) (stop : Stop) (first last : State) → Writes code n body → first ≡ start [] [] → m ≡ n → next_of stop last ≡ steps code m first → (stop ≡ halted) × (last.body ≡ body)
run_writes code n m body stop first last w f e s =
    let halt = w [] [] in
    let ends = ends_halted stop last halt.0 (s ∙ ap (λ k. steps code k first) e ∙ ap (steps code n) f ∙ halt.1) in
    (ends.0, ap (λ state. state.body) ends.1 ∙ halt.2)
