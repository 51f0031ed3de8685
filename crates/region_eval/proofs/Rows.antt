-- Primitives never run out of height, and count no less.
use Rattle.std.proofs.Common.{ℕ, ◌+◌, ◌≤◌, List, refl, arith}
use Rattle.sml_evaluation.specs.declared.value.Value as plain
use Rattle.sml_evaluation.specs.RunState.{RunState, Done, Raised, BadStatement, Over, Waits, NoRule, state_of, count_of}
use Rattle.sml_evaluation.specs.Outcome as source
use Rattle.sml_evaluation.specs.Primitives.{prim_result}
use Rattle.eval_laws.specs.Heights.{Betters}
use Rattle.eval_laws.proofs.Relations as side
use Rattle.eval_laws.proofs.Rows.{Comparings, prim_R}
use Rattle.region_eval.specs.Carried.{Carrying, carried}
use Rattle.region_eval.specs.GroundPrimitives.{never}
use Rattle.region_eval.proofs.Relations.{R, weaker}

-- what is made of ends counts no less
pub record Carries (N V H : Type 0) (k : ℕ) (to : Carrying N V H) : Type 0 where
  pub value : (v : plain.Value) (s : RunState H) → R N V H V k s.count (to.value v s) (to.value v s)
  pub packet : (v : plain.Value) (s : RunState H) → R N V H V k s.count (to.packet v s) (to.packet v s)
  pub wait : (s : RunState H) → R N V H V k s.count (to.wait s) (to.wait s)

-- an outcome that counts no less, and isn't that the height ran out
pub record IsFine (n : ℕ) (o : source.Outcome plain.Value) : Type 0 where
  pub low : n ≤ count_of o
  pub there : Betters 1 o o

no_less : (n : ℕ) → n + 1 ≤ n → ⊥
no_less n l = omega (arith, l)

pub carried_R : {N V H : Type 0} {k : ℕ} (to : Carrying N V H) → Carries N V H k to → (n : ℕ) (store : H) (o : source.Outcome plain.Value) → IsFine n o → R N V H V k n (carried to store o) (carried to store o)
carried_R to c n store (Done v s) r = weaker s.count r.low (c.value v (state_of s.shared store s.count))
carried_R to c n store (Raised v s) r = weaker s.count r.low (c.packet v (state_of s.shared store s.count))
carried_R to c n store (BadStatement place s) r = record { low = r.low; high = r.low; better = refl }
carried_R to c n store (Over s) r = absurd (no_less s.count r.there)
carried_R to c n store (Waits s) r = weaker s.count r.low (c.wait (state_of s.shared store s.count))
carried_R to c n store (NoRule x s) r = absurd x

nothing_compared : Comparings (side.Higher 1) never never
nothing_compared = record { both = λ v w s. side.waits_here; grows = λ v w s. side.stays s }

pub result_fine : (name : List ℕ) (arguments : List plain.Value) (v : plain.Value) (s : source.State) → IsFine s.count (prim_result never name arguments v s)
result_fine name arguments v s =
    let r = prim_R never never nothing_compared name arguments v s in
    record { low = r.low.count; there = side.betters_at 1 (λ t. prim_result never name arguments v t) (prim_result never name arguments v s) s r }
