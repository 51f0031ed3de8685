-- What a primitive of the basis comes to, in an evaluation of terms: the primitive works on plain values and has no references.
use Rattle.std.specs.Prelude.{[]}
use Rattle.sml_evaluation.specs.declared.value.Value as plain
use Rattle.sml_evaluation.specs.RunState.{RunState, state_of, Ending, Done, Raised, BadStatement, Over, Waits, NoRule}
use Rattle.sml_evaluation.specs.Outcome as source

-- the state as a primitive of plain values sees it
abbrev pub plain_state : {H : Type 0} → RunState H → source.State
plain_state s = state_of s.shared [] s.count

-- what is made of a primitive's value and of its packet, and of that it waits
pub record Carrying (N V H : Type 0) : Type 0 where
  pub value : plain.Value → RunState H → Ending N V H V
  pub packet : plain.Value → RunState H → Ending N V H V
  pub wait : RunState H → Ending N V H V

abbrev pub carried : {N V H : Type 0} → Carrying N V H → H → source.Outcome plain.Value → Ending N V H V
carried to store (Done v s) = to.value v (state_of s.shared store s.count)
carried to store (Raised v s) = to.packet v (state_of s.shared store s.count)
carried to store (BadStatement place s) = BadStatement place (state_of s.shared store s.count)
carried to store (Over s) = Over (state_of s.shared store s.count)
carried to store (Waits s) = to.wait (state_of s.shared store s.count)
carried to store (NoRule x s) = absurd x
