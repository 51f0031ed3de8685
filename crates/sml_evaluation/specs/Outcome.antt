-- The states and outcomes of the evaluation of programs. Each outcome has its rule, so that "no rule" is none of them.
use Rattle.std.specs.Prelude.{List}
use Rattle.sml_evaluation.specs.declared.value.Value.{Value}
use Rattle.sml_evaluation.specs.RunState.{RunState, Ending}

-- what each reference holds, by its number, is stored
abbrev pub State : Type 0
State = RunState (List Value)

abbrev pub Outcome : Type 0 → Type 0
Outcome A = Ending ⊥ Value (List Value) A
