-- One level of a value: its form, with its parts as they are.
use Rattle.sml_evaluation.specs.declared.value.Value.{Value, out-Value}
use Rattle.sml_evaluation.specs.declared.value.Bound.TheOpen.{Value-F}
use Rattle.sml_evaluation.specs.declared.value.Bound.{Bound}
use Rattle.sml_evaluation.specs.declared.value.Closure.{Closure}

abbrev pub ValueLayer : Type 0
ValueLayer = Value-F Bound Value Closure

-- the form of a value
abbrev pub form_of_value : Value → ValueLayer
form_of_value v = out-Value v
