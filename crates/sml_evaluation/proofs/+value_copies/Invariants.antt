use Rattle.std.proofs.Common.{◌≡◌, take}
use Rattle.sml_evaluation.proofs.+value_copies.Given as goal

abbrev pub invariant-copies::copy_values-loop-value :
    goal.invariant-copies::copy_values-loop-value
invariant-copies::copy_values-loop-value l = l.copies.items ≡ take l.value-index l.value-items

abbrev pub invariant-copies::copy_environment-loop-entry :
    goal.invariant-copies::copy_environment-loop-entry
invariant-copies::copy_environment-loop-entry l = l.copies.items ≡ take l.entry-index l.entry-items
