use Rattle.history_check.proofs.Differing.{NoneBefore}
use Rattle.history_check.proofs.names.names_differ.Given as goal

-- none of the first ones stands before itself
abbrev pub invariant-loop-at : goal.invariant-loop-at
invariant-loop-at l = NoneBefore l.names l.at
