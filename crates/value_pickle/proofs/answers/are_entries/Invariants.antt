use Rattle.std.proofs.Common.{◌≡◌, length}
use Rattle.value_pickle.specs.Answers.{are_entries}
use Rattle.value_pickle.proofs.answers.are_entries.Given as goal

abbrev pub invariant-loop-rest : goal.invariant-loop-rest
invariant-loop-rest l = are_entries l.rows ≡ are_entries l.rest

abbrev pub decreases-loop-rest : goal.decreases-loop-rest
decreases-loop-rest l = length l.rest
