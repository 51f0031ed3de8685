use Rattle.value_pickle.proofs.Digits.{Writes}
use Rattle.value_pickle.proofs.numbers.push_number.Given as goal

abbrev pub decreases-loop-left : goal.decreases-loop-left
decreases-loop-left l = l.left

abbrev pub invariant-loop-left : goal.invariant-loop-left
invariant-loop-left l = Writes l.initial.out.items l.out.items l.number l.left
