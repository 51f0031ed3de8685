use Rattle.std.proofs.Common.{◌≡◌, ◌++◌, drop}
use Rattle.hm_types.specs.Joining.{pairs_of}
use Rattle.hm_types.proofs.join.push_pairs.Given as goal

abbrev pub invariant-loop-i : goal.invariant-loop-i
invariant-loop-i l = l.work.items ++ pairs_of (drop l.i l.xs) (drop l.i l.ys) ≡ l.initial.work.items ++ pairs_of l.xs l.ys
