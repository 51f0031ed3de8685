use Rattle.std.proofs.Common.{◌≤◌, length, drop}
use Rattle.smlserver_top.specs.RefusedLine.{IsWord}
use Rattle.smlserver_top.proofs.told.cut_last.Given as goal

abbrev pub invariant-loop-n : goal.invariant-loop-n
invariant-loop-n l = record {
  within : l.n ≤ length l.text;
  word : IsWord (drop l.n l.text);
}

abbrev pub decreases-loop-n : goal.decreases-loop-n
decreases-loop-n l = l.n
