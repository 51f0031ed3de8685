use Rattle.std.proofs.Common.{◌≡◌, length}
use Rattle.smlserver_top.specs.Places.{later_lines}
use Rattle.smlserver_top.proofs.place.later_lines.Given as goal

abbrev pub invariant-loop-rest : goal.invariant-loop-rest
invariant-loop-rest l = later_lines l.text ≡ later_lines l.rest

abbrev pub decreases-loop-rest : goal.decreases-loop-rest
decreases-loop-rest l = length l.rest
