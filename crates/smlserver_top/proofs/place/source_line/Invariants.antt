use Rattle.std.proofs.Common.{◌≡◌, ◌-◌}
use Rattle.smlserver_top.specs.Places.{lines_behind}
use Rattle.smlserver_top.proofs.place.source_line.Given as goal

abbrev pub invariant-loop-left : goal.invariant-loop-left
invariant-loop-left l = lines_behind (l.number - 1) l.text ≡ lines_behind (l.left - 1) l.rest

abbrev pub decreases-loop-left : goal.decreases-loop-left
decreases-loop-left l = l.left
