use Rattle.std.proofs.Common.{◌+◌, length}
use Rattle.hm_types.specs.Asking.{Spread, freedom}
use Rattle.hm_types.proofs.spread.spread.Given as goal

abbrev pub invariant-loop-class : goal.invariant-loop-class
invariant-loop-class l = Spread l.names l.parts l.nodes l.initial.asked l.asked l.work.items

abbrev pub decreases-loop-class : goal.decreases-loop-class
decreases-loop-class l = length l.work.items + (freedom l.asked + freedom l.asked)
