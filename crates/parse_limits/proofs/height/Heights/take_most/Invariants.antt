use Rattle.std.proofs.Common.{◌≡◌, take, drop, max}
use Rattle.parse_limits.specs.Heights.{most}
use Rattle.parse_limits.proofs.height.Heights.take_most.Given as goal

abbrev pub invariant-loop-left : goal.invariant-loop-left
invariant-loop-left l = (max l.most (most (take l.left l.self)) ≡ most (take l.fn.count l.fn.self)) × (drop l.left l.self ≡ drop l.fn.count l.fn.self)

abbrev pub decreases-loop-left : goal.decreases-loop-left
decreases-loop-left l = l.left
