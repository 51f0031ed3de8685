use Rattle.std.proofs.Common.{◌∷◌, [], ◌+◌, length}
use Rattle.hm_types.specs.Joining.{Steps, Frame, weight}
use Rattle.hm_types.proofs.join.join.Given as goal

abbrev pub invariant-loop-x : goal.invariant-loop-x
invariant-loop-x l = Steps l.parts l.initial.nodes ((l.a, l.b) ∷ []) l.nodes l.work.items × Frame l.initial.nodes l.nodes [] l.changed.items

abbrev pub decreases-loop-x : goal.decreases-loop-x
decreases-loop-x l = length l.work.items + weight l.nodes
