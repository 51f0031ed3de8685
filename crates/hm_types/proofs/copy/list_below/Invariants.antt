use Rattle.std.proofs.Common.{◌+◌, length}
use Rattle.hm_types.specs.Searching.{unseen}
use Rattle.hm_types.proofs.Searching.{Listing}
use Rattle.hm_types.proofs.copy.list_below.Given as goal

abbrev pub invariant-loop-path : goal.invariant-loop-path
invariant-loop-path l = Listing l.nodes l.marks l.path.items l.order.items l.floor l.stamp

abbrev pub decreases-loop-path : goal.decreases-loop-path
decreases-loop-path l = length l.path.items + (unseen l.floor l.marks + unseen l.floor l.marks)
