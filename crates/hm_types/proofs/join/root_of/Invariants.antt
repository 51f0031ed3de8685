use Rattle.std.proofs.Common.{◌≤◌, ℕ}
use Rattle.hm_types.specs.Classes.{Stands}
use Rattle.hm_types.proofs.join.root_of.Given as goal

abbrev pub invariant-loop-found : goal.invariant-loop-found
invariant-loop-found l = (l.found ≤ l.class) × ((r : ℕ) → Stands l.nodes l.found r → Stands l.nodes l.class r)

abbrev pub decreases-loop-found : goal.decreases-loop-found
decreases-loop-found l = l.found
