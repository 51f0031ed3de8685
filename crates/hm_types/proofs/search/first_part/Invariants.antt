use Rattle.std.proofs.Common.{◌<◌, ℕ, get_or}
use Rattle.hm_types.specs.Searching.{IsReady}
use Rattle.hm_types.proofs.search.first_part.Given as goal

abbrev pub invariant-loop-i : goal.invariant-loop-i
invariant-loop-i l = (j : ℕ) → j < l.i → IsReady l.asked l.marks l.floor l.birth (get_or l.list j 0)
