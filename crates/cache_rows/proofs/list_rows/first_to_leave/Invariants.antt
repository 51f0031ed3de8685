use Rattle.std.proofs.Common.{take}
use Rattle.cache_rows.specs.Indexed.{FirstToLeave}
use Rattle.cache_rows.proofs.list_rows.first_to_leave.Given as goal

abbrev pub invariant-loop-at : goal.invariant-loop-at
invariant-loop-at l = FirstToLeave (take l.at l.rows) l.first l.least
