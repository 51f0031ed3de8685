use Rattle.std.proofs.Common.{drop}
use Rattle.cache_rows.proofs.Listing.{Lacks}
use Rattle.cache_rows.proofs.list_rows.find.Given as goal

-- where the rows from here on have no such row, there is none
abbrev pub invariant-loop-at : goal.invariant-loop-at
invariant-loop-at l = Lacks l.time l.now l.key (drop l.at l.rows) → Lacks l.time l.now l.key l.rows
