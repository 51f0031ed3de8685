use Rattle.std.proofs.Common.{◌≡◌, [], length}
use Rattle.cache_rows.specs.RowMachine.{kept, pickle_size}
use Rattle.cache_rows.proofs.rows.shrink.Given as goal

-- what is kept of the rows is what is kept of those at first
abbrev pub invariant-loop-table : goal.invariant-loop-table
invariant-loop-table l = kept pickle_size l.most [] l.table ≡ kept pickle_size l.most [] l.initial.table

abbrev pub decreases-loop-table : goal.decreases-loop-table
decreases-loop-table l = length l.table
