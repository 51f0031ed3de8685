use Rattle.std.proofs.Common.{◌≡◌, [], length}
use Rattle.cache_rows.specs.RowMachine.{kept, pickle_size}
use Rattle.cache_rows.proofs.list_rows.shrink.Given as goal

-- what is kept of the rows is what is kept of those at first
abbrev pub invariant-loop-rows : goal.invariant-loop-rows
invariant-loop-rows l = kept pickle_size l.most [] l.rows.items ≡ kept pickle_size l.most [] l.initial.rows.items

abbrev pub decreases-loop-rows : goal.decreases-loop-rows
decreases-loop-rows l = length l.rows.items
