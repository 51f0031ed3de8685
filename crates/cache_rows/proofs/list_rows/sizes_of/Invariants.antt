use Rattle.std.proofs.Common.{◌≡◌, ◌+◌, ◌-◌, ◌^◌, ◌≤◌, min, drop}
use Rattle.cache_rows.specs.RowMachine.{sizes, pickle_size}
use Rattle.cache_rows.proofs.list_rows.sizes_of.Given as goal

abbrev pub invariant-loop-row : goal.invariant-loop-row
invariant-loop-row l = (min (l.sum + sizes pickle_size (drop l.row-index l.rows)) (2 ^ 128 - 1) ≡ min (sizes pickle_size l.rows) (2 ^ 128 - 1)) × (l.sum ≤ 2 ^ 128 - 1)
