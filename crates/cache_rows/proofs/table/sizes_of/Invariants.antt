use Rattle.std.proofs.Common.{◌≡◌, ◌+◌, ◌-◌, ◌^◌, ◌≤◌, min}
use Rattle.cache_rows.specs.RowMachine.{sizes, pickle_size}
use Rattle.cache_rows.specs.Indexed.{rows_of}
use Rattle.cache_rows.proofs.table.sizes_of.Given as goal

abbrev pub invariant-loop-key : goal.invariant-loop-key
invariant-loop-key l = (min (l.sum + sizes pickle_size (rows_of l.key-iterator)) (2 ^ 128 - 1) ≡ min (sizes pickle_size (rows_of l.rows.entries)) (2 ^ 128 - 1)) × (l.sum ≤ 2 ^ 128 - 1)
