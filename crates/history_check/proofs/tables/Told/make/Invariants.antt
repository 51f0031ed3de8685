use Rattle.std.proofs.Common.{◌≡◌, drop}
use Rattle.history_check.specs.Given.{created, keeper_given}
use Rattle.history_check.proofs.tables.Told.make.Given as goal

abbrev pub invariant-loop-table : goal.invariant-loop-table
invariant-loop-table l = created (drop l.table-index l.table-items) l.told ≡ keeper_given l.fn.given
