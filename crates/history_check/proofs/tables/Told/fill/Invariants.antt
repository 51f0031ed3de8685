use Rattle.std.proofs.Common.{◌≡◌, drop}
use Rattle.history_check.specs.Given.{filled}
use Rattle.history_check.proofs.tables.Told.fill.Given as goal

abbrev pub invariant-loop-row : goal.invariant-loop-row
invariant-loop-row l = filled l.name (drop l.row-index l.rows) l.self ≡ filled l.fn.name l.fn.rows l.fn.self
