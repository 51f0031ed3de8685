use Rattle.std.proofs.Common.{◌≡◌, map, take}
use Rattle.history_check.specs.Given.{keeper_given}
use Rattle.history_check.proofs.replay.make_database.Given as goal

abbrev pub invariant-loop-tables : goal.invariant-loop-tables
invariant-loop-tables l = l.keepers.items ≡ map keeper_given (take l.tables-index l.given)
