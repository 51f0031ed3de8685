use Rattle.std.proofs.Common.{◌≡◌, take}
use Rattle.history_check.specs.Given.{databases_given}
use Rattle.history_check.proofs.replay.Replay.make.Given as goal

abbrev pub invariant-loop-at : goal.invariant-loop-at
invariant-loop-at l = l.databases.items ≡ databases_given (take l.at l.names) (take l.at l.keepers)
