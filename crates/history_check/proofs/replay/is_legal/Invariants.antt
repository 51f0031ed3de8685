use Rattle.std.proofs.Common.{take}
use Rattle.history_core.specs.LegalHistory.{LegalRun, start}
use Rattle.history_check.specs.Given.{databases_given}
use Rattle.history_check.specs.Replaying.{IsSingle}
use Rattle.history_check.proofs.replay.is_legal.Given as goal

-- the machines after the first entries
abbrev pub invariant-loop-entry : goal.invariant-loop-entry
invariant-loop-entry l = LegalRun (start (databases_given l.fn.names l.fn.keepers)) (take l.entry-index l.fn.entries) l.replay × IsSingle l.replay
