use Rattle.std.proofs.Common.{take, drop}
use Rattle.cache_rows.specs.RowMachine.{RowRun, MomentsRise}
use Rattle.cache_rows.proofs.runs.run_rows.Given as goal

-- the calls so far were made, and those to come rise from the last moment
abbrev pub invariant-loop-call : goal.invariant-loop-call
invariant-loop-call g l = RowRun (g.R.RowStore.state l.initial.rows) (take l.call-index l.calls) l.answers.items (g.R.RowStore.state l.rows) × MomentsRise (g.R.RowStore.state l.rows).last (drop l.call-index l.calls)
