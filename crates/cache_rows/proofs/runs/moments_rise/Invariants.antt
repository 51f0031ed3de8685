use Rattle.std.proofs.Common.{◌↔◌, drop}
use Rattle.cache_rows.specs.RowMachine.{MomentsRise}
use Rattle.cache_rows.proofs.runs.moments_rise.Given as goal

-- the moments rise where those to come do
abbrev pub invariant-loop-call : goal.invariant-loop-call
invariant-loop-call l = MomentsRise l.last (drop l.call-index l.calls) ↔ MomentsRise l.initial.last l.calls
