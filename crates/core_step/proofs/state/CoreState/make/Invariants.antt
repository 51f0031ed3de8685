use Rattle.std.proofs.Common.{◌≡◌}
use Rattle.history_core.specs.Core.{numbers}
use Rattle.core_step.proofs.Starting.{nones}
use Rattle.core_step.proofs.state.CoreState.make.Given as goal

abbrev pub invariant-loop-page : goal.invariant-loop-page
invariant-loop-page l = l.free.items ≡ numbers l.page

abbrev pub invariant-loop : goal.invariant-loop
invariant-loop l = l.holders.items ≡ nones l.counter
