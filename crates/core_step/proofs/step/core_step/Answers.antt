use Rattle.std.proofs.Common.{subst}
use Rattle.history_core.specs.Core.{CoreStep}
use Rattle.core_step.proofs.step.core_step.Goals as goal

pub returns-in-DbCall-clause-refused : goal.returns-in-DbCall-clause-refused
returns-in-DbCall-clause-refused c e new s =
    c.call_database.ensures.refused e new (subst (λ z. CoreStep c.args.state.now z new) c.in-DbCall.is s)
