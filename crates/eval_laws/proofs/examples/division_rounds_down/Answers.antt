use Rattle.std.proofs.Common.{refl}
use Rattle.eval_laws.proofs.examples.division_rounds_down.Goals as goal

pub returns-clause-left : goal.returns-clause-left
returns-clause-left c = λ s. refl

pub returns-clause-left_over : goal.returns-clause-left_over
returns-clause-left_over c = λ s. refl

pub returns-clause-right : goal.returns-clause-right
returns-clause-right c = λ s. refl

pub returns-clause-right_over : goal.returns-clause-right_over
returns-clause-right_over c = λ s. refl
