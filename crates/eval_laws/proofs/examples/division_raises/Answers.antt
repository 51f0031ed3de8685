use Rattle.std.proofs.Common.{refl}
use Rattle.eval_laws.proofs.examples.division_raises.Goals as goal

pub returns-clause-overflow : goal.returns-clause-overflow
returns-clause-overflow c = λ s. refl

pub returns-clause-zero : goal.returns-clause-zero
returns-clause-zero c = λ s. refl
