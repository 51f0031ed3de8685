use Rattle.std.proofs.Common.{refl}
use Rattle.eval_laws.proofs.examples.references_are_told_apart.Goals as goal

pub returns-clause-same : goal.returns-clause-same
returns-clause-same c = λ part s. refl

pub returns-clause-other : goal.returns-clause-other
returns-clause-other c = λ part s. refl
