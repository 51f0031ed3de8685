use Rattle.std.proofs.Common.{refl}
use Rattle.eval_laws.proofs.examples.constructors_are_told_apart.Goals as goal

pub returns-clause-match_other : goal.returns-clause-match_other
returns-clause-match_other c = λ s. refl

pub returns-clause-match_same : goal.returns-clause-match_same
returns-clause-match_same c = λ s. refl

pub returns-clause-equality : goal.returns-clause-equality
returns-clause-equality c = λ part s. refl

pub returns-clause-index : goal.returns-clause-index
returns-clause-index c = λ part s. refl
