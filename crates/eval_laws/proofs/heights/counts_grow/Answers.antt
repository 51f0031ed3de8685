use Rattle.eval_laws.proofs.Levels.{grown_exp, grown_decs}
use Rattle.eval_laws.proofs.heights.counts_grow.Goals as goal

pub returns-clause-expressions : goal.returns-clause-expressions
returns-clause-expressions c = grown_exp

pub returns-clause-declarations : goal.returns-clause-declarations
returns-clause-declarations c = grown_decs
