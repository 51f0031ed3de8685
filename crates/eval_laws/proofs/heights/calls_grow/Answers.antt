use Rattle.eval_laws.proofs.Levels.{calls_exp, calls_decs}
use Rattle.eval_laws.proofs.heights.calls_grow.Goals as goal

pub returns-clause-expressions : goal.returns-clause-expressions
returns-clause-expressions c = calls_exp

pub returns-clause-declarations : goal.returns-clause-declarations
returns-clause-declarations c = calls_decs
