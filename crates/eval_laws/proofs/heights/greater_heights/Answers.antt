use Rattle.eval_laws.proofs.Levels.{higher_exp, higher_decs}
use Rattle.eval_laws.proofs.heights.greater_heights.Goals as goal

pub returns-clause-expressions : goal.returns-clause-expressions
returns-clause-expressions c = higher_exp

pub returns-clause-declarations : goal.returns-clause-declarations
returns-clause-declarations c = higher_decs
