use Rattle.eval_laws.proofs.Levels.{more_exp, more_decs}
use Rattle.eval_laws.proofs.heights.more_answers.Goals as goal

pub returns-clause-expressions : goal.returns-clause-expressions
returns-clause-expressions c = more_exp

pub returns-clause-declarations : goal.returns-clause-declarations
returns-clause-declarations c = more_decs
