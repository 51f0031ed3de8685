use Rattle.region_eval.proofs.GroundLevels as ground
use Rattle.region_eval.proofs.heights.answers_extend.Goals as goal

pub returns-clause-specialised_expressions : goal.returns-clause-specialised_expressions
returns-clause-specialised_expressions c = ground.more_exp

pub returns-clause-specialised_declarations : goal.returns-clause-specialised_declarations
returns-clause-specialised_declarations c = ground.more_decs
