use Rattle.region_eval.proofs.GroundLevels as ground
use Rattle.region_eval.proofs.RegionLevels as region
use Rattle.region_eval.proofs.heights.greater_heights.Goals as goal

pub returns-clause-specialised_expressions : goal.returns-clause-specialised_expressions
returns-clause-specialised_expressions c = ground.higher_exp

pub returns-clause-specialised_declarations : goal.returns-clause-specialised_declarations
returns-clause-specialised_declarations c = ground.higher_decs

pub returns-clause-region_expressions : goal.returns-clause-region_expressions
returns-clause-region_expressions c = region.higher_exp

pub returns-clause-region_declarations : goal.returns-clause-region_declarations
returns-clause-region_declarations c = region.higher_decs
