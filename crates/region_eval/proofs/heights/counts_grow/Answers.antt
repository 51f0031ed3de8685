use Rattle.region_eval.proofs.GroundLevels as ground
use Rattle.region_eval.proofs.RegionLevels as region
use Rattle.region_eval.proofs.heights.counts_grow.Goals as goal

pub returns-clause-specialised_expressions : goal.returns-clause-specialised_expressions
returns-clause-specialised_expressions c = ground.grown_exp

pub returns-clause-specialised_declarations : goal.returns-clause-specialised_declarations
returns-clause-specialised_declarations c = ground.grown_decs

pub returns-clause-region_expressions : goal.returns-clause-region_expressions
returns-clause-region_expressions c = region.grown_exp

pub returns-clause-region_declarations : goal.returns-clause-region_declarations
returns-clause-region_declarations c = region.grown_decs
