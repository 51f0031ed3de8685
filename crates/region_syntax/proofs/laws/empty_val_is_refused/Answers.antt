use Rattle.region_syntax.proofs.EmptyVal.{no_ground_val, no_region_val, no_val_item}
use Rattle.region_syntax.proofs.laws.empty_val_is_refused.Goals as goal

pub returns-clause-ground : goal.returns-clause-ground
returns-clause-ground c = no_ground_val

pub returns-clause-region : goal.returns-clause-region
returns-clause-region c = no_region_val

pub returns-clause-item : goal.returns-clause-item
returns-clause-item c = no_val_item
