use Rattle.value_pickle.proofs.OneForm.{no_proper_prefix}
use Rattle.value_pickle.proofs.laws.no_pickle_begins_another.Goals as goal

pub returns : goal.returns
returns c = no_proper_prefix
