use Rattle.value_pickle.proofs.OneForm.{equal_pickles}
use Rattle.value_pickle.proofs.laws.equal_pickles_are_of_equal_data.Goals as goal

pub returns-clause-data : goal.returns-clause-data
returns-clause-data c = equal_pickles
