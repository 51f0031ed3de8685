use Rattle.grammar_trees.proofs.Complete.{complete}
use Rattle.grammar_trees.proofs.laws.programs_are_accepted.Goals as goal

pub returns : goal.returns
returns c = complete
