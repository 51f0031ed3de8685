use Rattle.grammar_trees.proofs.Complete.{one-tree}
use Rattle.grammar_trees.proofs.laws.one_tree.Goals as goal

pub returns : goal.returns
returns c = one-tree
