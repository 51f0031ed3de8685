use Rattle.print_laws.proofs.Heights.{same_heights}
use Rattle.print_laws.proofs.laws.same_trees_have_the_same_height.Goals as goal

pub returns : goal.returns
returns c = λ x y e n. same_heights x y e n
