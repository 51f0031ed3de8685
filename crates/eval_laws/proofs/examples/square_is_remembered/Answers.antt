use Rattle.eval_laws.proofs.Square.{page}
use Rattle.eval_laws.proofs.examples.square_is_remembered.Goals as goal

pub returns : goal.returns
returns c = λ at form databases. page form databases at
