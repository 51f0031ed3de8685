use Rattle.eval_laws.proofs.HeldNames.{holds}
use Rattle.eval_laws.proofs.examples.hidden_constructor_is_held.Goals as goal

pub returns : goal.returns
returns c = λ at v. holds at v
