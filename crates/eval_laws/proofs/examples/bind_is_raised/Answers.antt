use Rattle.std.proofs.Common.{refl}
use Rattle.eval_laws.proofs.examples.bind_is_raised.Goals as goal

pub returns : goal.returns
returns c = λ env s. refl
