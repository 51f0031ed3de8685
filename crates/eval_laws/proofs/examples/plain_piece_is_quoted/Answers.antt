use Rattle.std.proofs.Common.{refl}
use Rattle.eval_laws.proofs.examples.plain_piece_is_quoted.Goals as goal

pub returns : goal.returns
returns c = λ part env s. refl
