use Rattle.std.proofs.Common.{refl}
use Rattle.kam_code.proofs.laws.pair_is_read.Goals as goal

pub returns : goal.returns
returns c = refl
