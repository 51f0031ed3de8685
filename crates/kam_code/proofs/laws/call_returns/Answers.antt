use Rattle.std.proofs.Common.{refl}
use Rattle.kam_code.proofs.laws.call_returns.Goals as goal

pub returns : goal.returns
returns c = refl
