use Rattle.std.proofs.Common.{refl}
use Rattle.kam_code.proofs.laws.raise_leaves_two_frames.Goals as goal

pub returns : goal.returns
returns c = refl
