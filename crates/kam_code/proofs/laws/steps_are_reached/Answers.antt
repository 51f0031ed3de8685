use Rattle.kam_code.proofs.Turns.{start_reached}
use Rattle.kam_code.proofs.laws.steps_are_reached.Goals as goal

pub returns : goal.returns
returns c = start_reached
