use Rattle.kam_code.proofs.Growth.{step_grows, resumed_grows}
use Rattle.kam_code.proofs.laws.steps_grow.Goals as goal

pub returns-clause-steps : goal.returns-clause-steps
returns-clause-steps c = step_grows

pub returns-clause-answers : goal.returns-clause-answers
returns-clause-answers c = resumed_grows
