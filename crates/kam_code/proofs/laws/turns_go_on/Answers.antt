use Rattle.kam_code.proofs.Turns.{turn_grows, turn_calls}
use Rattle.kam_code.proofs.laws.turns_go_on.Goals as goal

pub returns-clause-grow : goal.returns-clause-grow
returns-clause-grow c = turn_grows

pub returns-clause-calls : goal.returns-clause-calls
returns-clause-calls c = turn_calls
