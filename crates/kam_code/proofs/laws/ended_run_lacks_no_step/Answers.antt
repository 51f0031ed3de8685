use Rattle.kam_code.proofs.Runs.{ended-never_stuck}
use Rattle.kam_code.proofs.laws.ended_run_lacks_no_step.Goals as goal

pub returns : goal.returns
returns c = λ code state final end n m e s. ended-never_stuck code end final n m state e s
