use Rattle.kam_code.specs.Step.{steps}
use Rattle.smlserver_top.proofs.Steps.{steps_stop}
use Rattle.smlserver_top.proofs.machine.Machine.run.Goals as goal

pub returns-in_default : goal.returns-in_default
returns-in_default c =
    steps_stop c.args.code.now c.args.most c.loop-turn.turn c.in_ok-stop.stop c.loop-turn.self c.step.new.self (steps c.args.code.now c.args.most c.args.self.now)
    c.loop-turn-test.true c.loop-turn.invariant c.in_ok-stop.ensures c.in_default.not-Going
