use Rattle.std.proofs.Common.{◌≡◌, ◌-◌}
use Rattle.kam_code.specs.Step.{steps}
use Rattle.smlserver_top.proofs.machine.Machine.run.Given as goal

abbrev pub invariant-loop-turn : goal.invariant-loop-turn
invariant-loop-turn l = steps l.code (l.most - l.turn) l.self ≡ steps l.code l.most l.initial.self
