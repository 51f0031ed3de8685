use Rattle.std.proofs.Common.{◌+◌, ◌-◌, ◌*◌, vec_len}
use Rattle.kam_machine.proofs.machine.Machine.steps.Given as goal

-- what is left of the budget, and then the slots that the stack may still get
abbrev pub decreases-round : goal.decreases-round
decreases-round g l = l.self.registers.left * 4194305 + (4194304 - vec_len l.self.stack)
