use Rattle.std.proofs.Common.{◌≡◌, true, take}
use Rattle.std.specs.List.{list_all}
use Rattle.kam_code.specs.Held.{literal_is_held}
use Rattle.kam_code.proofs.code.hold_literals.Given as goal

abbrev pub invariant-loop-instr : goal.invariant-loop-instr
invariant-loop-instr l = list_all literal_is_held (take l.instr-index l.instr-items) ≡ true
