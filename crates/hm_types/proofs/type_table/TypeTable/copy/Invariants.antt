use Rattle.std.proofs.Common.{length}
use Rattle.hm_types.specs.Joining.{Within}
use Rattle.hm_types.specs.Solving.{Grows}
use Rattle.hm_types.proofs.type_table.TypeTable.copy.Given as goal

abbrev pub invariant-loop-i : goal.invariant-loop-i
invariant-loop-i l = Grows l.initial.self l.self × Within (length l.self.nodes) l.copies.items
