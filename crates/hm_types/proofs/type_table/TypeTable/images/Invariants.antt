use Rattle.std.proofs.Common.{length, ◌≡◌}
use Rattle.hm_types.specs.Joining.{Within}
use Rattle.hm_types.proofs.type_table.TypeTable.images.Given as goal

abbrev pub invariant-loop-i : goal.invariant-loop-i
invariant-loop-i l = Within (length l.self.nodes) l.images.items × (length l.images.items ≡ l.i)
