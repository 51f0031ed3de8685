use Rattle.hm_types.proofs.Growth.{empty-table}
use Rattle.hm_types.proofs.type_table.TypeTable.make.Goals as goal

pub invariant_of-result : goal.invariant_of-result
invariant_of-result c = empty-table _ _ _ _ _ c.new.ensures.items c.new-2.ensures.items c.new-3.ensures.items c.new-4.ensures.items c.new-5.ensures.items
