use Rattle.std.proofs.Common.{◌≡◌, take}
use Rattle.region_erase.proofs.copy_datatypes.Given as goal

abbrev pub invariant-loop-datatype : goal.invariant-loop-datatype
invariant-loop-datatype l = l.copies.items ≡ take l.datatype-index l.datatype-items
