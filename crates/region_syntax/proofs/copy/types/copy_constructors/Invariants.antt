use Rattle.std.proofs.Common.{◌≡◌, take}
use Rattle.region_syntax.proofs.copy.types.copy_constructors.Given as goal

abbrev pub invariant-loop-constructor : goal.invariant-loop-constructor
invariant-loop-constructor l = l.copies.items ≡ take l.constructor-index l.constructor-items
