use Rattle.std.proofs.Common.{◌≡◌, take}
use Rattle.region_syntax.proofs.+type_copies.Given as goal

abbrev pub invariant-copy::types::copy_types-loop-ty : goal.invariant-copy::types::copy_types-loop-ty
invariant-copy::types::copy_types-loop-ty l = l.copies.items ≡ take l.ty-index l.ty-items
