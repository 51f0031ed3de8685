use Rattle.std.proofs.Common.{◌≡◌, map, take}
use Rattle.region_syntax.specs.GroundTypes.{ground_type}
use Rattle.region_syntax.specs.Erasure.{type_erasure}
use Rattle.region_erase.proofs.types.+type_erasures.Given as goal

abbrev pub invariant-erase_types-loop-ty : goal.invariant-erase_types-loop-ty
invariant-erase_types-loop-ty l = map ground_type l.erased.items ≡ map type_erasure (take l.ty-index l.ty-items)
