use Rattle.std.proofs.Common.{take}
use Rattle.hm_types.specs.Joining.{Within}
use Rattle.hm_scheme.proofs.types.Types.fits.Given as goal

abbrev pub invariant-loop-part : goal.invariant-loop-part
invariant-loop-part l = Within l.count (take l.part-index l.parts)
