use Rattle.std.proofs.Common.{◌≡◌, take}
use Rattle.region_syntax.proofs.+specialised_pattern_copies.Given as goal

abbrev pub invariant-copy::specialised::copy_patterns-loop-pat : goal.invariant-copy::specialised::copy_patterns-loop-pat
invariant-copy::specialised::copy_patterns-loop-pat l = l.copies.items ≡ take l.pat-index l.pat-items
