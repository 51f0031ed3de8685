use Rattle.std.proofs.Common.{◌≡◌, take}
use Rattle.region_syntax.proofs.+region_pattern_copies.Given as goal

abbrev pub invariant-copy::region::copy_patterns-loop-pat : goal.invariant-copy::region::copy_patterns-loop-pat
invariant-copy::region::copy_patterns-loop-pat l = l.copies.items ≡ take l.pat-index l.pat-items
