use Rattle.std.proofs.Common.{◌≡◌, take}
use Rattle.sml_syntax.proofs.+pattern_copies.Given as goal

abbrev pub invariant-copy::patterns::copy_patterns-loop-pat :
    goal.invariant-copy::patterns::copy_patterns-loop-pat
invariant-copy::patterns::copy_patterns-loop-pat l = l.copies.items ≡ take l.pat-index l.pat-items
