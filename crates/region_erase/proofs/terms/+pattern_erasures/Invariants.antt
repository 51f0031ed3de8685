use Rattle.std.proofs.Common.{◌≡◌, map, take}
use Rattle.region_syntax.specs.GroundTerms.{ground_pat}
use Rattle.region_syntax.specs.Erasure.{pat_erasure}
use Rattle.region_erase.proofs.terms.+pattern_erasures.Given as goal

abbrev pub invariant-erase_pats-loop-pat : goal.invariant-erase_pats-loop-pat
invariant-erase_pats-loop-pat l = map ground_pat l.erased.items ≡ map pat_erasure (take l.pat-index l.pat-items)
