use Rattle.std.proofs.Common.{◌≡◌, map, take}
use Rattle.region_syntax.specs.GroundTerms.{ground_exception}
use Rattle.region_syntax.specs.Erasure.{exception_erasure}
use Rattle.region_erase.proofs.erase_exceptions.Given as goal

abbrev pub invariant-loop-exception : goal.invariant-loop-exception
invariant-loop-exception l = map ground_exception l.erased.items ≡ map exception_erasure (take l.exception-index l.exception-items)
