use Rattle.std.proofs.Common.{◌≡◌, [], drop}
use Rattle.parse_limits.specs.Heights.{first_high}
use Rattle.parse_limits.proofs.height.first_high.Given as goal

abbrev pub invariant-loop-made : goal.invariant-loop-made
invariant-loop-made l = first_high (drop l.made-index l.acts) l.heights ≡ first_high l.acts []
