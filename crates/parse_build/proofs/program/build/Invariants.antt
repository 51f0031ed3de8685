use Rattle.std.proofs.Common.{◌≡◌, []}
use Rattle.parse_build.specs.Building.{apply_all}
use Rattle.parse_build.proofs.program.build.Given as goal

abbrev pub invariant-loop-made : goal.invariant-loop-made
invariant-loop-made l = l.values ≡ apply_all l.yielded []
