use Rattle.std.proofs.Common.{◌≡◌, ◌≤◌, length, drop}
use Rattle.parse_limits.specs.Lacks.{pushed}
use Rattle.parse_limits.proofs.lacks.pushed.Given as goal

abbrev pub invariant-loop-name : goal.invariant-loop-name
invariant-loop-name l = (l.at ≤ length l.acts) × (pushed (drop l.name-index l.names) (drop l.at l.acts) ≡ pushed l.names l.acts)
