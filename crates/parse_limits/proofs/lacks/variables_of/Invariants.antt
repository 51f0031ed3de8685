use Rattle.std.proofs.Common.{◌≡◌, drop}
use Rattle.parse_limits.specs.Lacks.{variables_of}
use Rattle.parse_limits.proofs.lacks.variables_of.Given as goal

abbrev pub invariant-loop-types : goal.invariant-loop-types
invariant-loop-types l = variables_of l.name (drop l.types-index l.own) ≡ variables_of l.name l.own
