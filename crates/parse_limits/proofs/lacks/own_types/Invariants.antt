use Rattle.std.proofs.Common.{◌≡◌, [], ◌++◌, drop}
use Rattle.parse_limits.specs.Lacks.{own_types}
use Rattle.parse_limits.proofs.lacks.own_types.Given as goal

abbrev pub invariant-loop-made : goal.invariant-loop-made
invariant-loop-made l = l.own.items ++ own_types l.vars.items (drop l.made-index l.acts) ≡ own_types [] l.acts
