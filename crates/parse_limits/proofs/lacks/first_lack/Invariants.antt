use Rattle.std.proofs.Common.{◌≡◌, take, drop}
use Rattle.parse_limits.specs.Lacks.{lack_from, first_lack}
use Rattle.parse_limits.proofs.lacks.first_lack.Given as goal

abbrev pub invariant-loop-i : goal.invariant-loop-i
invariant-loop-i l = lack_from l.found l.own.items (take l.i l.acts) (drop l.i l.acts) ≡ first_lack l.acts
