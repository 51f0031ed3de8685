use Rattle.std.proofs.Common.{◌≡◌, length}
use Rattle.project_lines.specs.Reading.{parent_later}
use Rattle.project_lines.proofs.names.parent_later.Given as goal

abbrev pub invariant-loop-rest : goal.invariant-loop-rest
invariant-loop-rest l = parent_later l.name ≡ parent_later l.rest

abbrev pub decreases-loop-rest : goal.decreases-loop-rest
decreases-loop-rest l = length l.rest
