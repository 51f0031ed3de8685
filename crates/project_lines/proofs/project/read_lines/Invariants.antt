use Rattle.std.proofs.Common.{◌+◌, ◌≤◌, length}
use Rattle.project_lines.specs.Refused.{Taken}
use Rattle.project_lines.proofs.project.read_lines.Given as goal

abbrev pub invariant-loop-rest : goal.invariant-loop-rest
invariant-loop-rest l = record {
  within : l.number + length l.rest ≤ length l.text;
  taken : Taken l.text l.rest l.lines.items l.number;
}

abbrev pub decreases-loop-rest : goal.decreases-loop-rest
decreases-loop-rest l = length l.rest
