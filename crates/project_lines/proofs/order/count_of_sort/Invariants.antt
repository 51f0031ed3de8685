use Rattle.std.proofs.Common.{◌≡◌, ◌+◌, ◌≤◌, length}
use Rattle.project_lines.specs.ProjectFile.{count_of_sort}
use Rattle.project_lines.proofs.order.count_of_sort.Given as goal

abbrev pub invariant-loop-rest : goal.invariant-loop-rest
invariant-loop-rest l = record {
  within : l.count + length l.rest ≤ length l.lines;
  same : count_of_sort l.sort l.lines ≡ l.count + count_of_sort l.sort l.rest;
}

abbrev pub decreases-loop-rest : goal.decreases-loop-rest
decreases-loop-rest l = length l.rest
