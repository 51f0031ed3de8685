use Rattle.std.proofs.Common.{◌≡◌, ◌+◌, ◌-◌, ◌≤◌, length, drop}
use Rattle.std.specs.List.{position_or_len}
use Rattle.project_lines.specs.ProjectFile.{is_line_feed}
use Rattle.project_lines.proofs.lines.line_length.Given as goal

abbrev pub invariant-loop-n : goal.invariant-loop-n
invariant-loop-n l = record {
  within : l.n ≤ length l.text;
  same : position_or_len is_line_feed l.text ≡ l.n + position_or_len is_line_feed (drop l.n l.text);
}

abbrev pub decreases-loop-n : goal.decreases-loop-n
decreases-loop-n l = length l.text - l.n
