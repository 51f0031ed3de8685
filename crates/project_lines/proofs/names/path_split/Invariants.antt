use Rattle.std.proofs.Common.{◌≡◌, ◌≤◌, length, ◌-◌, ◌++◌, take, drop}
use Rattle.project_lines.specs.Reading.{path_split}
use Rattle.project_lines.proofs.names.path_split.Given as goal

abbrev pub invariant-loop-n : goal.invariant-loop-n
invariant-loop-n l = record {
  within : l.n ≤ length l.text;
  split : path_split l.text ≡ (take l.n l.text ++ (path_split (drop l.n l.text)).0, (path_split (drop l.n l.text)).1);
}

abbrev pub decreases-loop-n : goal.decreases-loop-n
decreases-loop-n l = length l.text - l.n
