use Rattle.std.proofs.Common.{◌≡◌, ◌≤◌, length, true}
use Rattle.std.specs.List.{list_all}
use Rattle.std.specs.Char.{is_ascii_digit}
use Rattle.project_lines.specs.Names.{number_after}
use Rattle.project_lines.proofs.names.number.Given as goal

abbrev pub invariant-loop-rest : goal.invariant-loop-rest
invariant-loop-rest l = record {
  small : l.value ≤ l.most;
  digits : list_all is_ascii_digit l.rest ≡ true;
  same : number_after 0 l.digits ≡ number_after l.value l.rest;
}

abbrev pub decreases-loop-rest : goal.decreases-loop-rest
decreases-loop-rest l = length l.rest
