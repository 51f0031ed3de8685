use Rattle.std.proofs.Common.{◌≡◌, ◌≤◌, true, length}
use Rattle.std.specs.List.{list_all}
use Rattle.std.specs.Char.{is_ascii_digit}
use Rattle.http_read.specs.Head.{number_after, most_body}
use Rattle.http_read.proofs.text.body_length.Given as goal

abbrev pub invariant-loop-digits : goal.invariant-loop-digits
invariant-loop-digits l = record {
  digits : list_all is_ascii_digit l.digits ≡ true;
  number : number_after l.number l.digits ≡ number_after 0 l.fn.digits;
  small : l.number ≤ most_body;
}

abbrev pub decreases-loop-digits : goal.decreases-loop-digits
decreases-loop-digits l = length l.digits
