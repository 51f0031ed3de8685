use Rattle.std.proofs.Common.{◌≡◌, ◌≤◌, ◌^◌, drop}
use Rattle.grammar_rules.specs.Spelling.{decimal_from}
use Rattle.sml_lex.proofs.numbers.distance.Given as goal

abbrev pub invariant-loop-d : goal.invariant-loop-d
invariant-loop-d l = record {
  value : decimal_from l.n (drop l.d-index l.digits) ≡ decimal_from 0 l.digits;
  within : l.n ≤ 2 ^ 63;
}
