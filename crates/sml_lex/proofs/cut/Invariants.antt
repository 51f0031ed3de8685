use Rattle.std.proofs.Common.{◌≤◌, ℕ, ◌-◌, ◌++◌, List, drop, length}
use Rattle.sml_syntax.specs.declared.token.Token.{Token}
use Rattle.grammar_rules.specs.Spelling.{Refusal}
use Rattle.grammar_rules.specs.Tokens.{Program, Lexes, Refuses}
use Rattle.sml_lex.proofs.cut.Given as goal

-- what the rest comes to, the whole comes to
abbrev pub invariant-loop-at : goal.invariant-loop-at
invariant-loop-at l = record {
  within : l.at ≤ length l.bytes;
  whole : (ts : List Token) → Lexes l.quotes l.at (drop l.at l.bytes) ts → Lexes Program 0 l.bytes (l.tokens.items ++ ts);
  refused : (r : Refusal) → Refuses l.quotes l.at (drop l.at l.bytes) r → Refuses Program 0 l.bytes r;
}

abbrev pub decreases-loop-at : goal.decreases-loop-at
decreases-loop-at l = length l.bytes - l.at
