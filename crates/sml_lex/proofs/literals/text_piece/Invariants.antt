use Rattle.std.proofs.Common.{◌≡◌, ◌≤◌, ℕ, ◌+◌, ◌-◌, [], drop, length}
use Rattle.grammar_rules.specs.Spelling.{Reading, literal, TextOf}
use Rattle.sml_lex.specs.Ends.{Ends}
use Rattle.sml_lex.proofs.literals.text_piece.Given as goal

-- what ends the text from here ends all of it
abbrev pub invariant-loop-at : goal.invariant-loop-at
invariant-loop-at l = record {
  within : l.at ≤ length l.bytes;
  whole : (r : Reading) (to : ℕ) → Ends (literal l.start (TextOf l.value.items) l.at) l.at (drop l.at l.bytes) r to →
      Ends (literal l.start (TextOf []) (l.start + 1)) (l.start + 1) (drop (l.start + 1) l.bytes) r to;
}

abbrev pub decreases-loop-at : goal.decreases-loop-at
decreases-loop-at l = length l.bytes - l.at
