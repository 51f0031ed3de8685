use Rattle.std.proofs.Common.{◌≡◌, ◌≤◌, ◌<◌, ℕ, List, ◌+◌, ◌-◌, [], ◌∷◌, drop, length, get_or, false}
use Rattle.std.specs.List.{slice_range}
use Rattle.grammar_rules.specs.Spelling.{Reading, names, is_name_byte}
use Rattle.sml_lex.specs.Ends.{Ends}
use Rattle.sml_lex.proofs.names.name_piece.Given as goal

-- what ends the name from here ends all of it
abbrev pub invariant-loop-word : goal.invariant-loop-word
invariant-loop-word l = record {
  first : l.at ≤ l.word;
  onward : l.word < l.end;
  within : l.end ≤ length l.bytes;
  stops : (y : ℕ) (zs : List ℕ) → drop l.end l.bytes ≡ y ∷ zs → is_name_byte y ≡ false;
  whole : (r : Reading) (to : ℕ) → Ends (names l.at (slice_range l.bytes l.at l.word) (slice_range l.bytes l.word l.end)) l.end (drop l.end l.bytes) r to →
      Ends (names l.at [] (get_or l.bytes l.at 0 ∷ [])) (l.at + 1) (drop (l.at + 1) l.bytes) r to;
}

abbrev pub decreases-loop-word : goal.decreases-loop-word
decreases-loop-word l = length l.bytes - l.end
