use Rattle.std.proofs.Common.{◌≡◌, ℕ, ◌≤◌, List, ◌∷◌, length, drop}
use Rattle.web_data.specs.StatementReading.{Left, Word, run}
use Rattle.db_text.proofs.parts.word_end.Given as goal

-- what runs from here with the rest of the word runs from its start
abbrev pub invariant-loop-c : goal.invariant-loop-c
invariant-loop-c l = record {
  within : l.at ≤ length l.bytes;
  whole : (ts : List (List ℕ)) (ps : List Left) → run ts (Word l.word ∷ ps) (drop l.from l.bytes) l.from ≡ run ts (Word (drop l.c-index l.word) ∷ ps) (drop l.at l.bytes) l.at;
}
