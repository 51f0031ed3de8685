use Rattle.std.proofs.Common.{◌≡◌, ℕ, ◌-◌, ◌≤◌, List, ◌∷◌, length, drop}
use Rattle.web_data.specs.StatementReading.{Left, Quoted, Inside, run}
use Rattle.db_text.proofs.parts.read_quoted.Given as goal

-- what runs from here behind the text so far runs from its first quote
abbrev pub invariant-loop-at : goal.invariant-loop-at
invariant-loop-at l = record {
  same : l.texts.items ≡ l.fn.texts.items;
  within : l.at ≤ length l.bytes;
  whole : (ts : List (List ℕ)) (ps : List Left) → run ts (Quoted ∷ ps) (drop l.from l.bytes) l.from ≡ run ts (Inside l.text.items ∷ ps) (drop l.at l.bytes) l.at;
}

abbrev pub decreases-loop-at : goal.decreases-loop-at
decreases-loop-at l = length l.bytes - l.at
