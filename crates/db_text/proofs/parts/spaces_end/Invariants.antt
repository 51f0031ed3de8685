use Rattle.std.proofs.Common.{◌≡◌, ℕ, ◌-◌, ◌≤◌, List, ◌∷◌, length, drop}
use Rattle.web_data.specs.StatementReading.{Left, Spaces, run}
use Rattle.db_text.proofs.parts.spaces_end.Given as goal

-- what runs from here runs from the first space
abbrev pub invariant-loop-at : goal.invariant-loop-at
invariant-loop-at l = record {
  within : l.at ≤ length l.bytes;
  whole : (ts : List (List ℕ)) (ps : List Left) → run ts (Spaces ∷ ps) (drop l.from l.bytes) l.from ≡ run ts (Spaces ∷ ps) (drop l.at l.bytes) l.at;
}

abbrev pub decreases-loop-at : goal.decreases-loop-at
decreases-loop-at l = length l.bytes - l.at
