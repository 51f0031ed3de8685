use Rattle.std.proofs.Common.{◌≡◌, ℕ, ◌-◌, ◌≤◌, List, ◌∷◌, length, drop}
use Rattle.web_data.specs.StatementReading.{Left, Name, More, run}
use Rattle.db_text.proofs.parts.read_name.Given as goal

-- what runs from here behind the name so far runs from its start
abbrev pub invariant-loop-name : goal.invariant-loop-name
invariant-loop-name l = record {
  within : l.at ≤ length l.bytes;
  whole : (ts : List (List ℕ)) (ps : List Left) → run ts (Name ∷ ps) (drop l.from l.bytes) l.from ≡ run ts (More l.name.items ∷ ps) (drop l.at l.bytes) l.at;
}

abbrev pub decreases-loop-name : goal.decreases-loop-name
decreases-loop-name l = length l.bytes - l.at
