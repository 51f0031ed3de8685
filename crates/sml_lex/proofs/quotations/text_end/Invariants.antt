use Rattle.std.proofs.Common.{◌≡◌, ◌≤◌, ℕ, ◌-◌, drop, length}
use Rattle.sml_lex.specs.Moves.{TextTo}
use Rattle.sml_lex.proofs.quotations.text_end.Given as goal

-- what ends the text from here ends all of it
abbrev pub invariant-loop-at : goal.invariant-loop-at
invariant-loop-at l = record {
  within : l.at ≤ length l.bytes;
  onward : l.from ≤ l.at;
  whole : (m : ℕ) → TextTo l.at (drop l.at l.bytes) m → TextTo l.from (drop l.from l.bytes) m;
}

abbrev pub decreases-loop-at : goal.decreases-loop-at
decreases-loop-at l = length l.bytes - l.at
