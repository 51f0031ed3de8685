use Rattle.std.proofs.Common.{◌≡◌, ◌≤◌, ℕ, ◌+◌, ◌-◌, drop, length}
use Rattle.grammar_rules.specs.Spelling.{Reading, comment, Other_byte}
use Rattle.sml_lex.specs.Ends.{Ends}
use Rattle.sml_lex.specs.Coded.{before_as}
use Rattle.sml_lex.proofs.comments.comment_end.Given as goal

-- what ends the comment from here ends all of it
abbrev pub invariant-loop-at : goal.invariant-loop-at
invariant-loop-at l = record {
  within : l.at ≤ length l.bytes;
  depth_in : l.depth ≤ l.at;
  whole : (r : Reading) (to : ℕ) → Ends (comment l.start (before_as l.before) l.depth) l.at (drop l.at l.bytes) r to →
      Ends (comment l.start Other_byte 0) (l.start + 2) (drop (l.start + 2) l.bytes) r to;
}

abbrev pub decreases-loop-at : goal.decreases-loop-at
decreases-loop-at l = length l.bytes - l.at
