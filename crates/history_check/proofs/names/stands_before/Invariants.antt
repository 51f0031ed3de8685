use Rattle.std.proofs.Common.{◌≡◌, ◌<◌, ℕ, slice_get}
use Rattle.history_check.proofs.names.stands_before.Given as goal

abbrev pub invariant-loop-j : goal.invariant-loop-j
invariant-loop-j l = (i : ℕ) → i < l.j → slice_get l.names i ≡ slice_get l.names l.at → ⊥
