use Rattle.std.proofs.Common.{◌≡◌, ◌<◌, ℕ, slice_get, Some}
use Rattle.history_core.specs.LegalHistory.{Database}
use Rattle.history_check.proofs.replay.step_databases.Given as goal

-- none of the first ones has the name
abbrev pub invariant-loop-at : goal.invariant-loop-at
invariant-loop-at l = (l.databases.items ≡ l.fn.databases.items) × ((j : ℕ) (d : Database) → j < l.at → slice_get l.fn.databases.items j ≡ Some d → d.name ≡ l.name → ⊥)
