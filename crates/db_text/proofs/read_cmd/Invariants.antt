use Rattle.std.proofs.Common.{◌≡◌, ◌≤◌, ℕ, drop}
use Rattle.db_text.proofs.Commands.{AllStop, SomeStops, forms}
use Rattle.db_text.proofs.read_cmd.Given as goal

-- where the forms that are left stop no farther than a place, all do; and the place so far is where one stops
abbrev pub invariant-loop-form : goal.invariant-loop-form
invariant-loop-form l = record {
  whole : l.form-items ≡ forms;
  stops : (place : ℕ) → l.place ≤ place → AllStop l.bytes (drop l.form-index l.form-items) place → AllStop l.bytes forms place;
  some : SomeStops l.bytes l.place;
}
