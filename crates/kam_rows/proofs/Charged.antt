-- What is given back, and what the calls on a store leave.
use Rattle.std.proofs.Common.{◌≡◌, ℕ, ◌≤◌, arith}
use Rattle.kam_rows.specs.Charged.{given_back}
use Rattle.kam_rows.specs.declared.row.Row.{Row}
use Rattle.kam_rows.specs.declared.row.Row.TheVariants as row

pub given_back_at_most : (r : Row) → given_back r ≤ 1
given_back_at_most row.Going = omega arith
given_back_at_most row.Halted = omega arith
given_back_at_most _ = omega arith
