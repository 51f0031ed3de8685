-- Numbers and their digits.
use Rattle.std.proofs.Common.{ℕ, ◌+◌, ◌*◌, ◌-◌, ◌≤◌, List, [], ◌∷◌, arith}
use Rattle.project_lines.specs.Names.{number_after}

-- more digits make no smaller number
pub number_grows : (n : ℕ) (digits : List ℕ) → n ≤ number_after n digits
number_grows n [] = omega arith
number_grows n (d ∷ digits) = let more = number_grows (n * 10 + (d - 48)) digits in omega (arith, more)
