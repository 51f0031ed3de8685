-- Names with numbers, different ones for different names. Of this project.
use Rattle.std.specs.Prelude.{◌≡◌, ℕ, ◌<◌, List, map, Option, Some}
use Rattle.std.specs.Str.{bytes_eq}
use Rattle.std.specs.declared.alloc.Global.{Global}
use Rattle.std.specs.declared.vec.Vec.{Vec}
use Rattle.std.specs.Map.{lookup}
use Rattle.std.specs.HashMap.{HashMap}

-- names with their numbers
abbrev pub Numbered : Type 0
Numbered = List (List ℕ × ℕ)

-- those of a table
abbrev pub shown_numbers : {S : Type 0} → HashMap (Vec ℕ Global) ℕ S → Numbered
shown_numbers numbers = map (λ e. (e.0.items, e.1)) numbers.entries

-- the number of a name
abbrev pub number_in : Numbered → List ℕ → Option ℕ
number_in numbers name = lookup (bytes_eq name) numbers

-- no two names have the same number
abbrev pub AllApart : Numbered → Type 0
AllApart numbers = (one other : List ℕ) (n : ℕ) → number_in numbers one ≡ Some n → number_in numbers other ≡ Some n → one ≡ other

-- each name of the first has its number in the second, too
abbrev pub HasNumbersOf : Numbered → Numbered → Type 0
HasNumbersOf old new = (name : List ℕ) (n : ℕ) → number_in old name ≡ Some n → number_in new name ≡ Some n

-- the numbers are below a bound, and no two names have the same one
pub record IsNumbering (number_of : List ℕ → Option ℕ) (bound : ℕ) : Type 0 where
  pub below : (name : List ℕ) (n : ℕ) → number_of name ≡ Some n → n < bound
  pub apart : (one other : List ℕ) (n : ℕ) → number_of one ≡ Some n → number_of other ≡ Some n → one ≡ other
