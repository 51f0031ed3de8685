-- How the name of a table is written in a file, where names that differ in case alone are one, and some are not free.
use Rattle.std.specs.Prelude.{◌≡◌, ◌≤◌, ◌⊎◌, List, [], ◌∷◌, ◌++◌, ℕ, ◌+◌, ◌-◌, ◌==◌, Bool, true, false, if◌then◌else◌}

-- the name of which this is written in the file: behind `^` stands a capital, as its small letter, and `%` stands
-- before a name that would not be free. The flag says that a `^` came just before.
abbrev pub read_from : Bool → List ℕ → List ℕ
read_from behind [] = []
read_from true (b ∷ bs) = (b - 32) ∷ read_from false bs
read_from false (b ∷ bs) = if b == 94 then read_from true bs else (if b == 37 then read_from false bs else b ∷ read_from false bs)

abbrev pub read_back : List ℕ → List ℕ
read_back = read_from false

-- a small letter, a digit or `_`
abbrev pub IsPlainByte : ℕ → Type 0
IsPlainByte b = ((97 ≤ b) × (b ≤ 122)) ⊎ (((48 ≤ b) × (b ≤ 57)) ⊎ (b ≡ 95))

-- a byte that is written: no capital, and no quote
abbrev pub IsFileByte : ℕ → Type 0
IsFileByte b = IsPlainByte b ⊎ ((b ≡ 94) ⊎ (b ≡ 37))

-- one more byte of a name is written: a capital as `^` and its small letter, any other as it is
abbrev pub Writes : ℕ → List ℕ → List ℕ → Type 0
Writes b old new = (((65 ≤ b) × (b ≤ 90)) × (new ≡ old ++ 94 ∷ (b + 32) ∷ [])) ⊎ (IsPlainByte b × (new ≡ old ++ b ∷ []))
