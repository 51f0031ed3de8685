-- Where a place is in a text: its line and its column, and the line itself.
use Rattle.std.specs.Prelude.{ℕ, zero, suc, ◌+◌, ◌-◌, ◌==◌, ◌&&◌, nat_le, Bool, List, [], ◌∷◌, ◌++◌, length, take, drop, if◌then◌else◌}
use Rattle.std.specs.List.{list_any}

abbrev pub is_feed : ℕ → Bool
is_feed b = b == 10

-- how many LFs a text has
abbrev pub feeds : List ℕ → ℕ
feeds [] = 0
feeds (b ∷ text) = if is_feed b then 1 + feeds text else feeds text

-- what stands behind the last LF, or all
abbrev pub last_line : List ℕ → List ℕ
last_line [] = []
last_line (b ∷ text) = if list_any is_feed text then last_line text else (if is_feed b then text else b ∷ text)

-- what stands before the first LF, or all
abbrev pub first_line : List ℕ → List ℕ
first_line [] = []
first_line (b ∷ text) = if is_feed b then [] else b ∷ first_line text

-- what stands behind the first LF
abbrev pub later_lines : List ℕ → List ℕ
later_lines [] = []
later_lines (b ∷ text) = if is_feed b then text else later_lines text

-- the number of the line that holds the byte at a place, from 1
abbrev pub line_at : ℕ → List ℕ → ℕ
line_at place text = 1 + feeds (take place text)

-- the number of the byte in its line, from 1
abbrev pub column_at : ℕ → List ℕ → ℕ
column_at place text = 1 + length (last_line (take place text))

-- the line that holds the byte
abbrev pub source_at : ℕ → List ℕ → List ℕ
source_at place text = last_line (take place text) ++ first_line (drop place text)

-- the lines behind so many
abbrev pub lines_behind : ℕ → List ℕ → List ℕ
lines_behind zero text = text
lines_behind (suc n) text = lines_behind n (later_lines text)

-- the line of this number, from 1
abbrev pub source_line : ℕ → List ℕ → List ℕ
source_line number text = first_line (lines_behind (number - 1) text)

-- a tab stays, any other byte is a blank
abbrev pub blank_of : ℕ → ℕ
blank_of b = if b == 9 then 9 else 32

-- a byte of a character in UTF-8 that isn't its first
abbrev pub is_later : ℕ → Bool
is_later b = nat_le 128 b && nat_le b 191

-- blanks as wide as a text on one line. The later bytes of a character that has several take none.
abbrev pub blanks : List ℕ → List ℕ
blanks [] = []
blanks (b ∷ text) = if is_later b then blanks text else blank_of b ∷ blanks text
