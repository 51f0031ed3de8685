-- What bytes stand for as unsigned LEB128: DWARF Debugging Information Format, version 5, section 7.6.
use Rattle.std.specs.Prelude.{ℕ, ◌+◌, ◌*◌, ◌%◌, List, [], ◌∷◌}

-- the seven low bits of each byte, the lowest first
abbrev pub leb128_value : List ℕ → ℕ
leb128_value [] = 0
leb128_value (b ∷ bytes) = b % 128 + 128 * leb128_value bytes
