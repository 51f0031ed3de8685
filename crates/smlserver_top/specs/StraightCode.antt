-- The instructions of straight code: those of which the code of a script's parts consists.
use Rattle.std.specs.Prelude.{◌≡◌, ℕ, Bool, true, false, List, slice_get, Some}
use Rattle.kam_code.specs.declared.instr.Instr.{Instr}
use Rattle.kam_code.specs.declared.instr.Instr.TheVariants.{Const, Text, Mul, TextFromInt, TextCat, Write, Halt}

abbrev pub is_straight : Instr → Bool
is_straight (Const k) = true
is_straight (Text i) = true
is_straight Mul = true
is_straight TextFromInt = true
is_straight TextCat = true
is_straight Write = true
is_straight Halt = true
is_straight _ = false

-- each instruction of the code is one of them
abbrev pub AreStraight : List Instr → Type 0
AreStraight instrs = (address : ℕ) (instr : Instr) → slice_get instrs address ≡ Some instr → is_straight instr ≡ true
