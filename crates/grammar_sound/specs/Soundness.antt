-- Which lists of tokens the laws of the machine speak of.
use Rattle.std.specs.Prelude.{◌<◌, ◌^◌, List, length}
use Rattle.sml_syntax.specs.declared.token.Token.{Token}

-- no slice has more tokens; from there on the machine's counts of patterns would stand still
abbrev pub FitsSlice : List Token → Type 0
FitsSlice tokens = length tokens < 2 ^ 64
