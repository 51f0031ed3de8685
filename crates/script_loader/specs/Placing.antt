-- The placing of texts: that their places are numbers of 64 bits.
use Rattle.std.specs.Prelude.{ℕ, ◌+◌, ◌<◌, ◌^◌, length}
use Rattle.sml_syntax.specs.declared.token.Token.{Token}
use Rattle.script_loader.specs.declared.placed.Placed.{Placed}

-- the places of a text, and the one behind its end
abbrev pub Fits : Placed → Type 0
Fits source = source.start + length source.text + 1 < 2 ^ 64

-- the ends of a token that is moved so far
abbrev pub MayMove : ℕ → Token → Type 0
MayMove start token = (start + token.span.from < 2 ^ 64) × (start + token.span.to < 2 ^ 64)
