-- What the table reads of a token.
use Rattle.std.specs.Prelude.{ℕ, ◌+◌, ◌==◌, List, [], Bool, true, false, Option, Some, None, cond, nat_lt}
use Rattle.sml_syntax.specs.declared.token.TokenForm.{TokenForm}
use Rattle.sml_syntax.specs.declared.token.TokenForm.TheVariants as f
use Rattle.grammar_rules.specs.InfixNames.{infix_level}

-- the text of a token; none is the empty text
unfoldable pub text_of : TokenForm → List ℕ
text_of (f.Str text) = text
text_of (f.Name text) = text
text_of (f.Long text) = text
text_of (f.TyVar text) = text
text_of (f.Mark text) = text
text_of (f.Plain text) = text
text_of (f.Anti text) = text
text_of _ = []

-- one pattern more; no text is as long as the greatest number of 64 bits
unfoldable pub one_more : ℕ → ℕ
one_more count = cond (nat_lt count 18446744073709551615) (count + 1) count

-- the level at which the right operand of an infix name begins: its own where the level groups to the right
unfoldable pub operand_level : ℕ → ℕ
operand_level level = cond (level == 5) 5 (cond (nat_lt level 8) (level + 1) 8)

abbrev pub has_level : Option ℕ → Bool
has_level None = false
has_level (Some level) = true

-- whether a clause of a function with so many patterns may be written with its name between two patterns
unfoldable pub may_be_infix : List ℕ → ℕ → Bool
may_be_infix name count = cond (count == 1) (has_level (infix_level name)) false
