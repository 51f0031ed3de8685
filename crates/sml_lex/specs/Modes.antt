-- Where the lexer stands among quotations.
use Rattle.std.specs.Prelude.{ℕ, zero, suc, List, [], ◌∷◌, reverse, Bool, true, false, Option, Some, None}
use Rattle.grammar_rules.specs.Tokens.{Mode, Program, QuotedText, Antiquoted, around_quotation, parens_behind}
use Rattle.sml_lex.specs.declared.quotes.Place.{Place}
use Rattle.sml_lex.specs.declared.quotes.Place.TheVariants as place

-- the mode of a place, with the outermost start and the open parentheses of the expressions around, the innermost first
abbrev pub mode_of : Place → ℕ → List ℕ → Mode
mode_of place.Program start around = Program
mode_of place.Text start around = QuotedText start around
mode_of (place.Expression parens) start around = Antiquoted start parens around

abbrev pub is_in_text : Mode → Bool
is_in_text Program = false
is_in_text (QuotedText start around) = true
is_in_text (Antiquoted start parens around) = false

-- the next `)` ends an antiquotation
abbrev pub ends_at_close : Mode → Bool
ends_at_close Program = false
ends_at_close (QuotedText start around) = false
ends_at_close (Antiquoted start zero around) = true
ends_at_close (Antiquoted start (suc parens) around) = false

-- the start of the outermost open quotation
abbrev pub outermost_of : Mode → Option ℕ
outermost_of Program = None
outermost_of (QuotedText start around) = Some start
outermost_of (Antiquoted start parens around) = Some start

-- behind the tokens that move between text and expression

abbrev pub opened : Mode → ℕ → Mode
opened Program n = QuotedText n []
opened (QuotedText start around) n = QuotedText start around
opened (Antiquoted start parens around) n = QuotedText start (parens ∷ around)

abbrev pub shut : Mode → Mode
shut Program = Program
shut (QuotedText start around) = around_quotation start around
shut (Antiquoted start parens around) = Antiquoted start parens around

abbrev pub entered : Mode → Mode
entered Program = Program
entered (QuotedText start around) = Antiquoted start 0 around
entered (Antiquoted start parens around) = Antiquoted start parens around

abbrev pub left : Mode → Mode
left Program = Program
left (QuotedText start around) = QuotedText start around
left (Antiquoted start parens around) = QuotedText start around

abbrev pub marked : Mode → List ℕ → Mode
marked Program mark = Program
marked (QuotedText start around) mark = QuotedText start around
marked (Antiquoted start parens around) mark = Antiquoted start (parens_behind mark parens) around
