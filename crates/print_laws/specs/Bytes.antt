-- Which forms of tokens can stand one behind another in a script, and the tokens of their text.
use Rattle.std.specs.Prelude.{◌≡◌, ℕ, zero, suc, ◌+◌, ◌^◌, ◌<◌, ◌≤◌, ◌==◌, List, [], ◌∷◌, ◌++◌, length, Bool, true, false, not, ◌&&◌, ◌||◌, Some, map, flat_map}
use Rattle.std.specs.List.{list_all}
use lib.IntN.{ℤ, pos, negsuc}
use Rattle.sml_syntax.specs.declared.token.Token.{Token}
use Rattle.sml_syntax.specs.declared.token.TokenForm.{TokenForm}
use Rattle.sml_syntax.specs.declared.token.TokenForm.TheVariants as f
use Rattle.grammar_rules.specs.Spelling.{is, expression, is_name_byte}
use Rattle.sml_syntax.specs.ByteClasses.{is_letter}
use Rattle.grammar_rules.specs.Tokens.{Mode, Program, QuotedText, Antiquoted, parens_behind, token, HasTokens}
use Rattle.sml_syntax.specs.declared.tree.Dec.{Dec}
use Rattle.sml_syntax.specs.declared.tree.Program.{Program as Tree}
use Rattle.grammar_rules.specs.Programs.{Each}
use Rattle.print_laws.specs.Printing.{has_dot, begins_number, dec_forms, printed}
use Rattle.print_laws.specs.ReadBack.{IsFine}
use Rattle.print_laws.specs.Spelled.{spelling, gap, spelled_token, spelled}

-- what stands right before a place in the text of a quotation: its start or an antiquotation in parentheses, text, or `^` and a name
pub data Before : Type 0 where
  Fresh Behind_text Behind_name : Before

-- where tokens stand: outside all quotations, in the text of one, or in an expression of one with its open parentheses
pub data Shape : Type 0 where
  Outside : Shape
  Quoted : (before : Before) (around : List ℕ) → Shape
  Inside : (parens : ℕ) (around : List ℕ) → Shape

abbrev pub mode_at : ℕ → Shape → Mode
mode_at start Outside = Program
mode_at start (Quoted before around) = QuotedText start around
mode_at start (Inside parens around) = Antiquoted start parens around

-- behind the end of a quotation
abbrev pub shape_around : List ℕ → Shape
shape_around [] = Outside
shape_around (parens ∷ around) = Inside parens around

-- the next `)` ends the antiquotation
abbrev pub ends_at : ℕ → Bool
ends_at zero = true
ends_at (suc parens) = false

abbrev pub parens_after : TokenForm → ℕ → ℕ
parens_after (f.Mark mark) parens = parens_behind mark parens
parens_after _ parens = parens

-- an integer of 64 bits
abbrev pub InRange : ℤ → Type 0
InRange (pos n) = n < 2 ^ 63
InRange (negsuc n) = suc n ≤ 2 ^ 63

-- a form of an expression whose spelling is read as it
pub record Stands (ends : Bool) (form : TokenForm) : Type 0 where
  pub blank : gap form ≡ 32 ∷ []
  pub reads : (n : ℕ) → expression ends n (spelling form) ≡ Some (is form)

-- bytes that are text of a quotation: no `` ` ``, and no `^` before a letter or `(`
abbrev pub is_calm : List ℕ → Bool
is_calm [] = true
is_calm (b ∷ bs) = not (b == 40) && not (is_letter b)

abbrev pub is_text : List ℕ → Bool
is_text [] = true
is_text (b ∷ bs) = (not (b == 96) && (not (b == 94) || is_calm bs)) && is_text bs

-- text goes not on where text stands, and doesn't make a name longer
abbrev pub MayFollow : Before → ℕ → Type 0
MayFollow Fresh b = Unit {0}
MayFollow Behind_text b = ⊥
MayFollow Behind_name b = is_name_byte b ≡ false

abbrev pub is_anti : List ℕ → Bool
is_anti [] = false
is_anti (b ∷ bs) = is_letter b && list_all is_name_byte bs

-- what is known of a form that a token of a script has: its name is read as it wherever it stands
pub record KeptName (dots : Bool) (form : List ℕ → TokenForm) (name : List ℕ) : Type 0 where
  pub has_dots : has_dot name ≡ dots
  pub first : begins_number name ≡ false
  pub reads : (ends : Bool) (n : ℕ) → expression ends n name ≡ Some (is (form name))

abbrev pub Kept : TokenForm → Type 0
Kept (f.Int n) = InRange n
Kept (f.Char b) = b < 256
Kept (f.Str text) = Unit {0}
Kept (f.Name name) = KeptName false f.Name name
Kept (f.Long name) = KeptName true f.Long name
Kept (f.TyVar name) = (ends : Bool) (n : ℕ) → expression ends n name ≡ Some (is (f.TyVar name))
Kept (f.Mark text) = Unit {0}
Kept f.QuoteFrom = Unit {0}
Kept (f.Plain text) = is_text text ≡ true
Kept (f.Anti name) = is_anti name ≡ true
Kept f.AntiFrom = Unit {0}
Kept f.AntiTo = Unit {0}
Kept f.QuoteTo = Unit {0}

-- text right behind `^` and a name doesn't make it longer
abbrev pub PartsFrom : TokenForm → TokenForm → Type 0
PartsFrom (f.Anti name) (f.Plain (b ∷ bs)) = is_name_byte b ≡ false
PartsFrom form next = Unit {0}

abbrev pub Parts : TokenForm → List Token → Type 0
Parts form [] = Unit {0}
Parts form (t ∷ ts) = PartsFrom form t.form

-- each token's form is kept, and no name runs into text
abbrev pub AllKept : List Token → Type 0
AllKept [] = Unit {0}
AllKept (t ∷ ts) = Kept t.form × Parts t.form ts × AllKept ts

-- forms that can stand in this order, up to the end of a script
pub data Fits : Shape → List TokenForm → Type 0 where
  fits_none : Fits Outside []
  fits_outside : {fs : List TokenForm} (form : TokenForm) → Stands false form → Fits Outside fs → Fits Outside (form ∷ fs)
  fits_inside : {fs : List TokenForm} {around : List ℕ} (parens : ℕ) (form : TokenForm) → Stands (ends_at parens) form → Fits (Inside (parens_after form parens) around) fs → Fits (Inside parens around) (form ∷ fs)
  fits_quote : {fs : List TokenForm} → Fits (Quoted Fresh []) fs → Fits Outside (f.QuoteFrom ∷ fs)
  fits_inner_quote : {fs : List TokenForm} {parens : ℕ} {around : List ℕ} → Fits (Quoted Fresh (parens ∷ around)) fs → Fits (Inside parens around) (f.QuoteFrom ∷ fs)
  fits_anti_to : {fs : List TokenForm} {around : List ℕ} → Fits (Quoted Fresh around) fs → Fits (Inside zero around) (f.AntiTo ∷ fs)
  fits_text : {fs : List TokenForm} {before : Before} {around : List ℕ} (b : ℕ) (bs : List ℕ) → MayFollow before b → is_text (b ∷ bs) ≡ true → Fits (Quoted Behind_text around) fs → Fits (Quoted before around) (f.Plain (b ∷ bs) ∷ fs)
  fits_anti : {fs : List TokenForm} {before : Before} {around : List ℕ} (name : List ℕ) → is_anti name ≡ true → Fits (Quoted Behind_name around) fs → Fits (Quoted before around) (f.Anti name ∷ fs)
  fits_anti_from : {fs : List TokenForm} {before : Before} {around : List ℕ} → Fits (Inside zero around) fs → Fits (Quoted before around) (f.AntiFrom ∷ fs)
  fits_quote_to : {fs : List TokenForm} {before : Before} {around : List ℕ} → Fits (shape_around around) fs → Fits (Quoted before around) (f.QuoteTo ∷ fs)

-- the tokens of the text of forms, from n on
abbrev pub placed : ℕ → List TokenForm → List Token
placed n [] = []
placed n (form ∷ fs) = token n (n + length (spelling form)) form ∷ placed (n + length (spelled_token form)) fs

-- the tokens of texts of forms, one a line
abbrev pub placed_lines : ℕ → List (List TokenForm) → List Token
placed_lines n [] = []
placed_lines n (fs ∷ more) = placed n fs ++ placed_lines (n + length (spelled fs) + 1) more

-- where the forms that are printed of each declaration fit, the text that is printed has tokens of these forms
abbrev pub PrintedTokens : Type 0
PrintedTokens = (program : Tree) → Each (λ (d : Dec). Fits Outside (dec_forms d)) program.items
    → HasTokens (printed program) (placed_lines 0 (map dec_forms program.items)) × (map (λ (t : Token). t.form) (placed_lines 0 (map dec_forms program.items)) ≡ flat_map dec_forms program.items)

-- the tokens of a script are kept, and none of its names begins with a digit
abbrev pub ScriptTokens : Type 0
ScriptTokens = (script : List ℕ) (tokens : List Token) → HasTokens script tokens → AllKept tokens × Each IsFine tokens
