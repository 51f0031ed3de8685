-- What the forms of a script's tokens fulfil, so that the forms that are printed of their tree fit.
use Rattle.std.specs.Prelude.{◌≡◌, ℕ, List, [], ◌∷◌, Bool, true, false}
use Rattle.sml_syntax.specs.declared.token.Token.{Token}
use Rattle.sml_syntax.specs.declared.token.TokenForm.{TokenForm}
use Rattle.sml_syntax.specs.declared.token.TokenForm.TheVariants as f
use Rattle.sml_syntax.specs.declared.tree.Program.{Program}
use Rattle.grammar_rules.specs.Spelling.{is_name_byte}
use Rattle.grammar_rules.specs.Programs.{IsProgram, Each}
use Rattle.print_laws.specs.Printing.{has_dot, is_lone, program_forms}
use Rattle.print_laws.specs.Bytes.{Outside, Stands, is_text, is_anti, Fits}
use Rattle.print_laws.specs.ReadBack.{IsFine}

-- a name of one part is read as it wherever it stands
pub record SpeltName (name : List ℕ) : Type 0 where
  pub undotted : has_dot name ≡ false
  pub stands : (ends : Bool) → Stands ends (f.Name name)

-- a name where every name stands, and one behind `^`, where each word is taken for a name
pub record SpeltWord (name : List ℕ) : Type 0 where
  pub not_lone : is_lone name ≡ false
  pub spelt : SpeltName name

pub record SpeltLong (name : List ℕ) : Type 0 where
  pub not_lone : is_lone name ≡ false
  pub dotted : has_dot name ≡ true
  pub stands : (ends : Bool) → Stands ends (f.Long name)

pub record SpeltAnti (name : List ℕ) : Type 0 where
  pub is_name : is_anti name ≡ true
  pub spelt : is_lone name ≡ false → SpeltName name

-- a form that is read as it where it is printed; marks are so always
abbrev pub IsSpelt : TokenForm → Type 0
IsSpelt (f.Int number) = (ends : Bool) → Stands ends (f.Int number)
IsSpelt (f.Char byte) = (ends : Bool) → Stands ends (f.Char byte)
IsSpelt (f.Str text) = (ends : Bool) → Stands ends (f.Str text)
IsSpelt (f.TyVar name) = (ends : Bool) → Stands ends (f.TyVar name)
IsSpelt (f.Name name) = SpeltWord name
IsSpelt (f.Long name) = SpeltLong name
IsSpelt (f.Plain text) = is_text text ≡ true
IsSpelt (f.Anti name) = SpeltAnti name
IsSpelt _ = Unit {0}

-- a form that doesn't go on with a name before it
abbrev pub Parts : TokenForm → Type 0
Parts (f.Plain (b ∷ bs)) = is_name_byte b ≡ false
Parts _ = Unit {0}

abbrev pub Starts : List Token → Type 0
Starts [] = Unit {0}
Starts (t ∷ ts) = Parts t.form

-- what stands behind a form: text behind `^` and a name doesn't make the name longer
abbrev pub Followed : TokenForm → List Token → Type 0
Followed (f.Anti name) ts = Starts ts
Followed _ ts = Unit {0}

abbrev pub QuotesFit : List Token → Type 0
QuotesFit [] = Unit {0}
QuotesFit (t ∷ ts) = Followed t.form ts × QuotesFit ts

-- where tokens are spelt, the forms that are printed of their program fit
abbrev pub FormsFit : Type 0
FormsFit =
    (tokens : List Token) (program : Program) → Each (λ (t : Token). IsSpelt t.form) tokens → QuotesFit tokens → Each IsFine tokens
    → IsProgram tokens program → Fits Outside (program_forms program)
