-- What is printed reads back.
use Rattle.std.specs.Prelude.{◌≡◌, ◌⊎◌, ℕ, List, [], Bool, false, map}
use Rattle.sml_syntax.specs.declared.token.Token.{Token}
use Rattle.sml_syntax.specs.declared.token.TokenForm.TheVariants as f
use Rattle.sml_syntax.specs.declared.tree.Exp.{Exp}
use Rattle.sml_syntax.specs.declared.tree.Ty.{Ty}
use Rattle.sml_syntax.specs.declared.tree.Pat.{Pat}
use Rattle.sml_syntax.specs.declared.tree.Dec.{Dec}
use Rattle.sml_syntax.specs.declared.tree.Program.{Program}
use Rattle.grammar_rules.specs.Tokens.{HasTokens}
use Rattle.grammar_rules.specs.Programs.{IsProgram, Each, DecFits}
use Rattle.grammar_rules.specs.Grammar.{Is, expr, exp_tree, ty, ty_tree, pat, pat_tree, dec, dec_tree}
use Rattle.print_laws.specs.SameTree.{Same, SameTree}
use Rattle.print_laws.specs.Printing.{printed, exp_part, exp_forms, ty_forms, pat_forms, dec_forms, program_forms, begins_number}

-- a name that doesn't begin with a digit, as no token of a text has one
abbrev pub IsFine : Token → Type 0
IsFine t = (name : List ℕ) → (t.form ≡ f.Name name) ⊎ (t.form ≡ f.Long name) → begins_number name ≡ false

-- Where an expression is that of some tokens, all tokens of the forms that are printed of it are of an expression too, the same
-- one, spans aside, and a match is open at its end where one is at the end of what is printed. It holds declarations of values; the
-- others can't stand in an expression.
abbrev pub ExpressionsReadBack : Type 0
ExpressionsReadBack =
    (open_end : Bool) (tokens again : List Token) (x : Exp) → Each IsFine tokens → Is (expr open_end) tokens (exp_tree x) []
    → map (λ (t : Token). t.form) again ≡ exp_forms x → (y : Exp) × Is (expr (exp_part x).opens) again (exp_tree y) [] × Same (exp_tree x) (exp_tree y)

-- the same of types, of patterns, and of declarations: those of values inside `let` and `local`, and all of them at the top level
abbrev pub TypesReadBack : Type 0
TypesReadBack =
    (variables : Bool) (tokens again : List Token) (x : Ty) → Each IsFine tokens → Is (ty variables) tokens (ty_tree x) []
    → map (λ (t : Token). t.form) again ≡ ty_forms x → (y : Ty) × Is (ty variables) again (ty_tree y) [] × Same (ty_tree x) (ty_tree y)

abbrev pub PatternsReadBack : Type 0
PatternsReadBack =
    (tokens again : List Token) (x : Pat) → Each IsFine tokens → Is pat tokens (pat_tree x) []
    → map (λ (t : Token). t.form) again ≡ pat_forms x → (y : Pat) × Is pat again (pat_tree y) [] × Same (pat_tree x) (pat_tree y)

abbrev pub DeclarationsReadBack : Type 0
DeclarationsReadBack =
    (inside : Bool) (tokens again : List Token) (x : Dec) → Each IsFine tokens → Is (dec inside) tokens (dec_tree x) []
    → map (λ (t : Token). t.form) again ≡ dec_forms x → (y : Dec) × Is (dec inside) again (dec_tree y) [] × Same (dec_tree x) (dec_tree y)

-- where tokens are a program, all tokens of the forms that are printed of it are the same program, spans aside
abbrev pub ProgramsReadBack : Type 0
ProgramsReadBack =
    (tokens again : List Token) (program : Program) → Each IsFine tokens → IsProgram tokens program
    → map (λ (t : Token). t.form) again ≡ program_forms program → (other : Program) × IsProgram again other × SameTree program other

-- trees that are the same have the same height, so that what is printed of a tree that isn't too high isn't so either
abbrev pub SameHeights : Type 0
SameHeights =
    (program other : Program) → SameTree program other → (height : ℕ)
    → (Each (DecFits height) program.items → Each (DecFits height) other.items) × (Each (DecFits height) other.items → Each (DecFits height) program.items)

-- a text has these tokens, and they this tree
pub record HasTree (text : List ℕ) (program : Program) : Type 0 where
  pub tokens : List Token
  pub has_tokens : HasTokens text tokens
  pub is_program : IsProgram tokens program

-- where a program is that of some text, the text that it is printed as has it too, spans aside
abbrev pub ReadsBack : Type 0
ReadsBack = (script : List ℕ) (program : Program) → HasTree script program → (other : Program) × HasTree (printed program) other × SameTree program other
