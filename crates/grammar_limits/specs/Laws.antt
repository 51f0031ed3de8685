-- What the searches over acts tell of programs: the first item that is too high, and the first lack.
use Rattle.std.specs.Prelude.{◌≡◌, ℕ, List, [], ◌∷◌, Option, Some, None}
use Rattle.sml_syntax.specs.declared.token.Token.{Token}
use Rattle.sml_syntax.specs.declared.tree.Program.{Program}
use Rattle.sml_syntax.specs.NestedTypes.{Found}
use Rattle.grammar_rules.specs.Grammar.{items, decs_tree}
use Rattle.grammar_rules.specs.Programs.{Each, DecFits, highest, IsFirstHigh, IsFirstLack}
use Rattle.sml_grammar.specs.declared.act.Act.TheVariants as a
use Rattle.sml_grammar.specs.declared.act.DecAct.TheVariants as b
use Rattle.sml_grammar.specs.declared.act.Made.{Made}
use Rattle.sml_grammar.specs.Machine.{made}
use Rattle.parse_limits.specs.Heights.{first_high}
use Rattle.parse_limits.specs.Lacks.{first_lack}
use Rattle.grammar_trees.specs.Tells.{Tells}

-- the acts of a whole program, which begin with no items
abbrev pub whole : ℕ → List Made → List Made
whole to new = made (a.Dec b.NoDecs) to ∷ new

-- the first of items that is too high, or none
abbrev pub HighAs : Program → Option ℕ → Type 0
HighAs program None = Each (DecFits highest) program.items
HighAs program (Some place) = IsFirstHigh program place

-- the search over the acts of a program tells its first item that is too high, and none where each item fits
abbrev pub TellsHeights : Type 0
TellsHeights = (tokens : List Token) (program : Program) (lacks : List Found) (new : List Made) (to : ℕ) →
    Tells items 0 tokens (decs_tree program.items) lacks new → HighAs program (first_high (whole to new) [])

-- the first of lacks, or none
abbrev pub LackAs : List Found → Option Found → Type 0
LackAs lacks None = lacks ≡ []
LackAs lacks (Some found) = IsFirstLack lacks found

-- the search over the acts of a program tells its first lack, and none where it has none
abbrev pub TellsLacks : Type 0
TellsLacks = (tokens : List Token) (program : Program) (lacks : List Found) (new : List Made) (to : ℕ) →
    Tells items 0 tokens (decs_tree program.items) lacks new → LackAs lacks (first_lack (whole to new))
