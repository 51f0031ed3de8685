-- Texts of the grammar, as the machine reads them.
use Rattle.std.specs.Prelude.{◌≡◌, List, [], ◌∷◌}
use Rattle.sml_syntax.specs.declared.token.Token.{Token}
use Rattle.sml_syntax.specs.declared.tree.Program.{Program}
use Rattle.sml_syntax.specs.NestedTypes.{Found}
use Rattle.grammar_rules.specs.Grammar.{items, decs_tree}
use Rattle.sml_grammar.specs.declared.act.Act.TheVariants as a
use Rattle.sml_grammar.specs.declared.act.DecAct.TheVariants as d
use Rattle.sml_grammar.specs.declared.act.Made.{Made}
use Rattle.sml_grammar.specs.Machine.{made, Accepts}
use Rattle.parse_build.specs.Building.{program_of}
use Rattle.grammar_trees.specs.Tells.{Tells}
use Rattle.grammar_trees.specs.Exact.{exact_outcome}

-- the acts of a program: one that begins the list of its items, and those of the items
abbrev pub whole : List Made → List Made
whole new = made (a.Dec d.NoDecs) 0 ∷ new

-- The machine accepts the tokens, telling the acts of a derivation of this tree with these lacks; where there are none,
-- the acts build the tree.
pub record IsAccepted (tokens : List Token) (program : Program) (lacks : List Found) : Type 0 where
  pub new : List Made
  pub tells : Tells items 0 tokens (decs_tree program.items) lacks new
  pub accepts : exact_outcome tokens ≡ Accepts (whole new)
  pub builds : lacks ≡ [] → program_of (whole new) ≡ program.items
