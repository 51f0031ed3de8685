-- What the search for lacks finds in acts.
use Rattle.std.specs.Prelude.{◌≡◌, ℕ, List, [], ◌∷◌, ◌++◌, length, Option, Some}
use Rattle.sml_syntax.specs.declared.token.Token.{Token}
use Rattle.sml_syntax.specs.NestedTypes.{Found, Datatypes, nested_in_bindings}
use Rattle.grammar_rules.specs.Grammar.{Phrase, datas, cons, datas_tree}
use Rattle.sml_grammar.specs.declared.act.Act.TheVariants as a
use Rattle.sml_grammar.specs.declared.act.DecAct.TheVariants as b
use Rattle.sml_grammar.specs.declared.act.Made.{Made}
use Rattle.sml_grammar.specs.Machine.{made}
use Rattle.grammar_trees.specs.Tells.{Tells}
use Rattle.parse_limits.specs.Lacks.{Own, lower, lack_from}

-- the lowest of a lack that was found and others, the first one where several are lowest
abbrev pub lowest : Option Found → List Found → Option Found
lowest found [] = found
lowest found (l ∷ ls) = lowest (lower found (Some l)) ls

-- in a declaration of such types acts have these lacks, whatever comes before and after them
pub record FindsIn (own : Own) (new : List Made) (ls : List Found) : Type 0 where
  pub finds : (found : Option Found) (before more : List Made) → lack_from found own before (new ++ more) ≡ lack_from (lowest found ls) own (before ++ new) more

-- outside such declarations
abbrev pub Finds : List Made → List Found → Type 0
Finds new ls = FindsIn [] new ls

-- a whole declaration of datatypes, whose types may stand applied to others than their variables
abbrev pub DatatypesFind : Type 0
DatatypesFind = (ts : List Token) (all : Datatypes) (ls : List Found) (new : List Made) (from to end_ : ℕ) → Tells datas 0 ts (datas_tree all) ls new →
    Finds (made (a.Dec b.NoDatas) to ∷ (new ++ (made (a.Dec (b.DataDef from)) end_ ∷ []))) (ls ++ nested_in_bindings (length ts) all all)

-- what each phrase but those inside a declaration of datatypes finds
abbrev pub Finding : Phrase → List Found → List Made → Type 0
Finding datas ls new = Unit {0}
Finding cons ls new = Unit {0}
Finding c ls new = Finds new ls
