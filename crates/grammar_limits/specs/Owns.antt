-- The types of a declaration of datatypes, as its acts tell them.
use Rattle.std.specs.Prelude.{◌≡◌, ℕ, List, [], ◌∷◌, ◌++◌}
use Rattle.sml_syntax.specs.NestedTypes.{Datatypes}
use Rattle.grammar_rules.specs.Grammar as g
use Rattle.sml_grammar.specs.declared.act.Made.{Made}
use Rattle.parse_limits.specs.Lacks.{Own, own_types}

-- the types of a declaration: variables and name of each
abbrev pub owns : Datatypes → Own
owns [] = []
owns (bind ∷ binds) = (bind.0, bind.1) ∷ owns binds

-- acts that name such variables and then such types
pub record Names (new : List Made) (old : List (List ℕ)) (all : Datatypes) : Type 0 where
  pub vars : List (List ℕ)
  pub names : (more : List Made) → own_types old (new ++ more) ≡ owns all ++ own_types vars more

-- acts that name no type and no variable
pub record Still (new : List Made) : Type 0 where
  pub still : (old : List (List ℕ)) (more : List Made) → own_types old (new ++ more) ≡ own_types old more

-- acts that name these variables
pub record Adds (new : List Made) (names : List (List ℕ)) : Type 0 where
  pub adds : (old : List (List ℕ)) (more : List Made) → own_types old (new ++ more) ≡ own_types (old ++ names) more

-- what the phrases inside a declaration of datatypes name
abbrev pub Owning : g.Phrase → g.Tree → List Made → Type 0
Owning (g.conty v) tree new = Still new
Owning (g.tys v) tree new = Still new
Owning (g.stars v) tree new = Still new
Owning (g.tupty v) tree new = Still new
Owning (g.ty v) tree new = Still new
Owning g.cons tree new = Still new
Owning g.ty_vars (g.vars_tree names) new = Adds new names
Owning g.more_vars (g.vars_tree names) new = Adds new names
Owning g.datas (g.datas_tree all) new = (old : List (List ℕ)) → Names new old all
Owning c tree new = Unit {0}
