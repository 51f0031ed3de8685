-- Types inside a declaration of datatypes: what their acts find, and what they tell of arguments.
use Rattle.std.specs.Prelude.{◌≡◌, ℕ, ◌≤◌, List, [], ◌∷◌, ◌++◌, length, true}
use Rattle.sml_syntax.specs.declared.token.Token.{Token}
use Rattle.sml_syntax.specs.declared.tree.Ty.{Ty}
use Rattle.sml_syntax.specs.NestedTypes.{Found, Datatypes, are_variables, for_each, nested_in_type, nested_in_constructors, nested_in_bindings}
use Rattle.grammar_rules.specs.Grammar as g
use Rattle.sml_grammar.specs.declared.act.Act.TheVariants as a
use Rattle.sml_grammar.specs.declared.act.TyAct.TheVariants as y
use Rattle.sml_grammar.specs.declared.act.Made.{Made}
use Rattle.sml_grammar.specs.Machine.{made}
use Rattle.parse_limits.specs.Lacks.{ends_applied}
use Rattle.grammar_trees.specs.Tells.{Tells}
use Rattle.grammar_limits.specs.Finds.{FindsIn}
use Rattle.grammar_limits.specs.Owns.{owns}

-- behind the acts of arguments the search tells whether they are variables of these names
pub record ArgumentsTold : Type 0 where
  pub no_arguments : (vars : List (List ℕ)) (before : List Made) (to : ℕ) → ends_applied vars (before ++ made (a.Ty y.NoTys) to ∷ []) ≡ are_variables vars []
  pub one_argument : {ts : List Token} {x : Ty} {ls : List Found} {n : List Made} → Tells (g.conty true) 0 ts (g.ty_tree x) ls n →
      (vars : List (List ℕ)) (before : List Made) (to : ℕ) → ends_applied vars (before ++ (n ++ made (a.Ty y.First) to ∷ [])) ≡ are_variables vars (x ∷ [])
  pub arguments : {ts us : List Token} {x : Ty} {xs : List Ty} {ls ms : List Found} {n m : List Made} → Tells (g.ty true) 0 ts (g.ty_tree x) ls n → Tells (g.tys true) 0 us (g.tys_tree xs) ms m →
      (vars : List (List ℕ)) (before : List Made) (to : ℕ) → ends_applied vars (before ++ (n ++ made (a.Ty y.First) to ∷ m)) ≡ are_variables vars (x ∷ xs)

-- what acts find in a declaration of these types, by the trees that they make
abbrev pub TypeFinds : Datatypes → List Token → List Made → Ty → Type 0
TypeFinds all ts new x = (depth : ℕ) → length ts ≤ depth → FindsIn (owns all) new (nested_in_type depth all x)

abbrev pub TypesFind : Datatypes → List Token → List Made → List Ty → Type 0
TypesFind all ts new xs = (depth : ℕ) → length ts ≤ depth → FindsIn (owns all) new (for_each (nested_in_type depth all) xs)

abbrev pub TreeFinds : Datatypes → List Token → List Made → g.Tree → Type 0
TreeFinds all ts new (g.ty_tree x) = TypeFinds all ts new x
TreeFinds all ts new (g.tys_tree xs) = TypesFind all ts new xs
TreeFinds all ts new (g.cons_tree cs) = (depth : ℕ) → length ts ≤ depth → FindsIn (owns all) new (nested_in_constructors depth all cs)
TreeFinds all ts new (g.datas_tree ds) = (depth : ℕ) → length ts ≤ depth → FindsIn (owns all) new (nested_in_bindings depth all ds)
TreeFinds all ts new (g.vars_tree names) = FindsIn (owns all) new []
TreeFinds all ts new tree = Unit {0}

-- those phrases that stand in such a declaration, where type variables are allowed
abbrev pub Inside : g.Phrase → Type 0 → Type 0
Inside (g.conty true) P = P
Inside (g.tupty true) P = P
Inside (g.ty true) P = P
Inside (g.tys true) P = P
Inside (g.stars true) P = P
Inside g.cons P = P
Inside g.datas P = P
Inside g.ty_vars P = P
Inside g.more_vars P = P
Inside c P = Unit {0}
