-- The region program of a specialised one in which everything lies in the global region. Of this project.
use Rattle.std.specs.Prelude.{ℕ, Bool, true, false, if◌then◌else◌, List, [], ◌∷◌, ◌++◌, Option, map}
use Rattle.std.specs.Option.{option_map}
use Rattle.std.specs.Str.{bytes_eq}
use Rattle.region_syntax.specs.declared.types.Place.TheVariants as place
use Rattle.region_syntax.specs.declared.types.Effect.{Effect}
use Rattle.region_syntax.specs.GroundTypes as t
use Rattle.region_syntax.specs.GroundTypes.{GroundType, GroundTypes}
use Rattle.region_syntax.specs.GroundTerms as g
use Rattle.region_syntax.specs.RegionTypes as rt
use Rattle.region_syntax.specs.RegionTypes.{RegionType, RegionTypes}
use Rattle.region_syntax.specs.RegionTerms as r
use Rattle.region_syntax.specs.Effects.{on}
use Rattle.region_syntax.specs.GroundTyping.{function_type}

-- the effect of all functions and datatypes
abbrev pub global_effect : Effect
global_effect = on place.Global

-- a type without parameters
unfoldable mutual
  pub global_type : GroundType → RegionType
  global_type t.Int = rt.Int
  global_type t.Char = rt.Char
  global_type t.Str = rt.Str place.Global
  global_type t.Unit = rt.Unit
  global_type t.Exn = rt.Exn
  global_type (t.Tuple ts) = rt.Tuple place.Global (global_types ts)
  global_type (t.Arrow a b) = rt.Arrow place.Global (global_type a) global_effect (global_type b)
  global_type (t.Data n ts) = rt.Data n (global_types ts) place.Global global_effect
  global_type (t.Ref a) = rt.Ref place.Global (global_type a)
  global_type (t.Cache a b) = rt.Cache place.Global a b
  global_type (t.Desc a) = rt.Desc a
  global_type (t.Var n) = rt.Unit

  pub global_types : GroundTypes → RegionTypes
  global_types t.no_types = rt.no_types
  global_types (t.types a ts) = rt.types (global_type a) (global_types ts)

-- names in scope, the innermost first: whether each is a name of a group, which is used by an instance
abbrev pub Scope : Type 0
Scope = List (List ℕ × Bool)

unfoldable pub is_of_group : List ℕ → Scope → Bool
is_of_group name [] = false
is_of_group name (n ∷ names) = if bytes_eq n.0 name then n.1 else is_of_group name names

unfoldable mutual
  pub global_pat : g.Pat → r.Pat
  global_pat (g.pat a form) = r.pat (global_type a) (global_pat_form form)

  pub global_pat_form : g.PatForm → r.PatForm
  global_pat_form g.AnyPat = r.AnyPat
  global_pat_form (g.IntPat n) = r.IntPat n
  global_pat_form (g.CharPat c) = r.CharPat c
  global_pat_form (g.StrPat text) = r.StrPat text
  global_pat_form g.UnitPat = r.UnitPat
  global_pat_form (g.NamePat name) = r.NamePat name
  global_pat_form (g.TuplePat ps) = r.TuplePat (global_pats ps)
  global_pat_form (g.ListPat ps) = r.ListPat (global_pats ps)
  global_pat_form (g.ConPat c) = r.ConPat c
  global_pat_form (g.AppPat c p) = r.AppPat c (global_pat p)

  pub global_pats : g.Pats → r.Pats
  global_pats g.no_pats = r.no_pats
  global_pats (g.pats p ps) = r.pats (global_pat p) (global_pats ps)

-- names that a pattern binds, before the others
unfoldable mutual
  pub with_pat : g.Pat → Scope → Scope
  with_pat (g.pat a form) names = with_pat_form form names

  pub with_pat_form : g.PatForm → Scope → Scope
  with_pat_form (g.NamePat name) names = (name, false) ∷ names
  with_pat_form (g.TuplePat ps) names = with_pats ps names
  with_pat_form (g.ListPat ps) names = with_pats ps names
  with_pat_form (g.AppPat c p) names = with_pat p names
  with_pat_form _ names = names

  pub with_pats : g.Pats → Scope → Scope
  with_pats g.no_pats names = names
  with_pats (g.pats p ps) names = with_pats ps (with_pat p names)

-- those that the bindings of a `val` and the functions of a group bind
unfoldable pub with_bindings : g.Rules → Scope → Scope
with_bindings g.no_rules names = names
with_bindings (g.rules p e rs) names = with_bindings rs (with_pat p names)

unfoldable pub with_functions : g.Defs → Scope → Scope
with_functions g.no_defs names = names
with_functions (g.defs name rs ds) names = with_functions ds ((name, true) ∷ names)

-- those that declarations show, before the others; the first ones of a `local` are seen in it alone
unfoldable pub shown_names : g.Decs → Scope → Scope
shown_names g.no_decs names = []
shown_names (g.vals bs ds) names = shown_names ds (with_bindings bs names) ++ with_bindings bs []
shown_names (g.funs group ds) names = shown_names ds (with_functions group names) ++ with_functions group []
shown_names (g.locals hidden shown ds) names =
    shown_names ds (shown_names shown (shown_names hidden names ++ names) ++ names) ++ shown_names shown (shown_names hidden names ++ names)

abbrev pub after : g.Decs → Scope → Scope
after ds names = shown_names ds names ++ names

-- the head of a function of a group, which binds nothing
abbrev pub global_head : List ℕ → g.Rules → r.Head
global_head name rs = record { name = name; regions = []; effects = []; ty = global_type (function_type rs); at = place.Global }

unfoldable mutual
  pub global_exp : Scope → g.Exp → r.Exp
  global_exp names (g.exp a form) = r.exp (global_type a) (global_form names form)

  pub global_form : Scope → g.Form → r.Form
  global_form names (g.Int n) = r.Int n
  global_form names (g.Char c) = r.Char c
  global_form names (g.Str text) = r.Str text place.Global
  global_form names (g.Name name) = if is_of_group name names then r.Inst name [] [] else r.Name name
  global_form names (g.Prim name) = r.Prim name
  global_form names (g.Con c) = r.Con c
  global_form names g.Unit = r.Unit
  global_form names (g.Tuple es) = r.Tuple (global_exps names es) place.Global
  global_form names (g.List_of es) = r.List_of (global_exps names es) place.Global
  global_form names (g.Seq es) = r.Seq (global_exps names es)
  global_form names (g.App f e) = r.App (global_exp names f) (global_exp names e)
  global_form names (g.Let ds es) = r.Let (global_decs names ds) (global_exps (after ds names) es)
  global_form names (g.Fn rs) = r.Fn (global_rules names rs) place.Global
  global_form names (g.Case e rs) = r.Case (global_exp names e) (global_rules names rs)
  global_form names (g.Handle e rs) = r.Handle (global_exp names e) (global_rules names rs)
  global_form names (g.Raise e) = r.Raise (global_exp names e)
  global_form names (g.If x y z) = r.If (global_exp names x) (global_exp names y) (global_exp names z)
  global_form names (g.Both x y) = r.Both (global_exp names x) (global_exp names y)
  global_form names (g.Either x y) = r.Either (global_exp names x) (global_exp names y)
  global_form names (g.Quote ps) = r.Quote (global_pieces names ps) place.Global

  pub global_exps : Scope → g.Exps → r.Exps
  global_exps names g.no_exps = r.no_exps
  global_exps names (g.exps e es) = r.exps (global_exp names e) (global_exps names es)

  -- the rules of a match
  pub global_rules : Scope → g.Rules → r.Rules
  global_rules names g.no_rules = r.no_rules
  global_rules names (g.rules p e rs) = r.rules (global_pat p) (global_exp (with_pat p names) e) (global_rules names rs)

  -- the bindings of a `val`
  pub global_bindings : Scope → g.Rules → r.Rules
  global_bindings names g.no_rules = r.no_rules
  global_bindings names (g.rules p e rs) = r.rules (global_pat p) (global_exp names e) (global_bindings names rs)

  pub global_pieces : Scope → g.Pieces → r.Pieces
  global_pieces names g.no_pieces = r.no_pieces
  global_pieces names (g.plain text ps) = r.plain text (global_pieces names ps)
  global_pieces names (g.anti e ps) = r.anti (global_exp names e) (global_pieces names ps)

  -- the functions of a group, where all its names are in scope
  pub global_defs : Scope → g.Defs → r.Defs
  global_defs names g.no_defs = r.no_defs
  global_defs names (g.defs name rs ds) = r.defs (global_head name rs) (global_rules names rs) (global_defs names ds)

  pub global_decs : Scope → g.Decs → r.Decs
  global_decs names g.no_decs = r.no_decs
  global_decs names (g.vals bs ds) = r.vals (global_bindings names bs) (global_decs (with_bindings bs names) ds)
  global_decs names (g.funs group ds) = r.funs (global_defs (with_functions group names) group) (global_decs (with_functions group names) ds)
  global_decs names (g.locals hidden shown ds) =
      r.locals (global_decs names hidden) (global_decs (after hidden names) shown) (global_decs (shown_names shown (after hidden names) ++ names) ds)

-- an exception with the type of its argument, if any
abbrev pub global_exception : List ℕ × Option GroundType → List ℕ × Option RegionType
global_exception e = (e.0, option_map global_type e.1)

abbrev pub global_program : g.Program → r.Program
global_program p = record { datatypes = p.datatypes; exceptions = map global_exception p.exceptions; items = global_decs [] p.items }
