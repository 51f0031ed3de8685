-- The rules of a program's items, and the answers of all its nodes. Of this project.
use Rattle.std.specs.Prelude.{ℕ, suc, nat_eq, Bool, true, false, ◌&&◌, ◌||◌, if◌then◌else◌, List, [], ◌∷◌, ◌++◌, map, Option, Some, None, codes}
use Rattle.std.specs.List.{list_all}
use Rattle.std.specs.Str.{bytes_eq}
use Rattle.region_syntax.specs.declared.types.Place.TheVariants as place
use Rattle.region_syntax.specs.declared.types.Effect.{Effect}
use Rattle.region_syntax.specs.GroundTypes as g
use Rattle.region_syntax.specs.GroundTypes.{GroundType}
use Rattle.region_syntax.specs.GroundTerms.{Datatype}
use Rattle.region_syntax.specs.RegionTypes.{RegionType}
use Rattle.region_syntax.specs.RegionTypes as t
use Rattle.region_syntax.specs.RegionTerms as r
use Rattle.region_syntax.specs.Effects.{effect_of, on, within, same_ground, same_type, all_of}
use Rattle.region_syntax.specs.Datatypes.{declaration_stands, argument_stands}
use Rattle.region_syntax.specs.Erasure.{erased_argument}
use Rattle.region_syntax.specs.Binders.{all_are_bound, around_group, bind_once, rules_binders, defs_binders, decs_binders}
use Rattle.region_syntax.specs.RegionTyping.{Scheme, mono, poly, Context, Tables, type_of, is_val, is_group, bound_by_rules, with_group, after, shown_by, bindings_effect, group_effect, bindings_answers, defs_answers}

-- the basis in front of the program's own datatypes and exceptions
abbrev pub datatype_of : ℕ → ℕ → List (List ℕ × Option GroundType) → Datatype
datatype_of declaration params constructors = record { declaration = declaration; params = params; constructors = constructors }

abbrev pub pair_of : GroundType → GroundType → GroundType
pair_of a b = g.Tuple (g.types a (g.types b g.no_types))

-- `int option`
abbrev pub limit_type : GroundType
limit_type = g.Data 2 (g.types g.Int g.no_types)

abbrev pub basis_datatypes : List Datatype
basis_datatypes =
    datatype_of 0 0 ((codes "false", None) ∷ (codes "true", None) ∷ [])
    ∷ datatype_of 1 1 ((codes "nil", None) ∷ (codes "::", Some (pair_of (g.Var 0) (g.Data 1 (g.types (g.Var 0) g.no_types)))) ∷ [])
    ∷ datatype_of 2 1 ((codes "NONE", None) ∷ (codes "SOME", Some (g.Var 0)) ∷ [])
    ∷ datatype_of 3 0 ((codes "LESS", None) ∷ (codes "EQUAL", None) ∷ (codes "GREATER", None) ∷ [])
    ∷ datatype_of 4 1 ((codes "QUOTE", Some g.Str) ∷ (codes "ANTIQUOTE", Some (g.Var 0)) ∷ [])
    ∷ datatype_of 5 0 ((codes "Web.Cache.WhileUsed", Some (pair_of limit_type limit_type)) ∷ (codes "Web.Cache.TimeOut", Some (pair_of limit_type limit_type)) ∷ [])
    ∷ []

abbrev pub basis_exceptions : List (List ℕ × Option RegionType)
basis_exceptions =
    (codes "Match", None) ∷ (codes "Bind", None) ∷ (codes "Div", None) ∷ (codes "Overflow", None) ∷ (codes "Subscript", None)
    ∷ (codes "Chr", None) ∷ (codes "Empty", None) ∷ (codes "Option", None) ∷ (codes "Fail", Some (t.Str place.Global)) ∷ []

-- the first items of a list are these
unfoldable pub begins_with : {A : Type 0} → (A → A → Bool) → List A → List A → Bool
begins_with same [] ys = true
begins_with same (x ∷ xs) [] = false
begins_with same (x ∷ xs) (y ∷ ys) = same x y && begins_with same xs ys

unfoldable pub same_argument : {A : Type 0} → (A → A → Bool) → Option A → Option A → Bool
same_argument same None None = true
same_argument same (Some a) (Some b) = same a b
same_argument same _ _ = false

abbrev pub same_constructor : {A : Type 0} → (A → A → Bool) → List ℕ × Option A → List ℕ × Option A → Bool
same_constructor same c d = bytes_eq c.0 d.0 && same_argument same c.1 d.1

abbrev pub same_datatype : Datatype → Datatype → Bool
same_datatype d e =
    nat_eq d.declaration e.declaration && nat_eq d.params e.params && begins_with (same_constructor same_ground) d.constructors e.constructors && begins_with (same_constructor same_ground) e.constructors d.constructors

-- the datatypes stand in the order of their declarations, from this number on: each is of the declaration of the one before it, or of the next one
unfoldable pub declarations_follow : ℕ → List Datatype → Bool
declarations_follow n [] = true
declarations_follow n (d ∷ ds) = (nat_eq d.declaration n || nat_eq d.declaration (suc n)) && declarations_follow d.declaration ds

-- the effect holds no place but the global one, and no variable
abbrev pub is_global : Effect → Bool
is_global e = within e (on place.Global)

-- the type of an exception's argument has no place but the global one, in its effects neither
unfoldable pub argument_is_global : Option RegionType → Bool
argument_is_global None = true
argument_is_global (Some a) = is_global (all_of a)

-- the basis stands in front, and the types of constructors and exceptions are as they must be
abbrev pub tables_fit : Tables → Bool
tables_fit tables =
    begins_with same_datatype basis_datatypes tables.datatypes && begins_with (same_constructor same_type) basis_exceptions tables.exceptions
    && declarations_follow 0 tables.datatypes
    && list_all (declaration_stands tables.datatypes) tables.datatypes
    && list_all (λ e. argument_is_global e.1 && argument_stands tables.datatypes (erased_argument e.1)) tables.exceptions

-- what names stand for has no place but the global one, other than those that a scheme binds
unfoldable pub scheme_is_global : Scheme → Bool
scheme_is_global (mono a) = is_global (all_of a)
scheme_is_global (poly rs es at a) = is_global (on at) && within (all_of a) (effect_of (place.Global ∷ map place.Reg rs) es)

abbrev pub names_are_global : Context → Bool
names_are_global c = list_all (λ entry. scheme_is_global entry.1) c

-- the expressions of the bindings of an item
unfoldable pub values_are_global : r.Rules → Bool
values_are_global r.no_rules = true
values_are_global (r.rules p e rs) = is_global (all_of (type_of e)) && values_are_global rs

-- The answers of the items and their parts, in preorder; the declarations of a `local` are items too.
unfoldable mutual
  pub item_answers : Tables → Context → r.Decs → List Bool
  item_answers tables c r.no_decs = []
  item_answers tables c (r.vals bs ds) =
      (is_val bs && values_are_global bs && names_are_global (bound_by_rules bs) && is_global (bindings_effect c bs) && all_are_bound (rules_binders bs))
      ∷ (bindings_answers tables c bs ++ item_answers tables (bound_by_rules bs ++ c) ds)
  item_answers tables c (r.funs group ds) =
      (is_group c group && names_are_global (with_group group []) && is_global (group_effect group) && all_are_bound (around_group group (defs_binders group)))
      ∷ (defs_answers tables (with_group group c) group ++ item_answers tables (with_group group c) ds)
  item_answers tables c (r.locals hidden shown ds) =
      true ∷ (item_answers tables c hidden ++ (item_answers tables (after hidden c) shown ++ item_answers tables (shown_by shown (after hidden c) ++ c) ds))

abbrev pub program_tables : r.Program → Tables
program_tables p = record { datatypes = p.datatypes; exceptions = p.exceptions }

-- the basis is in front and what follows it is as it must be, and each region and each effect variable is bound once
abbrev pub program_fits : r.Program → Bool
program_fits p = tables_fit (program_tables p) && bind_once (decs_binders p.items)

-- Those of a program. Where its tables don't fit, or a region or an effect variable is bound more than once, it fails at its first node.
abbrev pub program_answers : r.Program → List Bool
program_answers p = if program_fits p then item_answers (program_tables p) [] p.items else false ∷ []
