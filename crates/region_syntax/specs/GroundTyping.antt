-- The typing rules of specialised terms: a test of each node with the types that its parts carry. The Definition of Standard ML, section 4.10, without
-- type variables; constructors and primitives are taken at the types that their nodes carry.
use Rattle.std.specs.Prelude.{ℕ, nat_eq, Bool, true, false, ◌&&◌, ◌||◌, if◌then◌else◌, List, [], ◌∷◌, ◌++◌, map, Option, Some, None, codes}
use Rattle.std.specs.Option.{option_and_then, option_map, option_map_or}
use Rattle.std.specs.List.{list_all, slice_get}
use Rattle.std.specs.Str.{bytes_eq}
use Rattle.type_terms.specs.TypeTerms as s
use Rattle.type_terms.specs.TypeTerms.{Schemes}
use Rattle.basis_table.specs.BasisTable as b
use Rattle.basis_table.specs.BasisTable.{BasisScheme, TypeName}
use Rattle.sml_syntax.specs.declared.constructor.Constructor.{Constructor}
use Rattle.sml_syntax.specs.declared.constructor.Constructor.TheVariants as con
use Rattle.region_syntax.specs.GroundTypes as t
use Rattle.region_syntax.specs.GroundTypes.{GroundType, GroundTypes, many_types, with_types}
use Rattle.region_syntax.specs.GroundTerms as g
use Rattle.region_syntax.specs.GroundTerms.{Datatype}
use Rattle.region_syntax.specs.Erasure.{erased_argument}
use Rattle.region_syntax.specs.Effects.{same_ground, same_grounds}
use Rattle.region_syntax.specs.PrimitiveTypes.{primitive_scheme, is_datatype, is_plain}
use Rattle.region_syntax.specs.Datatypes.{type_stands, declaration_stands, argument_stands}
use Rattle.region_syntax.specs.RegionTyping.{may_compare, all_hold}
use Rattle.region_syntax.specs.TopLevel.{basis_datatypes, basis_exceptions, begins_with, same_constructor, same_datatype, declarations_follow}

-- names with their types, the innermost first
abbrev pub Context : Type 0
Context = List (List ℕ × GroundType)

unfoldable pub type_at : List ℕ → Context → Option GroundType
type_at name [] = None
type_at name (c ∷ cs) = if bytes_eq c.0 name then Some c.1 else type_at name cs

-- the datatypes and exceptions of the program
pub record Tables : Type 0 where
  pub datatypes : List Datatype
  pub exceptions : List (List ℕ × Option GroundType)

-- the types that nodes carry
abbrev pub type_of : g.Exp → GroundType
type_of (g.exp a form) = a

abbrev pub pat_type : g.Pat → GroundType
pat_type (g.pat a form) = a

unfoldable pub types_of_exps : g.Exps → GroundTypes
types_of_exps g.no_exps = t.no_types
types_of_exps (g.exps e es) = t.types (type_of e) (types_of_exps es)

unfoldable pub types_of_pats : g.Pats → GroundTypes
types_of_pats g.no_pats = t.no_types
types_of_pats (g.pats p ps) = t.types (pat_type p) (types_of_pats ps)

-- each of the types is this one
unfoldable pub all_same : GroundType → GroundTypes → Bool
all_same a t.no_types = true
all_same a (t.types x xs) = same_ground a x && all_same a xs

unfoldable pub last_type : GroundTypes → Option GroundType
last_type t.no_types = None
last_type (t.types x t.no_types) = Some x
last_type (t.types x xs) = last_type xs

abbrev pub is_last : GroundType → GroundTypes → Bool
is_last a xs = option_map_or (same_ground a) (last_type xs) false

unfoldable pub is_list_of : GroundType → GroundTypes → Bool
is_list_of (t.Data n (t.types a t.no_types)) xs = nat_eq n 1 && all_same a xs
is_list_of _ xs = false

unfoldable pub is_bool : GroundType → Bool
is_bool (t.Data n t.no_types) = nat_eq n 0
is_bool _ = false

-- the argument's type of a constructor whose values have this type, if it takes one
unfoldable pub argument_of : Tables → Constructor → GroundType → Option (Option GroundType)
argument_of tables (con.Data n i) (t.Data m xs) =
    if nat_eq n m then option_and_then (λ d. if nat_eq d.params (many_types xs) then option_map (λ c. option_map (with_types xs) c.1) (slice_get d.constructors i) else None) (slice_get tables.datatypes n) else None
argument_of tables (con.Exn n) t.Exn = option_map (λ c. c.1) (slice_get tables.exceptions n)
argument_of tables con.Ref (t.Ref a) = Some (Some a)
argument_of tables _ _ = None

-- a constructor takes no argument; its argument has this type
unfoldable pub takes_none : Option (Option GroundType) → Bool
takes_none (Some None) = true
takes_none _ = false

unfoldable pub takes : GroundType → Option (Option GroundType) → Bool
takes a (Some (Some other)) = same_ground a other
takes a _ = false

-- a constructor as an expression: a value, or a function that makes one
unfoldable pub constructor_fits : Tables → Constructor → GroundType → Bool
constructor_fits tables c (t.Arrow x y) = takes x (argument_of tables c y)
constructor_fits tables c a = takes_none (argument_of tables c a)

-- the names that a pattern binds, with their types
unfoldable mutual
  pub bound_by : g.Pat → Context
  bound_by (g.pat a form) = bound_by_form a form

  pub bound_by_form : GroundType → g.PatForm → Context
  bound_by_form a (g.NamePat name) = (name, a) ∷ []
  bound_by_form a (g.TuplePat ps) = bound_by_each ps
  bound_by_form a (g.ListPat ps) = bound_by_each ps
  bound_by_form a (g.AppPat c p) = bound_by p
  bound_by_form a _ = []

  pub bound_by_each : g.Pats → Context
  bound_by_each g.no_pats = []
  bound_by_each (g.pats p ps) = bound_by_each ps ++ bound_by p

unfoldable pub is_once : Context → Bool
is_once [] = true
is_once (c ∷ cs) = option_map_or (λ a. false) (type_at c.0 cs) true && is_once cs

-- the names of a group, each with the type of its first rule, before the others
unfoldable pub function_type : g.Rules → GroundType
function_type g.no_rules = t.Unit
function_type (g.rules p e rs) = t.Arrow (pat_type p) (type_of e)

unfoldable pub with_group : g.Defs → Context → Context
with_group g.no_defs c = c
with_group (g.defs name rs ds) c = (name, function_type rs) ∷ with_group ds c

unfoldable pub bound_by_rules : g.Rules → Context
bound_by_rules g.no_rules = []
bound_by_rules (g.rules p e rs) = bound_by_rules rs ++ bound_by p

-- the names of declarations, before the others; those of the first part of a `local` are seen in it alone
unfoldable pub shown_by : g.Decs → Context → Context
shown_by g.no_decs c = []
shown_by (g.vals bs ds) c = shown_by ds (bound_by_rules bs ++ c) ++ bound_by_rules bs
shown_by (g.funs group ds) c = shown_by ds (with_group group c) ++ with_group group []
shown_by (g.locals hidden shown ds) c = shown_by ds (shown_by shown (shown_by hidden c ++ c) ++ c) ++ shown_by shown (shown_by hidden c ++ c)

abbrev pub after : g.Decs → Context → Context
after ds c = shown_by ds c ++ c

-- the rules of a match: one or more, from a type to a type
unfoldable pub are_rules : GroundType → GroundType → g.Rules → Bool
are_rules x y g.no_rules = true
are_rules x y (g.rules p e rs) = same_ground (pat_type p) x && same_ground (type_of e) y && is_once (bound_by p) && are_rules x y rs

unfoldable pub some_rules : g.Rules → Bool
some_rules g.no_rules = false
some_rules (g.rules p e rs) = true

abbrev pub is_match : GroundType → GroundType → g.Rules → Bool
is_match x y rs = some_rules rs && are_rules x y rs

unfoldable pub is_function : GroundType → g.Rules → Bool
is_function (t.Arrow x y) rs = is_match x y rs
is_function _ rs = false

unfoldable pub are_functions : g.Defs → Bool
are_functions g.no_defs = true
are_functions (g.defs name rs ds) = is_function (function_type rs) rs && are_functions ds

unfoldable pub some_defs : g.Defs → Bool
some_defs g.no_defs = false
some_defs (g.defs name rs ds) = true

-- a group: one or more functions
abbrev pub is_group : g.Defs → Bool
is_group group = some_defs group && is_once (with_group group []) && are_functions group

-- the bindings of a `val`: one or more
unfoldable pub are_bindings : g.Rules → Bool
are_bindings g.no_rules = true
are_bindings (g.rules p e rs) = same_ground (pat_type p) (type_of e) && are_bindings rs

abbrev pub is_val : g.Rules → Bool
is_val bs = some_rules bs && is_once (bound_by_rules bs) && are_bindings bs

-- the declarations of a `let`
unfoldable pub are_decs : g.Decs → Bool
are_decs g.no_decs = true
are_decs (g.vals bs ds) = is_val bs && are_decs ds
are_decs (g.funs group ds) = is_group group && are_decs ds
are_decs (g.locals hidden shown ds) = are_decs hidden && are_decs shown && are_decs ds

unfoldable pub antis_are : GroundType → g.Pieces → Bool
antis_are a g.no_pieces = true
antis_are a (g.plain text ps) = antis_are a ps
antis_are a (g.anti e ps) = same_ground a (type_of e) && antis_are a ps

-- a quotation is a list of `frag`s
unfoldable pub is_quotation : GroundType → g.Pieces → Bool
is_quotation (t.Data n (t.types (t.Data m (t.types a t.no_types)) t.no_types)) ps = nat_eq n 1 && nat_eq m 4 && antis_are a ps
is_quotation _ ps = false

-- a tuple has two parts or more
unfoldable pub two_or_more : GroundTypes → Bool
two_or_more (t.types x (t.types y xs)) = true
two_or_more _ = false

unfoldable pub is_tuple : GroundType → GroundTypes → Bool
is_tuple (t.Tuple xs) ys = two_or_more ys && same_grounds xs ys
is_tuple _ ys = false

unfoldable pub is_application : GroundType → GroundType → GroundType → Bool
is_application (t.Arrow x y) argument result = same_ground x argument && same_ground y result
is_application _ argument result = false

-- A type as a row of the basis has it, with what the row's variables stand for.
abbrev pub Filling : Type 0
Filling = List (ℕ × GroundType)

unfoldable pub filled_at : ℕ → Filling → Option GroundType
filled_at n [] = None
filled_at n (f ∷ fs) = if nat_eq f.0 n then Some f.1 else filled_at n fs

unfoldable pub at_variable : ℕ → GroundType → Option GroundType → Filling → Option Filling
at_variable n a None fs = Some ((n, a) ∷ fs)
at_variable n a (Some other) fs = if same_ground a other then Some fs else None

unfoldable mutual
  pub row_matches : BasisScheme → GroundType → Filling → Option Filling
  row_matches (s.place e n) a fs = at_variable n a (filled_at n fs) fs
  row_matches (s.open_made b.Arrow ss) (t.Arrow x y) fs = rows_match ss (t.types x (t.types y t.no_types)) fs
  row_matches (s.open_made (b.Tuple k) ss) (t.Tuple ts) fs = rows_match ss ts fs
  row_matches (s.open_made (b.Basis n) ss) (t.Data k ts) fs = if is_datatype n k then rows_match ss ts fs else None
  row_matches (s.open_made (b.Basis n) ss) (t.Ref x) fs = if nat_eq n 10 then rows_match ss (t.types x t.no_types) fs else None
  row_matches (s.open_made (b.Basis n) ss) (t.Desc x) fs = if nat_eq n 11 then rows_match ss (t.types x t.no_types) fs else None
  row_matches (s.open_made (b.Basis n) ss) (t.Cache x y) fs = if nat_eq n 12 then rows_match ss (t.types x (t.types y t.no_types)) fs else None
  row_matches (s.open_made (b.Basis n) s.no_schemes) a fs = if is_plain n a then Some fs else None
  row_matches _ a fs = None

  pub rows_match : Schemes TypeName → GroundTypes → Filling → Option Filling
  rows_match s.no_schemes t.no_types fs = Some fs
  rows_match (s.schemes x xs) (t.types a ts) fs = option_and_then (rows_match xs ts) (row_matches x a fs)
  rows_match _ _ fs = None

-- a primitive of the table at a type; a comparison stands only at a type whose values may be compared
unfoldable pub comparison_fits : Tables → List ℕ → GroundType → Bool
comparison_fits tables name (t.Arrow (t.Tuple (t.types a ts)) result) =
    if bytes_eq name (codes "=") || bytes_eq name (codes "<>") then may_compare tables.datatypes a else true
comparison_fits tables name _ = true

unfoldable pub primitive_fits : Tables → List ℕ → GroundType → Bool
primitive_fits tables name a =
    option_map_or (λ scheme. option_map_or (λ fs. true) (row_matches scheme a []) false) (primitive_scheme name) false && comparison_fits tables name a

-- whether the rule of a node's form holds
unfoldable pub pat_fits : Tables → GroundType → g.PatForm → Bool
pat_fits tables a g.AnyPat = true
pat_fits tables a (g.NamePat name) = true
pat_fits tables a (g.IntPat n) = same_ground a t.Int
pat_fits tables a (g.CharPat n) = same_ground a t.Char
pat_fits tables a g.UnitPat = same_ground a t.Unit
pat_fits tables a (g.StrPat text) = same_ground a t.Str
pat_fits tables a (g.TuplePat ps) = is_tuple a (types_of_pats ps)
pat_fits tables a (g.ListPat ps) = is_list_of a (types_of_pats ps)
pat_fits tables a (g.ConPat c) = takes_none (argument_of tables c a)
pat_fits tables a (g.AppPat c p) = takes (pat_type p) (argument_of tables c a)

unfoldable pub fits : Tables → Context → GroundType → g.Form → Bool
fits tables c a (g.Int n) = same_ground a t.Int
fits tables c a (g.Char n) = same_ground a t.Char
fits tables c a (g.Str text) = same_ground a t.Str
fits tables c a (g.Name name) = option_map_or (same_ground a) (type_at name c) false
fits tables c a (g.Prim name) = primitive_fits tables name a
fits tables c a (g.Con k) = constructor_fits tables k a
fits tables c a g.Unit = same_ground a t.Unit
fits tables c a (g.Tuple es) = is_tuple a (types_of_exps es)
fits tables c a (g.List_of es) = is_list_of a (types_of_exps es)
fits tables c a (g.Seq es) = is_last a (types_of_exps es)
fits tables c a (g.App f e) = is_application (type_of f) (type_of e) a
fits tables c a (g.Let ds es) = are_decs ds && is_last a (types_of_exps es)
fits tables c a (g.Fn rs) = is_function a rs
fits tables c a (g.Case e rs) = is_match (type_of e) a rs
fits tables c a (g.Handle e rs) = same_ground (type_of e) a && is_match t.Exn a rs
fits tables c a (g.Raise e) = same_ground (type_of e) t.Exn
fits tables c a (g.If x y z) = is_bool (type_of x) && same_ground (type_of y) a && same_ground (type_of z) a
fits tables c a (g.Both x y) = is_bool a && is_bool (type_of x) && same_ground (type_of y) a
fits tables c a (g.Either x y) = is_bool a && is_bool (type_of x) && same_ground (type_of y) a
fits tables c a (g.Quote ps) = is_quotation a ps

-- The answers of the nodes' own rules, each before those of its parts and these in order.
unfoldable mutual
  pub pat_answers : Tables → g.Pat → List Bool
  pat_answers tables (g.pat a form) = (type_stands tables.datatypes a && pat_fits tables a form) ∷ pat_part_answers tables form

  pub pat_part_answers : Tables → g.PatForm → List Bool
  pat_part_answers tables (g.TuplePat ps) = pats_answers tables ps
  pat_part_answers tables (g.ListPat ps) = pats_answers tables ps
  pat_part_answers tables (g.AppPat c p) = pat_answers tables p
  pat_part_answers tables _ = []

  pub pats_answers : Tables → g.Pats → List Bool
  pats_answers tables g.no_pats = []
  pats_answers tables (g.pats p ps) = pat_answers tables p ++ pats_answers tables ps

unfoldable mutual
  pub answers : Tables → Context → g.Exp → List Bool
  answers tables c (g.exp a form) = (type_stands tables.datatypes a && fits tables c a form) ∷ part_answers tables c form

  pub part_answers : Tables → Context → g.Form → List Bool
  part_answers tables c (g.Tuple es) = exps_answers tables c es
  part_answers tables c (g.List_of es) = exps_answers tables c es
  part_answers tables c (g.Seq es) = exps_answers tables c es
  part_answers tables c (g.App f e) = answers tables c f ++ answers tables c e
  part_answers tables c (g.Let ds es) = decs_answers tables c ds ++ exps_answers tables (after ds c) es
  part_answers tables c (g.Fn rs) = rules_answers tables c rs
  part_answers tables c (g.Case e rs) = answers tables c e ++ rules_answers tables c rs
  part_answers tables c (g.Handle e rs) = answers tables c e ++ rules_answers tables c rs
  part_answers tables c (g.Raise e) = answers tables c e
  part_answers tables c (g.If x y z) = answers tables c x ++ (answers tables c y ++ answers tables c z)
  part_answers tables c (g.Both x y) = answers tables c x ++ answers tables c y
  part_answers tables c (g.Either x y) = answers tables c x ++ answers tables c y
  part_answers tables c (g.Quote ps) = pieces_answers tables c ps
  part_answers tables c _ = []

  pub exps_answers : Tables → Context → g.Exps → List Bool
  exps_answers tables c g.no_exps = []
  exps_answers tables c (g.exps e es) = answers tables c e ++ exps_answers tables c es

  -- of the rules of a match
  pub rules_answers : Tables → Context → g.Rules → List Bool
  rules_answers tables c g.no_rules = []
  rules_answers tables c (g.rules p e rs) = pat_answers tables p ++ (answers tables (bound_by p ++ c) e ++ rules_answers tables c rs)

  -- of the bindings of a `val`
  pub bindings_answers : Tables → Context → g.Rules → List Bool
  bindings_answers tables c g.no_rules = []
  bindings_answers tables c (g.rules p e rs) = pat_answers tables p ++ (answers tables c e ++ bindings_answers tables c rs)

  pub pieces_answers : Tables → Context → g.Pieces → List Bool
  pieces_answers tables c g.no_pieces = []
  pieces_answers tables c (g.plain text ps) = pieces_answers tables c ps
  pieces_answers tables c (g.anti e ps) = answers tables c e ++ pieces_answers tables c ps

  -- of the functions of a group, in the context of their bodies
  pub defs_answers : Tables → Context → g.Defs → List Bool
  defs_answers tables c g.no_defs = []
  defs_answers tables c (g.defs name rs ds) = rules_answers tables c rs ++ defs_answers tables c ds

  -- of the parts of declarations
  pub decs_answers : Tables → Context → g.Decs → List Bool
  decs_answers tables c g.no_decs = []
  decs_answers tables c (g.vals bs ds) = bindings_answers tables c bs ++ decs_answers tables (bound_by_rules bs ++ c) ds
  decs_answers tables c (g.funs group ds) = defs_answers tables (with_group group c) group ++ decs_answers tables (with_group group c) ds
  decs_answers tables c (g.locals hidden shown ds) =
      decs_answers tables c hidden ++ (decs_answers tables (after hidden c) shown ++ decs_answers tables (shown_by shown (after hidden c) ++ c) ds)

-- the basis is in front of the program's own datatypes and exceptions, and the types of their arguments stand
abbrev pub tables_fit : Tables → Bool
tables_fit tables =
    begins_with same_datatype basis_datatypes tables.datatypes
    && begins_with (same_constructor same_ground) (map (λ c. (c.0, erased_argument c.1)) basis_exceptions) tables.exceptions
    && declarations_follow 0 tables.datatypes && list_all (declaration_stands tables.datatypes) tables.datatypes && list_all (λ e. argument_stands tables.datatypes e.1) tables.exceptions

abbrev pub program_tables : g.Program → Tables
program_tables p = record { datatypes = p.datatypes; exceptions = p.exceptions }

-- a specialised program is well typed
abbrev pub is_well_typed : g.Program → Bool
is_well_typed p = tables_fit (program_tables p) && are_decs p.items && all_hold (decs_answers (program_tables p) [] p.items)
