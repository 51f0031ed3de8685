-- The region rules: a test of each node with the types that its parts carry. Tofte and Talpin's region calculus; the top level and packets are of this project.
use Rattle.std.specs.Prelude.{ℕ, zero, suc, ◌+◌, nat_eq, Bool, true, false, not, ◌&&◌, ◌||◌, if◌then◌else◌, List, [], ◌∷◌, ◌++◌, length, map, Option, Some, None, codes}
use Rattle.std.specs.Option.{option_and_then, option_map, option_map_or}
use Rattle.std.specs.List.{list_all, slice_get}
use Rattle.std.specs.Str.{bytes_eq}
use Rattle.region_syntax.specs.declared.types.Place.{Place}
use Rattle.region_syntax.specs.declared.types.Place.TheVariants as place
use Rattle.region_syntax.specs.declared.types.Effect.{Effect}
use Rattle.sml_syntax.specs.declared.constructor.Constructor.{Constructor}
use Rattle.sml_syntax.specs.declared.constructor.Constructor.TheVariants as con
use Rattle.region_syntax.specs.GroundTypes as g
use Rattle.region_syntax.specs.GroundTypes.{GroundType, GroundTypes}
use Rattle.region_syntax.specs.GroundTerms.{Datatype}
use Rattle.region_syntax.specs.RegionTypes as t
use Rattle.region_syntax.specs.RegionTypes.{RegionType, RegionTypes, erased_type}
use Rattle.region_syntax.specs.RegionTerms as r
use Rattle.region_syntax.specs.Effects.{same_place, is_place_in, no_effect, on, both, within, without, same_type, same_types, all_of, is_free_of, place_of, on_type, placed, place_for, effect_for, put}
use Rattle.region_syntax.specs.Cost.{regions_of, meeting, leaving}
use Rattle.region_syntax.specs.PrimitiveTypes.{primitive_fits}
use Rattle.region_syntax.specs.Datatypes.{type_stands, are_uniform}

-- what a name stands for: a type, or in a group's scope a type that binds regions and effect variables, with the place of the group's closure
pub data Scheme : Type 0 where
  mono : RegionType → Scheme
  poly : List ℕ → List ℕ → Place → RegionType → Scheme

-- names with what they stand for, the innermost first
abbrev pub Context : Type 0
Context = List (List ℕ × Scheme)

unfoldable pub scheme_of : List ℕ → Context → Option Scheme
scheme_of name [] = None
scheme_of name (c ∷ cs) = if bytes_eq c.0 name then Some c.1 else scheme_of name cs

-- the datatypes and exceptions of the program
pub record Tables : Type 0 where
  pub datatypes : List Datatype
  pub exceptions : List (List ℕ × Option RegionType)

-- the types of expressions, which their nodes carry
abbrev pub type_of : r.Exp → RegionType
type_of (r.exp a form) = a

abbrev pub pat_type : r.Pat → RegionType
pat_type (r.pat a form) = a

unfoldable pub types_of_exps : r.Exps → RegionTypes
types_of_exps r.no_exps = t.no_types
types_of_exps (r.exps e es) = t.types (type_of e) (types_of_exps es)

unfoldable pub types_of_pats : r.Pats → RegionTypes
types_of_pats r.no_pats = t.no_types
types_of_pats (r.pats p ps) = t.types (pat_type p) (types_of_pats ps)

-- each of the types is this one
unfoldable pub all_same : RegionType → RegionTypes → Bool
all_same a t.no_types = true
all_same a (t.types x xs) = same_type a x && all_same a xs

unfoldable pub last_type : RegionTypes → Option RegionType
last_type t.no_types = None
last_type (t.types x t.no_types) = Some x
last_type (t.types x xs) = last_type xs

abbrev pub is_last : RegionType → RegionTypes → Bool
is_last a xs = option_map_or (same_type a) (last_type xs) false

-- a list of this type, whose cells lie there
unfoldable pub is_list_of : RegionType → Place → RegionTypes → Bool
is_list_of (t.Data n (t.types a t.no_types) p e) at xs = nat_eq n 1 && same_place p at && all_same a xs
is_list_of _ at xs = false

unfoldable pub is_bool : RegionType → Bool
is_bool (t.Data n t.no_types p e) = nat_eq n 0
is_bool _ = false

unfoldable pub many_types : RegionTypes → ℕ
many_types t.no_types = 0
many_types (t.types x xs) = suc (many_types xs)

-- the argument's type of a constructor of a datatype, if it takes one, where the datatype has so many arguments
unfoldable pub argument_in : RegionTypes → Place → Effect → Option GroundType → Option (Option RegionType)
argument_in xs p e None = Some None
argument_in xs p e (Some a) = option_map Some (placed xs p e a)

-- the argument's type of a constructor whose values have this type, if it takes one
unfoldable pub argument_of : Tables → Constructor → RegionType → Option (Option RegionType)
argument_of tables (con.Data n i) (t.Data m xs p e) =
    if nat_eq n m then option_and_then (λ d. if nat_eq d.params (many_types xs) then option_and_then (λ c. argument_in xs p e c.1) (slice_get d.constructors i) else None) (slice_get tables.datatypes n) else None
argument_of tables (con.Exn n) t.Exn = option_map (λ c. c.1) (slice_get tables.exceptions n)
argument_of tables con.Ref (t.Ref p a) = Some (Some a)
argument_of tables _ _ = None

-- a constructor takes no argument; its argument has this type
unfoldable pub takes_none : Option (Option RegionType) → Bool
takes_none (Some None) = true
takes_none _ = false

unfoldable pub takes : RegionType → Option (Option RegionType) → Bool
takes a (Some (Some b)) = same_type a b
takes a _ = false

-- a constructor as an expression: a value, or a function that makes one
unfoldable pub constructor_fits : Tables → Constructor → RegionType → Bool
constructor_fits tables c (t.Arrow p a e b) = takes a (argument_of tables c b) && within (on_type b) e
constructor_fits tables c a = takes_none (argument_of tables c a)

-- the names that a pattern binds, with their types: those of later parts stand before those of earlier ones
unfoldable mutual
  pub bound_by : r.Pat → Context
  bound_by (r.pat a form) = bound_by_form a form

  pub bound_by_form : RegionType → r.PatForm → Context
  bound_by_form a (r.NamePat name) = (name, mono a) ∷ []
  bound_by_form a (r.TuplePat ps) = bound_by_each ps
  bound_by_form a (r.ListPat ps) = bound_by_each ps
  bound_by_form a (r.AppPat c p) = bound_by p
  bound_by_form a _ = []

  pub bound_by_each : r.Pats → Context
  bound_by_each r.no_pats = []
  bound_by_each (r.pats p ps) = bound_by_each ps ++ bound_by p

unfoldable pub is_once : Context → Bool
is_once [] = true
is_once (c ∷ cs) = option_map_or (λ a. false) (scheme_of c.0 cs) true && is_once cs

-- A pattern follows a tuple, a constructor's argument, the cells of a list that isn't empty, and a text that it compares; an exception it follows in the global region.
unfoldable mutual
  pub pat_effect : r.Pat → Effect
  pat_effect (r.pat a form) = pat_form_effect a form

  pub pat_form_effect : RegionType → r.PatForm → Effect
  pat_form_effect a (r.StrPat text) = on_type a
  pat_form_effect a (r.TuplePat ps) = both (on_type a) (pats_effect ps)
  pat_form_effect a (r.ListPat r.no_pats) = no_effect
  pat_form_effect a (r.ListPat ps) = both (on_type a) (pats_effect ps)
  pat_form_effect t.Exn (r.ConPat c) = on place.Global
  pat_form_effect a (r.AppPat c p) = both (on_type a) (pat_effect p)
  pat_form_effect a _ = no_effect

  pub pats_effect : r.Pats → Effect
  pats_effect r.no_pats = no_effect
  pats_effect (r.pats p ps) = both (pat_effect p) (pats_effect ps)

-- making a function, or calling one
unfoldable pub function_effect : RegionType → Effect
function_effect (t.Arrow p a e b) = on p
function_effect _ = no_effect

unfoldable pub call_effect : RegionType → Effect
call_effect (t.Arrow p a e b) = both (on p) e
call_effect _ = no_effect

unfoldable pub constructor_effect : RegionType → Effect
constructor_effect (t.Arrow p a e b) = on p
constructor_effect t.Exn = on place.Global
constructor_effect _ = no_effect

unfoldable pub instance_effect : Option Scheme → RegionType → Effect
instance_effect (Some (poly rs es at a)) b = both (on at) (function_effect b)
instance_effect _ b = no_effect

-- the names of a group, with their schemes, before the others
unfoldable pub with_group : r.Defs → Context → Context
with_group r.no_defs c = c
with_group (r.defs head rs ds) c = (head.name, poly head.regions head.effects head.at head.ty) ∷ with_group ds c

unfoldable pub bound_by_rules : r.Rules → Context
bound_by_rules r.no_rules = []
bound_by_rules (r.rules p e rs) = bound_by_rules rs ++ bound_by p

-- the names of declarations, before the others; those of the first part of a `local` are seen in it alone
unfoldable pub shown_by : r.Decs → Context → Context
shown_by r.no_decs c = []
shown_by (r.vals bs ds) c = shown_by ds (bound_by_rules bs ++ c) ++ bound_by_rules bs
shown_by (r.funs group ds) c = shown_by ds (with_group group c) ++ with_group group []
shown_by (r.locals hidden shown ds) c = shown_by ds (shown_by shown (shown_by hidden c ++ c) ++ c) ++ shown_by shown (shown_by hidden c ++ c)

abbrev pub after : r.Decs → Context → Context
after ds c = shown_by ds c ++ c

unfoldable pub group_effect : r.Defs → Effect
group_effect r.no_defs = no_effect
group_effect (r.defs head rs ds) = both (on head.at) (group_effect ds)

-- The effect of an expression: what it makes and follows itself, and the effects of its parts.
unfoldable mutual
  pub effect : Context → r.Exp → Effect
  effect c (r.exp a form) = form_effect c a form

  pub form_effect : Context → RegionType → r.Form → Effect
  form_effect c a (r.Int n) = no_effect
  form_effect c a (r.Char n) = no_effect
  form_effect c a (r.Str text at) = on at
  form_effect c a (r.Name name) = no_effect
  form_effect c a (r.Prim name) = function_effect a
  form_effect c a (r.Con k) = constructor_effect a
  form_effect c a r.Unit = no_effect
  form_effect c a (r.Tuple es at) = both (on at) (exps_effect c es)
  form_effect c a (r.List_of r.no_exps at) = no_effect
  form_effect c a (r.List_of es at) = both (on at) (exps_effect c es)
  form_effect c a (r.Seq es) = exps_effect c es
  form_effect c a (r.App f e) = both (call_effect (type_of f)) (both (effect c f) (effect c e))
  form_effect c a (r.Let ds es) = both (decs_effect c ds) (exps_effect (after ds c) es)
  form_effect c a (r.Fn rs at) = on at
  form_effect c a (r.Case e rs) = both (effect c e) (rules_effect c rs)
  form_effect c a (r.Handle e rs) = both (effect c e) (rules_effect c rs)
  form_effect c a (r.Raise e) = both (on place.Global) (effect c e)
  form_effect c a (r.If x y z) = both (effect c x) (both (effect c y) (effect c z))
  form_effect c a (r.Both x y) = both (effect c x) (effect c y)
  form_effect c a (r.Either x y) = both (effect c x) (effect c y)
  form_effect c a (r.Quote ps at) = both (on at) (pieces_effect c ps)
  form_effect c a (r.LetRegion rs e) = without (meeting rs (regions_of e)) (effect c e)
  form_effect c a (r.Fix ds e) = both (group_effect ds) (effect (with_group ds c) e)
  form_effect c a (r.Inst name places effects) = instance_effect (scheme_of name c) a

  pub exps_effect : Context → r.Exps → Effect
  exps_effect c r.no_exps = no_effect
  exps_effect c (r.exps e es) = both (effect c e) (exps_effect c es)

  -- of the rules of a match
  pub rules_effect : Context → r.Rules → Effect
  rules_effect c r.no_rules = no_effect
  rules_effect c (r.rules p e rs) = both (pat_effect p) (both (effect (bound_by p ++ c) e) (rules_effect c rs))

  -- of the bindings of a `val`
  pub bindings_effect : Context → r.Rules → Effect
  bindings_effect c r.no_rules = no_effect
  bindings_effect c (r.rules p e rs) = both (pat_effect p) (both (effect c e) (bindings_effect c rs))

  pub pieces_effect : Context → r.Pieces → Effect
  pieces_effect c r.no_pieces = no_effect
  pieces_effect c (r.plain text ps) = pieces_effect c ps
  pieces_effect c (r.anti e ps) = both (effect c e) (pieces_effect c ps)

  pub decs_effect : Context → r.Decs → Effect
  decs_effect c r.no_decs = no_effect
  decs_effect c (r.vals bs ds) = both (bindings_effect c bs) (decs_effect (bound_by_rules bs ++ c) ds)
  decs_effect c (r.funs group ds) = both (group_effect group) (decs_effect (with_group group c) ds)
  decs_effect c (r.locals hidden shown ds) =
      both (decs_effect c hidden) (both (decs_effect (after hidden c) shown) (decs_effect (shown_by shown (after hidden c) ++ c) ds))

-- none of these regions and effect variables is free in what the names stand for; those that a scheme binds are bound once in the program
unfoldable pub scheme_is_free_of : List ℕ → List ℕ → Scheme → Bool
scheme_is_free_of rs es (mono a) = is_free_of rs es (all_of a)
scheme_is_free_of rs es (poly qs fs at a) = is_free_of (leaving qs rs) (leaving fs es) (all_of a) && is_free_of rs [] (on at)

abbrev pub context_is_free_of : List ℕ → List ℕ → Context → Bool
context_is_free_of rs es c = list_all (λ entry. scheme_is_free_of rs es entry.1) c

-- the rules of a match: one or more, from a type to a type
unfoldable pub are_rules : RegionType → RegionType → r.Rules → Bool
are_rules a b r.no_rules = true
are_rules a b (r.rules p e rs) = same_type (pat_type p) a && same_type (type_of e) b && is_once (bound_by p) && are_rules a b rs

unfoldable pub some_rules : r.Rules → Bool
some_rules r.no_rules = false
some_rules (r.rules p e rs) = true

abbrev pub is_match : RegionType → RegionType → r.Rules → Bool
is_match a b rs = some_rules rs && are_rules a b rs

-- a function of this type, whose rules have an effect within the type's
unfoldable pub is_function : Context → RegionType → r.Rules → Bool
is_function c (t.Arrow p a e b) rs = is_match a b rs && within (rules_effect c rs) e
is_function c _ rs = false

-- a call follows the closure that lies there: the place stands in the function's effect
unfoldable pub calls_at : Place → RegionType → Bool
calls_at at (t.Arrow p a e b) = is_place_in at e.regions
calls_at at _ = false

-- a value of this type lies there
unfoldable pub lies_at : Place → RegionType → Bool
lies_at at a = option_map_or (same_place at) (place_of a) false

-- A group, in the context of its bodies, where all its names have their whole schemes: the regions and effect variables that a function binds
-- are free neither in what stands around, nor where a closure of the group lies, nor in a scheme of the group that doesn't bind them.
-- In a program each region is bound once, so what a group binds is bound by no group inside its bodies.
-- An instance is an object of its own, which leads to the group's closure. So the place of the function's type is another one than that of the closure
-- and may be bound, and a call follows both: the closure's place stands in the effect of the function's type.
unfoldable pub group_is_free_of : List ℕ → List ℕ → r.Defs → Bool
group_is_free_of rs es r.no_defs = true
group_is_free_of rs es (r.defs head body ds) =
    scheme_is_free_of rs es (poly head.regions head.effects head.at head.ty) && group_is_free_of rs es ds

unfoldable pub are_functions : Context → Context → r.Defs → r.Defs → Bool
are_functions outer inner group r.no_defs = true
are_functions outer inner group (r.defs head body ds) =
    is_function inner head.ty body && calls_at head.at head.ty && context_is_free_of head.regions head.effects outer
    && group_is_free_of head.regions head.effects group && are_functions outer inner group ds

unfoldable pub some_defs : r.Defs → Bool
some_defs r.no_defs = false
some_defs (r.defs head rs ds) = true

-- a group: one or more functions
abbrev pub is_group : Context → r.Defs → Bool
is_group c group = some_defs group && is_once (with_group group []) && are_functions c (with_group group c) group group

-- the bindings of a `val`: one or more
unfoldable pub are_bindings : r.Rules → Bool
are_bindings r.no_rules = true
are_bindings (r.rules p e rs) = same_type (pat_type p) (type_of e) && are_bindings rs

abbrev pub is_val : r.Rules → Bool
is_val bs = some_rules bs && is_once (bound_by_rules bs) && are_bindings bs

-- the declarations of a `let`
unfoldable pub are_decs : Context → r.Decs → Bool
are_decs c r.no_decs = true
are_decs c (r.vals bs ds) = is_val bs && are_decs (bound_by_rules bs ++ c) ds
are_decs c (r.funs group ds) = is_group c group && are_decs (with_group group c) ds
are_decs c (r.locals hidden shown ds) = are_decs c hidden && are_decs (after hidden c) shown && are_decs (shown_by shown (after hidden c) ++ c) ds

-- a use of a group's name
unfoldable pub is_instance : Option Scheme → List Place → List Effect → RegionType → Bool
is_instance (Some (poly rs es at a)) places effects b =
    nat_eq (length rs) (length places) && nat_eq (length es) (length effects) && same_type (put (place_for rs places, effect_for es effects) a) b
is_instance _ places effects b = false

unfoldable pub is_name : Option Scheme → RegionType → Bool
is_name (Some (mono a)) b = same_type a b
is_name _ b = false

-- a quotation is a list of `frag`s, all made in one place
unfoldable pub antis_are : RegionType → r.Pieces → Bool
antis_are a r.no_pieces = true
antis_are a (r.plain text ps) = antis_are a ps
antis_are a (r.anti e ps) = same_type a (type_of e) && antis_are a ps

unfoldable pub is_quotation : RegionType → Place → r.Pieces → Bool
is_quotation (t.Data n (t.types (t.Data m (t.types a t.no_types) q f) t.no_types) p e) at ps = nat_eq n 1 && nat_eq m 4 && same_place p at && same_place q at && antis_are a ps
is_quotation _ at ps = false

-- a tuple has two parts or more
unfoldable pub two_or_more : RegionTypes → Bool
two_or_more (t.types a (t.types b ts)) = true
two_or_more _ = false

unfoldable pub is_tuple : RegionType → Place → RegionTypes → Bool
is_tuple (t.Tuple p xs) at ys = same_place p at && two_or_more ys && same_types xs ys
is_tuple _ at ys = false

unfoldable pub is_application : RegionType → RegionType → RegionType → Bool
is_application (t.Arrow p a e b) x y = same_type a x && same_type b y
is_application _ x y = false

-- The datatypes whose values may be compared: the greatest choice by which the arguments of their constructors may, the parameters taken as types that
-- may. Functions, packets, descriptions, caches and their kinds may not, references always may (the Definition of Standard ML, section 4.4).
unfoldable mutual
  pub admits : List Bool → GroundType → Bool
  admits choice g.Int = true
  admits choice g.Char = true
  admits choice g.Str = true
  admits choice g.Unit = true
  admits choice g.Exn = false
  admits choice (g.Tuple ts) = all_admit choice ts
  admits choice (g.Arrow a b) = false
  admits choice (g.Data n ts) = option_map_or (λ b. b) (slice_get choice n) false && all_admit choice ts
  admits choice (g.Ref a) = true
  admits choice (g.Cache a b) = false
  admits choice (g.Desc a) = false
  admits choice (g.Var n) = true

  pub all_admit : List Bool → GroundTypes → Bool
  all_admit choice g.no_types = true
  all_admit choice (g.types x xs) = admits choice x && all_admit choice xs

unfoldable pub arguments_admit : List Bool → List (List ℕ × Option GroundType) → Bool
arguments_admit choice [] = true
arguments_admit choice ((name, None) ∷ cs) = arguments_admit choice cs
arguments_admit choice ((name, Some a) ∷ cs) = admits choice a && arguments_admit choice cs

-- the datatypes from a number on that still may; the kinds of caches, which are the sixth, may not
unfoldable pub refined : List Bool → ℕ → List Datatype → List Bool
refined choice n [] = []
refined choice n (d ∷ ds) = (if nat_eq n 5 then false else arguments_admit choice d.constructors) ∷ refined choice (suc n) ds

unfoldable pub chosen : ℕ → List Datatype → List Bool → List Bool
chosen zero ds choice = choice
chosen (suc n) ds choice = chosen n ds (refined choice 0 ds)

abbrev pub equality_choice : List Datatype → List Bool
equality_choice ds = chosen (suc (length ds)) ds (map (λ d. true) ds)

unfoldable pub same_choice : List Bool → List Bool → Bool
same_choice [] [] = true
same_choice (b ∷ bs) (c ∷ cs) = (if b then c else not c) && same_choice bs cs
same_choice _ _ = false

-- no datatype is left to be taken out of the choice
abbrev pub is_kept : List Datatype → List Bool → Bool
is_kept ds choice = same_choice (refined choice 0 ds) choice

-- Values of a type may be compared: equality is theirs, by a choice that is kept, and it goes through finitely many types.
abbrev pub may_compare : List Datatype → GroundType → Bool
may_compare ds a = admits (equality_choice ds) a && are_uniform ds a && is_kept ds (equality_choice ds)

-- a comparison stands only at a type whose values may be compared
unfoldable pub comparison_fits : Tables → List ℕ → RegionType → Bool
comparison_fits tables name (t.Arrow p (t.Tuple q (t.types a ts)) e b) =
    if bytes_eq name (codes "=") || bytes_eq name (codes "<>") then may_compare tables.datatypes (erased_type a) else true
comparison_fits tables name _ = true

-- whether the rule of a node's form holds
unfoldable pub pat_fits : Tables → RegionType → r.PatForm → Bool
pat_fits tables a r.AnyPat = true
pat_fits tables a (r.NamePat name) = true
pat_fits tables a (r.IntPat n) = same_type a t.Int
pat_fits tables a (r.CharPat n) = same_type a t.Char
pat_fits tables a r.UnitPat = same_type a t.Unit
pat_fits tables (t.Str p) (r.StrPat text) = true
pat_fits tables a (r.StrPat text) = false
pat_fits tables (t.Tuple p xs) (r.TuplePat ps) = two_or_more (types_of_pats ps) && same_types xs (types_of_pats ps)
pat_fits tables a (r.TuplePat ps) = false
pat_fits tables (t.Data n xs p e) (r.ListPat ps) = is_list_of (t.Data n xs p e) p (types_of_pats ps)
pat_fits tables a (r.ListPat ps) = false
pat_fits tables a (r.ConPat c) = takes_none (argument_of tables c a)
pat_fits tables a (r.AppPat c p) = takes (pat_type p) (argument_of tables c a)

unfoldable pub fits : Tables → Context → RegionType → r.Form → Bool
fits tables c a (r.Int n) = same_type a t.Int
fits tables c a (r.Char n) = same_type a t.Char
fits tables c a (r.Str text at) = same_type a (t.Str at)
fits tables c a (r.Name name) = is_name (scheme_of name c) a
fits tables c a (r.Prim name) = primitive_fits name a && comparison_fits tables name a
fits tables c a (r.Con k) = constructor_fits tables k a
fits tables c a r.Unit = same_type a t.Unit
fits tables c a (r.Tuple es at) = is_tuple a at (types_of_exps es)
fits tables c a (r.List_of es at) = is_list_of a at (types_of_exps es)
fits tables c a (r.Seq es) = is_last a (types_of_exps es)
fits tables c a (r.App f e) = is_application (type_of f) (type_of e) a
fits tables c a (r.Let ds es) = are_decs c ds && is_last a (types_of_exps es)
fits tables c a (r.Fn rs at) = lies_at at a && is_function c a rs
fits tables c a (r.Case e rs) = is_match (type_of e) a rs
fits tables c a (r.Handle e rs) = same_type (type_of e) a && is_match t.Exn a rs
fits tables c a (r.Raise e) = same_type (type_of e) t.Exn
fits tables c a (r.If x y z) = is_bool (type_of x) && same_type (type_of y) a && same_type (type_of z) a
fits tables c a (r.Both x y) = is_bool a && is_bool (type_of x) && same_type (type_of y) a
fits tables c a (r.Either x y) = is_bool a && is_bool (type_of x) && same_type (type_of y) a
fits tables c a (r.Quote ps at) = is_quotation a at ps
fits tables c a (r.LetRegion rs e) = same_type (type_of e) a && is_free_of rs [] (all_of a) && context_is_free_of rs [] c
fits tables c a (r.Fix ds e) = is_group c ds && same_type (type_of e) a
fits tables c a (r.Inst name places effects) = is_instance (scheme_of name c) places effects a

-- the datatypes of a node's type are there
abbrev pub stands : Tables → RegionType → Bool
stands tables a = type_stands tables.datatypes (erased_type a)

-- The answers of the nodes' own rules, each before those of its parts and these in order.
unfoldable mutual
  pub pat_answers : Tables → r.Pat → List Bool
  pat_answers tables (r.pat a form) = (stands tables a && pat_fits tables a form) ∷ pat_part_answers tables form

  pub pat_part_answers : Tables → r.PatForm → List Bool
  pat_part_answers tables (r.TuplePat ps) = pats_answers tables ps
  pat_part_answers tables (r.ListPat ps) = pats_answers tables ps
  pat_part_answers tables (r.AppPat c p) = pat_answers tables p
  pat_part_answers tables _ = []

  pub pats_answers : Tables → r.Pats → List Bool
  pats_answers tables r.no_pats = []
  pats_answers tables (r.pats p ps) = pat_answers tables p ++ pats_answers tables ps

unfoldable mutual
  pub answers : Tables → Context → r.Exp → List Bool
  answers tables c (r.exp a form) = (stands tables a && fits tables c a form) ∷ part_answers tables c form

  pub part_answers : Tables → Context → r.Form → List Bool
  part_answers tables c (r.Tuple es at) = exps_answers tables c es
  part_answers tables c (r.List_of es at) = exps_answers tables c es
  part_answers tables c (r.Seq es) = exps_answers tables c es
  part_answers tables c (r.App f e) = answers tables c f ++ answers tables c e
  part_answers tables c (r.Let ds es) = decs_answers tables c ds ++ exps_answers tables (after ds c) es
  part_answers tables c (r.Fn rs at) = rules_answers tables c rs
  part_answers tables c (r.Case e rs) = answers tables c e ++ rules_answers tables c rs
  part_answers tables c (r.Handle e rs) = answers tables c e ++ rules_answers tables c rs
  part_answers tables c (r.Raise e) = answers tables c e
  part_answers tables c (r.If x y z) = answers tables c x ++ (answers tables c y ++ answers tables c z)
  part_answers tables c (r.Both x y) = answers tables c x ++ answers tables c y
  part_answers tables c (r.Either x y) = answers tables c x ++ answers tables c y
  part_answers tables c (r.Quote ps at) = pieces_answers tables c ps
  part_answers tables c (r.LetRegion rs e) = answers tables c e
  part_answers tables c (r.Fix ds e) = defs_answers tables (with_group ds c) ds ++ answers tables (with_group ds c) e
  part_answers tables c _ = []

  pub exps_answers : Tables → Context → r.Exps → List Bool
  exps_answers tables c r.no_exps = []
  exps_answers tables c (r.exps e es) = answers tables c e ++ exps_answers tables c es

  -- of the rules of a match
  pub rules_answers : Tables → Context → r.Rules → List Bool
  rules_answers tables c r.no_rules = []
  rules_answers tables c (r.rules p e rs) = pat_answers tables p ++ (answers tables (bound_by p ++ c) e ++ rules_answers tables c rs)

  -- of the bindings of a `val`
  pub bindings_answers : Tables → Context → r.Rules → List Bool
  bindings_answers tables c r.no_rules = []
  bindings_answers tables c (r.rules p e rs) = pat_answers tables p ++ (answers tables c e ++ bindings_answers tables c rs)

  pub pieces_answers : Tables → Context → r.Pieces → List Bool
  pieces_answers tables c r.no_pieces = []
  pieces_answers tables c (r.plain text ps) = pieces_answers tables c ps
  pieces_answers tables c (r.anti e ps) = answers tables c e ++ pieces_answers tables c ps

  -- of the functions of a group, in the context of their bodies
  pub defs_answers : Tables → Context → r.Defs → List Bool
  defs_answers tables c r.no_defs = []
  defs_answers tables c (r.defs head rs ds) = rules_answers tables c rs ++ defs_answers tables c ds

  -- of the parts of declarations
  pub decs_answers : Tables → Context → r.Decs → List Bool
  decs_answers tables c r.no_decs = []
  decs_answers tables c (r.vals bs ds) = bindings_answers tables c bs ++ decs_answers tables (bound_by_rules bs ++ c) ds
  decs_answers tables c (r.funs group ds) = defs_answers tables (with_group group c) group ++ decs_answers tables (with_group group c) ds
  decs_answers tables c (r.locals hidden shown ds) =
      decs_answers tables c hidden ++ (decs_answers tables (after hidden c) shown ++ decs_answers tables (shown_by shown (after hidden c) ++ c) ds)

-- the number of the first node whose own rule fails
unfoldable pub first_failing : List Bool → Option ℕ
first_failing [] = None
first_failing (true ∷ bs) = option_map suc (first_failing bs)
first_failing (false ∷ bs) = Some 0

-- that of two lists, one after the other: the first of the first list, or else that of the second one, which has so many before it
abbrev pub failing_after : ℕ → Option ℕ → Option ℕ → Option ℕ
failing_after n (Some i) other = Some i
failing_after n None other = option_map (λ i. n + i) other

-- the own rule of each node holds
abbrev pub all_hold : List Bool → Bool
all_hold = list_all (λ b. b)
