-- Which regions code uses, and which places an instance passes at run time. Of this project.
-- Code uses a region where it writes into it, stores it in a closure, or passes it to a function that uses it. It makes no closure for a
-- primitive, constructor or instance that is applied at once, no tuple for arguments that are written out, and none for the `case` on the arguments of a
-- function of several patterns. So the places of all these are used by no code.
use Rattle.std.specs.Prelude.{ℕ, nat_eq, Bool, true, false, not, ◌&&◌, ◌||◌, if◌then◌else◌, List, [], ◌∷◌, ◌++◌, Option, Some, None}
use Rattle.std.specs.Option.{option_map_or}
use Rattle.std.specs.Str.{bytes_eq}
use Rattle.std.specs.List.{list_all}
use Rattle.sml_syntax.specs.ByteClasses.{is_digit}
use Rattle.type_terms.specs.TypeTerms as s
use Rattle.basis_table.specs.BasisTable as b
use Rattle.basis_table.specs.BasisTable.{BasisScheme}
use Rattle.region_syntax.specs.declared.types.Place.{Place}
use Rattle.region_syntax.specs.RegionTypes as t
use Rattle.region_syntax.specs.RegionTypes.{RegionType}
use Rattle.region_syntax.specs.RegionTerms as r
use Rattle.region_syntax.specs.Effects.{is_number_in, place_of}
use Rattle.region_syntax.specs.Cost.{regions_in, leaving}
use Rattle.region_syntax.specs.PrimitiveTypes.{primitive_scheme}

-- ---- places that are passed

-- For names of groups, rows of flags: whether the place for each region that the name binds is passed. Where a row ends, and of a name without a row,
-- all are. Groups of one name share a row.
abbrev pub Passing : Type 0
Passing = List (List ℕ × List Bool)

unfoldable pub flags_of : List ℕ → Passing → List Bool
flags_of name [] = []
flags_of name (row ∷ rows) = if bytes_eq row.0 name then row.1 else flags_of name rows

unfoldable pub flagged : {A : Type 0} → List Bool → List A → List A
flagged [] xs = xs
flagged (f ∷ fs) [] = []
flagged (f ∷ fs) (x ∷ xs) = if f then x ∷ flagged fs xs else flagged fs xs

-- those that an instance of a name passes, and the regions of a function of that name that are passed to it
abbrev pub passed : {A : Type 0} → Passing → List ℕ → List A → List A
passed passing name xs = flagged (flags_of name passing) xs

-- ---- the arguments of a function of several patterns

-- The names `1`, `2`, .. of these arguments begin with a digit, as no name of a program's text does.
unfoldable pub is_argument : List ℕ → Bool
is_argument [] = false
is_argument (c ∷ cs) = is_digit c

unfoldable pub are_arguments : r.Exps → Bool
are_arguments r.no_exps = true
are_arguments (r.exps (r.exp a (r.Name name)) es) = is_argument name && are_arguments es
are_arguments _ = false

unfoldable pub are_tuples : r.Rules → Bool
are_tuples r.no_rules = true
are_tuples (r.rules (r.pat a (r.TuplePat ps)) e rs) = are_tuples rs
are_tuples _ = false

-- the parts of the tuple that the `case` of such a function is on, each of whose rules has a tuple pattern
unfoldable pub arguments_of : r.Exp → r.Rules → Option r.Exps
arguments_of (r.exp a (r.Tuple es at)) rs = if are_arguments es && are_tuples rs then Some es else None
arguments_of _ rs = None

-- ---- primitives

-- what a row gives is made by the primitive: other than what it was given, and a `bool` or `order`
unfoldable pub makes : BasisScheme → Bool
makes (s.place e n) = false
makes (s.open_made (b.Basis n) ss) = not (nat_eq n 5 || nat_eq n 8)
makes _ = true

abbrev pub places_in : Option Place → List Place
places_in None = []
places_in (Some p) = p ∷ []

-- the places in which a row's applications make something: closures between its arguments, and what the last one gives
unfoldable pub row_places : BasisScheme → RegionType → List Place
row_places (s.open_made b.Arrow (s.schemes x (s.schemes y s.no_schemes))) (t.Arrow p a e c) = (if makes y then places_in (place_of c) else []) ++ row_places y c
row_places _ _ = []

-- those of a primitive of this type
abbrev pub primitive_places : List ℕ → RegionType → List Place
primitive_places name a = option_map_or (λ scheme. row_places scheme a) (primitive_scheme name) []

-- a primitive takes a tuple, by its row
unfoldable pub row_spreads : BasisScheme → Bool
row_spreads (s.open_made b.Arrow (s.schemes (s.open_made (b.Tuple k) ss) ys)) = true
row_spreads _ = false

abbrev pub takes_tuple : List ℕ → Bool
takes_tuple name = option_map_or row_spreads (primitive_scheme name) false

-- ---- used regions

abbrev pub used_place : Option Place → List ℕ
used_place p = regions_in (places_in p)

unfoldable mutual
  pub used_pat : r.Pat → List ℕ
  used_pat (r.pat a form) = used_pat_form a form

  pub used_pat_form : RegionType → r.PatForm → List ℕ
  used_pat_form a (r.StrPat text) = used_place (place_of a)
  used_pat_form a (r.TuplePat ps) = used_pats ps
  used_pat_form a (r.ListPat ps) = used_pats ps
  used_pat_form a (r.AppPat c p) = used_pat p
  used_pat_form a _ = []

  pub used_pats : r.Pats → List ℕ
  used_pats r.no_pats = []
  used_pats (r.pats p ps) = used_pat p ++ used_pats ps

-- a constructor as an expression: a function holds the place of what it makes
unfoldable pub used_constructor : RegionType → List ℕ
used_constructor (t.Arrow p a e c) = regions_in (p ∷ []) ++ used_place (place_of c)
used_constructor _ = []

-- The regions that the code of a term uses and that the term doesn't bind.
unfoldable mutual
  pub used : Passing → r.Exp → List ℕ
  used passing (r.exp a form) = used_form passing a form

  pub used_form : Passing → RegionType → r.Form → List ℕ
  used_form passing a (r.Str text at) = regions_in (at ∷ [])
  used_form passing a (r.Prim name) = used_place (place_of a) ++ regions_in (primitive_places name a)
  used_form passing a (r.Con c) = used_constructor a
  used_form passing a (r.Tuple es at) = regions_in (at ∷ []) ++ used_exps passing es
  used_form passing a (r.List_of es at) = regions_in (at ∷ []) ++ used_exps passing es
  used_form passing a (r.Seq es) = used_exps passing es
  used_form passing a (r.App f e) = used_head passing a f ++ used_argument passing f e
  used_form passing a (r.Let ds es) = used_decs passing ds ++ used_exps passing es
  used_form passing a (r.Fn rs at) = regions_in (at ∷ []) ++ used_rules passing rs
  used_form passing a (r.Case e rs) = used_subject passing e rs ++ used_rules passing rs
  used_form passing a (r.Handle e rs) = used passing e ++ used_rules passing rs
  used_form passing a (r.Raise e) = used passing e
  used_form passing a (r.If x y z) = used passing x ++ (used passing y ++ used passing z)
  used_form passing a (r.Both x y) = used passing x ++ used passing y
  used_form passing a (r.Either x y) = used passing x ++ used passing y
  used_form passing a (r.Quote ps at) = regions_in (at ∷ []) ++ used_pieces passing ps
  used_form passing a (r.LetRegion rs e) = leaving rs (used passing e)
  used_form passing a (r.Fix ds e) = used_defs passing ds ++ used passing e
  used_form passing a (r.Inst name places effects) = used_place (place_of a) ++ regions_in (passed passing name places)
  used_form passing a _ = []

  -- what is applied, to give a value of this type: no closure is made for a primitive, a constructor or an instance
  pub used_head : Passing → RegionType → r.Exp → List ℕ
  used_head passing a (r.exp f (r.Prim name)) = regions_in (primitive_places name f)
  used_head passing a (r.exp f (r.Con c)) = used_place (place_of a)
  used_head passing a (r.exp f (r.Inst name places effects)) = regions_in (passed passing name places)
  used_head passing a (r.exp f form) = used_form passing f form

  -- an argument: no tuple is made for a primitive that takes it by its parts
  pub used_argument : Passing → r.Exp → r.Exp → List ℕ
  used_argument passing (r.exp f (r.Prim name)) (r.exp a (r.Tuple es at)) = if takes_tuple name then used_exps passing es else regions_in (at ∷ []) ++ used_exps passing es
  used_argument passing f (r.exp a form) = used_form passing a form

  -- what a `case` is on: no tuple is made of the arguments of a function of several patterns
  pub used_subject : Passing → r.Exp → r.Rules → List ℕ
  used_subject passing (r.exp a (r.Tuple es at)) rs = if are_arguments es && are_tuples rs then [] else regions_in (at ∷ []) ++ used_exps passing es
  used_subject passing (r.exp a form) rs = used_form passing a form

  pub used_exps : Passing → r.Exps → List ℕ
  used_exps passing r.no_exps = []
  used_exps passing (r.exps e es) = used passing e ++ used_exps passing es

  pub used_rules : Passing → r.Rules → List ℕ
  used_rules passing r.no_rules = []
  used_rules passing (r.rules p e rs) = used_pat p ++ (used passing e ++ used_rules passing rs)

  pub used_pieces : Passing → r.Pieces → List ℕ
  used_pieces passing r.no_pieces = []
  used_pieces passing (r.plain text ps) = used_pieces passing ps
  used_pieces passing (r.anti e ps) = used passing e ++ used_pieces passing ps

  pub used_defs : Passing → r.Defs → List ℕ
  used_defs passing r.no_defs = []
  used_defs passing (r.defs head rs ds) = regions_in (head.at ∷ []) ++ (leaving head.regions (used_rules passing rs) ++ used_defs passing ds)

  pub used_decs : Passing → r.Decs → List ℕ
  used_decs passing r.no_decs = []
  used_decs passing (r.vals bs ds) = used_rules passing bs ++ used_decs passing ds
  used_decs passing (r.funs group ds) = used_defs passing group ++ used_decs passing ds
  used_decs passing (r.locals hidden shown ds) = used_decs passing hidden ++ (used_decs passing shown ++ used_decs passing ds)

-- ---- tables that are closed

-- the functions of the groups of a term, each with its rules
unfoldable mutual
  pub functions_in : r.Exp → List (r.Head × r.Rules)
  functions_in (r.exp a form) = functions_in_form form

  pub functions_in_form : r.Form → List (r.Head × r.Rules)
  functions_in_form (r.Tuple es at) = functions_in_exps es
  functions_in_form (r.List_of es at) = functions_in_exps es
  functions_in_form (r.Seq es) = functions_in_exps es
  functions_in_form (r.App f e) = functions_in f ++ functions_in e
  functions_in_form (r.Let ds es) = functions_in_decs ds ++ functions_in_exps es
  functions_in_form (r.Fn rs at) = functions_in_rules rs
  functions_in_form (r.Case e rs) = functions_in e ++ functions_in_rules rs
  functions_in_form (r.Handle e rs) = functions_in e ++ functions_in_rules rs
  functions_in_form (r.Raise e) = functions_in e
  functions_in_form (r.If x y z) = functions_in x ++ (functions_in y ++ functions_in z)
  functions_in_form (r.Both x y) = functions_in x ++ functions_in y
  functions_in_form (r.Either x y) = functions_in x ++ functions_in y
  functions_in_form (r.Quote ps at) = functions_in_pieces ps
  functions_in_form (r.LetRegion rs e) = functions_in e
  functions_in_form (r.Fix ds e) = functions_in_defs ds ++ functions_in e
  functions_in_form _ = []

  pub functions_in_exps : r.Exps → List (r.Head × r.Rules)
  functions_in_exps r.no_exps = []
  functions_in_exps (r.exps e es) = functions_in e ++ functions_in_exps es

  pub functions_in_rules : r.Rules → List (r.Head × r.Rules)
  functions_in_rules r.no_rules = []
  functions_in_rules (r.rules p e rs) = functions_in e ++ functions_in_rules rs

  pub functions_in_pieces : r.Pieces → List (r.Head × r.Rules)
  functions_in_pieces r.no_pieces = []
  functions_in_pieces (r.plain text ps) = functions_in_pieces ps
  functions_in_pieces (r.anti e ps) = functions_in e ++ functions_in_pieces ps

  pub functions_in_defs : r.Defs → List (r.Head × r.Rules)
  functions_in_defs r.no_defs = []
  functions_in_defs (r.defs head rs ds) = (head, rs) ∷ (functions_in_rules rs ++ functions_in_defs ds)

  pub functions_in_decs : r.Decs → List (r.Head × r.Rules)
  functions_in_decs r.no_decs = []
  functions_in_decs (r.vals bs ds) = functions_in_rules bs ++ functions_in_decs ds
  functions_in_decs (r.funs group ds) = functions_in_defs group ++ functions_in_decs ds
  functions_in_decs (r.locals hidden shown ds) = functions_in_decs hidden ++ (functions_in_decs shown ++ functions_in_decs ds)

-- each of a function's regions that is used is flagged
unfoldable pub flags_used : List Bool → List ℕ → List ℕ → Bool
flags_used [] regions us = true
flags_used (f ∷ fs) [] us = true
flags_used (f ∷ fs) (n ∷ ns) us = (f || not (is_number_in n us)) && flags_used fs ns us

abbrev pub function_is_served : Passing → r.Head × r.Rules → Bool
function_is_served passing f = flags_used (flags_of f.0.name passing) f.0.regions (used_rules passing f.1)

-- The table is closed: each place is passed that the code of the function's rules uses.
abbrev pub is_closed : Passing → r.Program → Bool
is_closed passing p = list_all (function_is_served passing) (functions_in_decs p.items)

-- ---- which regions are made

-- what a `LetRegion` makes, by the term in it: those of its regions that this choice names; any other one stands for the global region
abbrev pub Choice : Type 0
Choice = r.Exp → List ℕ

-- the choice of code
abbrev pub choice_of_code : Passing → Choice
choice_of_code passing e = used passing e
