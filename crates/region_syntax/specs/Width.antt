-- The width of a program: what its forms, names and regions take at one height. Of this project.
use Rattle.std.specs.Prelude.{ℕ, suc, ◌+◌, max, List, [], ◌∷◌, ◌++◌, length, Option, Some, None}
use Rattle.region_syntax.specs.GroundTypes.{GroundType}
use Rattle.region_syntax.specs.GroundTerms.{Datatype}
use Rattle.region_syntax.specs.RegionTypes.{erased_type}
use Rattle.region_syntax.specs.RegionTerms as r
use Rattle.region_syntax.specs.Erasure.{erased_rules}
use Rattle.region_syntax.specs.FreeNames.{free_in_rules}
use Rattle.region_syntax.specs.Cost.{type_nodes, leaving, meeting, distinct, regions_of, regions_of_rules}

-- how many parts stand in a list
unfoldable pub many_exps : r.Exps → ℕ
many_exps r.no_exps = 0
many_exps (r.exps e es) = suc (many_exps es)

unfoldable pub many_rules : r.Rules → ℕ
many_rules r.no_rules = 0
many_rules (r.rules p e rs) = 2 + many_rules rs

unfoldable pub many_pieces : r.Pieces → ℕ
many_pieces r.no_pieces = 0
many_pieces (r.plain text ps) = suc (many_pieces ps)
many_pieces (r.anti e ps) = suc (many_pieces ps)

unfoldable pub many_defs : r.Defs → ℕ
many_defs r.no_defs = 0
many_defs (r.defs head rs ds) = many_rules rs + many_defs ds

unfoldable pub many_decs : r.Decs → ℕ
many_decs r.no_decs = 0
many_decs (r.vals bs ds) = many_rules bs + many_decs ds
many_decs (r.funs group ds) = many_defs group + many_decs ds
many_decs (r.locals hidden shown ds) = many_decs hidden + many_decs shown + many_decs ds

-- The direct parts of an expression: the expressions, patterns and pieces that stand directly in it, those of a `let` or a group being
-- the patterns and expressions of its bindings, and the places of an instance.
unfoldable pub parts : r.Form → ℕ
parts (r.Tuple es at) = many_exps es
parts (r.List_of es at) = many_exps es
parts (r.Seq es) = many_exps es
parts (r.App f e) = 2
parts (r.Let ds es) = many_decs ds + many_exps es
parts (r.Fn rs at) = many_rules rs
parts (r.Case e rs) = 1 + many_rules rs
parts (r.Handle e rs) = 1 + many_rules rs
parts (r.Raise e) = 1
parts (r.If a b c) = 3
parts (r.Both a b) = 2
parts (r.Either a b) = 2
parts (r.Quote ps at) = many_pieces ps
parts (r.LetRegion rs e) = 1
parts (r.Fix ds e) = many_defs ds + 1
parts (r.Inst name places effects) = length places
parts _ = 0

unfoldable pub many_pats : r.Pats → ℕ
many_pats r.no_pats = 0
many_pats (r.pats p ps) = suc (many_pats ps)

unfoldable pub pat_parts : r.PatForm → ℕ
pat_parts (r.TuplePat ps) = many_pats ps
pat_parts (r.ListPat ps) = many_pats ps
pat_parts (r.AppPat c p) = 1
pat_parts _ = 0

unfoldable mutual
  pub pat_nodes : r.Pat → ℕ
  pat_nodes (r.pat t form) = suc (pat_form_nodes form)

  pub pat_form_nodes : r.PatForm → ℕ
  pat_form_nodes (r.TuplePat ps) = pats_nodes ps
  pat_form_nodes (r.ListPat ps) = pats_nodes ps
  pat_form_nodes (r.AppPat c p) = pat_nodes p
  pat_form_nodes _ = 0

  pub pats_nodes : r.Pats → ℕ
  pats_nodes r.no_pats = 0
  pats_nodes (r.pats p ps) = pat_nodes p + pats_nodes ps

-- The greatest number of a pattern's nodes: the nodes of the type, its direct parts and the nodes of the pattern.
unfoldable mutual
  pub pat_width : r.Pat → ℕ
  pat_width (r.pat t form) = max (type_nodes (erased_type t) + pat_parts form + suc (pat_form_nodes form)) (pat_form_width form)

  pub pat_form_width : r.PatForm → ℕ
  pat_form_width (r.TuplePat ps) = pats_width ps
  pat_form_width (r.ListPat ps) = pats_width ps
  pat_form_width (r.AppPat c p) = pat_width p
  pat_form_width _ = 0

  pub pats_width : r.Pats → ℕ
  pats_width r.no_pats = 0
  pats_width (r.pats p ps) = max (pat_width p) (pats_width ps)

-- how many regions there are, each counted once
abbrev pub many_regions : List ℕ → ℕ
many_regions rs = length (distinct rs)

-- what a closure of rules may hold: the names free in them, and the regions, but for these
abbrev pub many_held : List ℕ → r.Rules → ℕ
many_held bound rs = length (free_in_rules (erased_rules rs)) + many_regions (leaving bound (regions_of_rules rs))

-- The greatest number of a term's nodes: the nodes of the type and the direct parts; at a function also the names and regions that are free in
-- it; and the regions that the `LetRegion`s which stand directly around a term bind, where they occur in it.
unfoldable mutual
  -- with the regions that are bound directly around
  pub width_of : List ℕ → r.Exp → ℕ
  width_of around (r.exp t (r.LetRegion rs e)) = max (suc (type_nodes (erased_type t))) (width_of (around ++ meeting rs (regions_of e)) e)
  width_of around (r.exp t form) = max (many_regions around) (max (type_nodes (erased_type t) + parts form) (width_inside form))

  pub width_inside : r.Form → ℕ
  width_inside (r.Tuple es at) = width_of_exps es
  width_inside (r.List_of es at) = width_of_exps es
  width_inside (r.Seq es) = width_of_exps es
  width_inside (r.App f e) = max (width_of [] f) (width_of [] e)
  width_inside (r.Let ds es) = max (width_of_decs ds) (width_of_exps es)
  width_inside (r.Fn rs at) = max (many_held [] rs) (width_of_rules rs)
  width_inside (r.Case e rs) = max (width_of [] e) (width_of_rules rs)
  width_inside (r.Handle e rs) = max (width_of [] e) (width_of_rules rs)
  width_inside (r.Raise e) = width_of [] e
  width_inside (r.If a b c) = max (width_of [] a) (max (width_of [] b) (width_of [] c))
  width_inside (r.Both a b) = max (width_of [] a) (width_of [] b)
  width_inside (r.Either a b) = max (width_of [] a) (width_of [] b)
  width_inside (r.Quote ps at) = width_of_pieces ps
  width_inside (r.LetRegion rs e) = width_of rs e
  width_inside (r.Fix ds e) = max (width_of_defs ds) (width_of [] e)
  width_inside _ = 0

  pub width_of_exps : r.Exps → ℕ
  width_of_exps r.no_exps = 0
  width_of_exps (r.exps e es) = max (width_of [] e) (width_of_exps es)

  pub width_of_rules : r.Rules → ℕ
  width_of_rules r.no_rules = 0
  width_of_rules (r.rules p e rs) = max (pat_width p) (max (width_of [] e) (width_of_rules rs))

  pub width_of_pieces : r.Pieces → ℕ
  width_of_pieces r.no_pieces = 0
  width_of_pieces (r.plain text ps) = width_of_pieces ps
  width_of_pieces (r.anti e ps) = max (width_of [] e) (width_of_pieces ps)

  pub width_of_defs : r.Defs → ℕ
  width_of_defs r.no_defs = 0
  width_of_defs (r.defs head rs ds) = max (many_held head.regions rs) (max (width_of_rules rs) (width_of_defs ds))

  pub width_of_decs : r.Decs → ℕ
  width_of_decs r.no_decs = 0
  width_of_decs (r.vals bs ds) = max (width_of_rules bs) (width_of_decs ds)
  width_of_decs (r.funs group ds) = max (width_of_defs group) (width_of_decs ds)
  width_of_decs (r.locals hidden shown ds) = max (width_of_decs hidden) (max (width_of_decs shown) (width_of_decs ds))

-- an item has no type: its number is that of its direct parts
unfoldable pub item_width : r.Decs → ℕ
item_width r.no_decs = 0
item_width (r.vals bs ds) = max (many_rules bs) (item_width ds)
item_width (r.funs group ds) = max (many_defs group) (item_width ds)
item_width (r.locals hidden shown ds) = max (many_decs hidden + many_decs shown) (item_width ds)

-- a datatype: its constructors, and the nodes of their arguments' types
unfoldable pub constructor_nodes : List (List ℕ × Option GroundType) → ℕ
constructor_nodes [] = 0
constructor_nodes ((name, None) ∷ cs) = suc (constructor_nodes cs)
constructor_nodes ((name, Some t) ∷ cs) = suc (type_nodes t + constructor_nodes cs)

unfoldable pub datatypes_width : List Datatype → ℕ
datatypes_width [] = 0
datatypes_width (d ∷ ds) = max (constructor_nodes d.constructors) (datatypes_width ds)

-- the width of a program: one more than the greatest number of its nodes and datatypes
unfoldable pub width : r.Program → ℕ
width p = suc (max (max (width_of_decs p.items) (item_width p.items)) (datatypes_width p.datatypes))
