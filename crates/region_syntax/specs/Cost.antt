-- The sizes of types, the regions that occur in terms, and what a run may cost: work, depth, bounds and need. Of this project.
use Rattle.std.specs.Prelude.{◌≡◌, ◌≤◌, ◌<◌, ℕ, suc, ◌+◌, ◌*◌, ◌/◌, if◌then◌else◌, List, [], ◌∷◌, ◌++◌}
use Rattle.region_syntax.specs.declared.types.Place.{Place}
use Rattle.region_syntax.specs.declared.types.Place.TheVariants as place
use Rattle.region_syntax.specs.GroundTypes as g
use Rattle.region_syntax.specs.GroundTypes.{GroundType, GroundTypes}
use Rattle.region_syntax.specs.RegionTypes.{RegionType}
use Rattle.region_syntax.specs.RegionTerms as r
use Rattle.region_syntax.specs.Effects.{is_number_in, all_of}

-- the nodes of a type
unfoldable mutual
  pub type_nodes : GroundType → ℕ
  type_nodes g.Int = 1
  type_nodes g.Char = 1
  type_nodes g.Str = 1
  type_nodes g.Unit = 1
  type_nodes g.Exn = 1
  type_nodes (g.Tuple ts) = suc (types_nodes ts)
  type_nodes (g.Arrow a b) = suc (type_nodes a + type_nodes b)
  type_nodes (g.Data n ts) = suc (types_nodes ts)
  type_nodes (g.Ref a) = suc (type_nodes a)
  type_nodes (g.Cache a b) = suc (type_nodes a + type_nodes b)
  type_nodes (g.Desc a) = suc (type_nodes a)
  type_nodes (g.Var n) = 1

  pub types_nodes : GroundTypes → ℕ
  types_nodes g.no_types = 0
  types_nodes (g.types t ts) = type_nodes t + types_nodes ts

-- the numbers of the regions among places
unfoldable pub regions_in : List Place → List ℕ
regions_in [] = []
regions_in (place.Global ∷ ps) = regions_in ps
regions_in (place.Reg n ∷ ps) = n ∷ regions_in ps

unfoldable pub regions_of_type : RegionType → List ℕ
regions_of_type t = regions_in (all_of t).regions

unfoldable pub leaving : List ℕ → List ℕ → List ℕ
leaving bound [] = []
leaving bound (n ∷ ns) = if is_number_in n bound then leaving bound ns else n ∷ leaving bound ns

-- those of the first that stand in the second
unfoldable pub meeting : List ℕ → List ℕ → List ℕ
meeting [] ns = []
meeting (r ∷ rs) ns = if is_number_in r ns then r ∷ meeting rs ns else meeting rs ns

-- each once
unfoldable pub distinct : List ℕ → List ℕ
distinct [] = []
distinct (n ∷ ns) = if is_number_in n ns then distinct ns else n ∷ distinct ns

-- The regions that occur free in a term: in the types of its nodes, where its values are made, and in its instances.
unfoldable mutual
  pub regions_of_pat : r.Pat → List ℕ
  regions_of_pat (r.pat t form) = regions_of_type t ++ regions_of_pat_form form

  pub regions_of_pat_form : r.PatForm → List ℕ
  regions_of_pat_form (r.TuplePat ps) = regions_of_pats ps
  regions_of_pat_form (r.ListPat ps) = regions_of_pats ps
  regions_of_pat_form (r.AppPat c p) = regions_of_pat p
  regions_of_pat_form _ = []

  pub regions_of_pats : r.Pats → List ℕ
  regions_of_pats r.no_pats = []
  regions_of_pats (r.pats p ps) = regions_of_pat p ++ regions_of_pats ps

unfoldable mutual
  pub regions_of : r.Exp → List ℕ
  regions_of (r.exp t form) = regions_of_type t ++ regions_of_form form

  pub regions_of_form : r.Form → List ℕ
  regions_of_form (r.Int n) = []
  regions_of_form (r.Char c) = []
  regions_of_form (r.Str text at) = regions_in (at ∷ [])
  regions_of_form (r.Name name) = []
  regions_of_form (r.Prim name) = []
  regions_of_form (r.Con c) = []
  regions_of_form r.Unit = []
  regions_of_form (r.Tuple es at) = regions_in (at ∷ []) ++ regions_of_exps es
  regions_of_form (r.List_of es at) = regions_in (at ∷ []) ++ regions_of_exps es
  regions_of_form (r.Seq es) = regions_of_exps es
  regions_of_form (r.App f e) = regions_of f ++ regions_of e
  regions_of_form (r.Let ds es) = regions_of_decs (regions_of_exps es) ds
  regions_of_form (r.Fn rs at) = regions_in (at ∷ []) ++ regions_of_rules rs
  regions_of_form (r.Case e rs) = regions_of e ++ regions_of_rules rs
  regions_of_form (r.Handle e rs) = regions_of e ++ regions_of_rules rs
  regions_of_form (r.Raise e) = regions_of e
  regions_of_form (r.If a b c) = regions_of a ++ regions_of b ++ regions_of c
  regions_of_form (r.Both a b) = regions_of a ++ regions_of b
  regions_of_form (r.Either a b) = regions_of a ++ regions_of b
  regions_of_form (r.Quote ps at) = regions_in (at ∷ []) ++ regions_of_pieces ps
  regions_of_form (r.LetRegion rs e) = leaving rs (regions_of e)
  regions_of_form (r.Fix ds e) = regions_of_defs ds ++ regions_of e
  regions_of_form (r.Inst name places effects) = regions_in places

  pub regions_of_exps : r.Exps → List ℕ
  regions_of_exps r.no_exps = []
  regions_of_exps (r.exps e es) = regions_of e ++ regions_of_exps es

  pub regions_of_rules : r.Rules → List ℕ
  regions_of_rules r.no_rules = []
  regions_of_rules (r.rules p e rs) = regions_of_pat p ++ regions_of e ++ regions_of_rules rs

  pub regions_of_pieces : r.Pieces → List ℕ
  regions_of_pieces r.no_pieces = []
  regions_of_pieces (r.plain text ps) = regions_of_pieces ps
  regions_of_pieces (r.anti e ps) = regions_of e ++ regions_of_pieces ps

  pub regions_of_defs : r.Defs → List ℕ
  regions_of_defs r.no_defs = []
  regions_of_defs (r.defs head rs ds) = regions_in (head.at ∷ []) ++ leaving head.regions (regions_of_type head.ty ++ regions_of_rules rs) ++ regions_of_defs ds

  -- those of declarations, before the others
  pub regions_of_decs : List ℕ → r.Decs → List ℕ
  regions_of_decs others r.no_decs = others
  regions_of_decs others (r.vals bs ds) = regions_of_rules bs ++ regions_of_decs others ds
  regions_of_decs others (r.funs group ds) = regions_of_defs group ++ regions_of_decs others ds
  regions_of_decs others (r.locals hidden shown ds) = regions_of_decs [] hidden ++ regions_of_decs [] shown ++ regions_of_decs others ds

-- the work, where the count of rules and words is a function of the height: the greatest count
abbrev pub IsWork : (ℕ → ℕ) → ℕ → Type 0
IsWork count work = ((n : ℕ) → count n ≤ work) × ((n : ℕ) × (count n ≡ work))

-- the depth: the least height at which the count is the work
abbrev pub IsDepth : (ℕ → ℕ) → ℕ → ℕ → Type 0
IsDepth count work depth = (count depth ≡ work) × ((n : ℕ) → count n ≡ work → depth ≤ n)

-- A run may cost without end, and then there is neither work nor depth. So bounds on a state that a run reaches are stated by heights; `count` is the
-- function of the height, and `width` the program's.

-- the count no longer grows from this height on
abbrev pub Stays : (ℕ → ℕ) → ℕ → Type 0
Stays count m = (n : ℕ) → m ≤ n → count n ≡ count m

-- the count still grows above this height
abbrev pub GrowsAbove : (ℕ → ℕ) → ℕ → Type 0
GrowsAbove count m = (n : ℕ) × (m ≤ n) × (count m < count n)

-- at some height this charge is paid for
abbrev pub IsPaid : ℕ → (ℕ → ℕ) → ℕ → Type 0
IsPaid width count charge = (n : ℕ) × (charge ≤ 16 * width * count n + 64)

-- at each height from which on the count stays, there is room for this stack
abbrev pub HasRoom : ℕ → (ℕ → ℕ) → ℕ → Type 0
HasRoom width count stack = (m : ℕ) → Stays count m → stack ≤ 8 * width * m + 64

-- at some height the cost passes a budget; at each height that a stack of this size has room for, the count still grows
abbrev pub PassesBudget : ℕ → (ℕ → ℕ) → ℕ → Type 0
PassesBudget width count budget = (n : ℕ) × (budget < 16 * width * count n + 64)

abbrev pub PassesStack : ℕ → (ℕ → ℕ) → ℕ → Type 0
PassesStack width count limit = (m : ℕ) → 8 * width * m + 64 ≤ limit → GrowsAbove count m

-- the pages that a request may need: `width * work / 8 + 8 * width * depth + 66`, rounded up
abbrev pub need : ℕ → ℕ → ℕ → ℕ
need width work depth = (width * work + 7) / 8 + 8 * width * depth + 66
