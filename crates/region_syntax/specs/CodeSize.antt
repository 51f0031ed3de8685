-- The types that a specialised program compares, and the size of the program's code. Of this project.
use Rattle.std.specs.Prelude.{◌≡◌, ◌↔◌, ℕ, suc, ◌+◌, ◌*◌, ◌||◌, if◌then◌else◌, List, [], ◌∷◌, ◌++◌, length, map, Some, codes}
use Rattle.std.specs.Option.{option_map_or}
use Rattle.std.specs.List.{slice_get, sum, Contains}
use Rattle.std.specs.Str.{bytes_eq}
use Rattle.region_syntax.specs.GroundTypes as t
use Rattle.region_syntax.specs.GroundTypes.{GroundType, GroundTypes, type_among, with_types}
use Rattle.region_syntax.specs.GroundTerms as g
use Rattle.region_syntax.specs.GroundTerms.{Datatype, Program}
use Rattle.region_syntax.specs.Cost.{type_nodes}

-- ---- equalities

-- the type of the two parts that a comparison takes
unfoldable pub compared_type : GroundType → List GroundType
compared_type (t.Arrow (t.Tuple (t.types a ts)) c) = a ∷ []
compared_type _ = []

abbrev pub compared_by : List ℕ → GroundType → List GroundType
compared_by name a = if bytes_eq name (codes "=") || bytes_eq name (codes "<>") then compared_type a else []

-- the types at which `=` and `<>` stand
unfoldable mutual
  pub compared_in : g.Exp → List GroundType
  compared_in (g.exp a form) = compared_in_form a form

  pub compared_in_form : GroundType → g.Form → List GroundType
  compared_in_form a (g.Prim name) = compared_by name a
  compared_in_form a (g.Tuple es) = compared_in_exps es
  compared_in_form a (g.List_of es) = compared_in_exps es
  compared_in_form a (g.Seq es) = compared_in_exps es
  compared_in_form a (g.App f e) = compared_in f ++ compared_in e
  compared_in_form a (g.Let ds es) = compared_in_decs ds ++ compared_in_exps es
  compared_in_form a (g.Fn rs) = compared_in_rules rs
  compared_in_form a (g.Case e rs) = compared_in e ++ compared_in_rules rs
  compared_in_form a (g.Handle e rs) = compared_in e ++ compared_in_rules rs
  compared_in_form a (g.Raise e) = compared_in e
  compared_in_form a (g.If x y z) = compared_in x ++ (compared_in y ++ compared_in z)
  compared_in_form a (g.Both x y) = compared_in x ++ compared_in y
  compared_in_form a (g.Either x y) = compared_in x ++ compared_in y
  compared_in_form a (g.Quote ps) = compared_in_pieces ps
  compared_in_form a _ = []

  pub compared_in_exps : g.Exps → List GroundType
  compared_in_exps g.no_exps = []
  compared_in_exps (g.exps e es) = compared_in e ++ compared_in_exps es

  pub compared_in_rules : g.Rules → List GroundType
  compared_in_rules g.no_rules = []
  compared_in_rules (g.rules p e rs) = compared_in e ++ compared_in_rules rs

  pub compared_in_pieces : g.Pieces → List GroundType
  compared_in_pieces g.no_pieces = []
  compared_in_pieces (g.plain text ps) = compared_in_pieces ps
  compared_in_pieces (g.anti e ps) = compared_in e ++ compared_in_pieces ps

  pub compared_in_defs : g.Defs → List GroundType
  compared_in_defs g.no_defs = []
  compared_in_defs (g.defs name rs ds) = compared_in_rules rs ++ compared_in_defs ds

  pub compared_in_decs : g.Decs → List GroundType
  compared_in_decs g.no_decs = []
  compared_in_decs (g.vals bs ds) = compared_in_rules bs ++ compared_in_decs ds
  compared_in_decs (g.funs group ds) = compared_in_defs group ++ compared_in_decs ds
  compared_in_decs (g.locals hidden shown ds) = compared_in_decs hidden ++ (compared_in_decs shown ++ compared_in_decs ds)

-- an argument of a constructor of a datatype at these types
abbrev pub IsArgument : List Datatype → ℕ → GroundTypes → GroundType → Type 0
IsArgument ds n ts a =
    (d : Datatype) × (slice_get ds n ≡ Some d) × ((name : List ℕ) × (b : GroundType) × Contains d.constructors (name, Some b) × (a ≡ with_types ts b))

-- The types at which a program needs equality: those at which a comparison stands, the parts of a tuple, and the arguments of a datatype's constructors.
pub data NeedsEquality (p : Program) : GroundType → Type 0 where
  at_comparison : {a : GroundType} → Contains (compared_in_decs p.items) a → NeedsEquality p a
  at_part : {ts : GroundTypes} {a : GroundType} (n : ℕ) → NeedsEquality p (t.Tuple ts) → type_among n ts ≡ Some a → NeedsEquality p a
  at_argument : {n : ℕ} {ts : GroundTypes} {a : GroundType} → NeedsEquality p (t.Data n ts) → IsArgument p.datatypes n ts a → NeedsEquality p a

-- each item stands at one place alone
abbrev pub IsOnce : {A : Type 0} → List A → Type 0
IsOnce {A} xs = (i j : ℕ) (x : A) → slice_get xs i ≡ Some x → slice_get xs j ≡ Some x → i ≡ j

-- the equalities of a program, each once
abbrev pub AreEqualities : Program → List GroundType → Type 0
AreEqualities p types = IsOnce types × ((a : GroundType) → NeedsEquality p a ↔ Contains types a)

-- ---- the size of code

-- A node with t nodes in its type and f functions around it adds (1 + t) * (1 + f); declarations inside an expression are no nodes.
abbrev pub node_size : ℕ → GroundType → ℕ
node_size f a = (1 + type_nodes a) * (1 + f)

unfoldable mutual
  pub pat_size : ℕ → g.Pat → ℕ
  pat_size f (g.pat a form) = node_size f a + pat_form_size f form

  pub pat_form_size : ℕ → g.PatForm → ℕ
  pat_form_size f (g.TuplePat ps) = pats_size f ps
  pat_form_size f (g.ListPat ps) = pats_size f ps
  pat_form_size f (g.AppPat c p) = pat_size f p
  pat_form_size f _ = 0

  pub pats_size : ℕ → g.Pats → ℕ
  pats_size f g.no_pats = 0
  pats_size f (g.pats p ps) = pat_size f p + pats_size f ps

unfoldable mutual
  pub exp_size : ℕ → g.Exp → ℕ
  exp_size f (g.exp a form) = node_size f a + form_size f form

  pub form_size : ℕ → g.Form → ℕ
  form_size f (g.Tuple es) = exps_size f es
  form_size f (g.List_of es) = exps_size f es
  form_size f (g.Seq es) = exps_size f es
  form_size f (g.App h e) = exp_size f h + exp_size f e
  form_size f (g.Let ds es) = decs_size f ds + exps_size f es
  form_size f (g.Fn rs) = rules_size (suc f) rs
  form_size f (g.Case e rs) = exp_size f e + rules_size f rs
  form_size f (g.Handle e rs) = exp_size f e + rules_size f rs
  form_size f (g.Raise e) = exp_size f e
  form_size f (g.If x y z) = exp_size f x + (exp_size f y + exp_size f z)
  form_size f (g.Both x y) = exp_size f x + exp_size f y
  form_size f (g.Either x y) = exp_size f x + exp_size f y
  form_size f (g.Quote ps) = pieces_size f ps
  form_size f _ = 0

  pub exps_size : ℕ → g.Exps → ℕ
  exps_size f g.no_exps = 0
  exps_size f (g.exps e es) = exp_size f e + exps_size f es

  pub rules_size : ℕ → g.Rules → ℕ
  rules_size f g.no_rules = 0
  rules_size f (g.rules p e rs) = pat_size f p + (exp_size f e + rules_size f rs)

  pub pieces_size : ℕ → g.Pieces → ℕ
  pieces_size f g.no_pieces = 0
  pieces_size f (g.plain text ps) = pieces_size f ps
  pieces_size f (g.anti e ps) = exp_size f e + pieces_size f ps

  -- the functions of a group, each of which stands around its rules
  pub defs_size : ℕ → g.Defs → ℕ
  defs_size f g.no_defs = 0
  defs_size f (g.defs name rs ds) = rules_size (suc f) rs + defs_size f ds

  pub decs_size : ℕ → g.Decs → ℕ
  decs_size f g.no_decs = 0
  decs_size f (g.vals bs ds) = rules_size f bs + decs_size f ds
  decs_size f (g.funs group ds) = defs_size f group + decs_size f ds
  decs_size f (g.locals hidden shown ds) = decs_size f hidden + (decs_size f shown + decs_size f ds)

-- An item is a node without a type, in no function; the declarations of a `local` are items too.
unfoldable pub items_size : g.Decs → ℕ
items_size g.no_decs = 0
items_size (g.vals bs ds) = suc (rules_size 0 bs + items_size ds)
items_size (g.funs group ds) = suc (defs_size 0 group + items_size ds)
items_size (g.locals hidden shown ds) = suc (items_size hidden + (items_size shown + items_size ds))

-- how many constructors a datatype has
unfoldable pub constructors_of : List Datatype → GroundType → ℕ
constructors_of ds (t.Data n ts) = option_map_or (λ d. length d.constructors) (slice_get ds n) 0
constructors_of ds _ = 0

-- an equality counts as a node in no function, and as one more for each constructor of its type
abbrev pub equality_size : List Datatype → GroundType → ℕ
equality_size ds a = (1 + type_nodes a) * (1 + constructors_of ds a)

-- the size of a specialised program's code
abbrev pub HasCodeSize : Program → ℕ → Type 0
HasCodeSize p n = (types : List GroundType) × AreEqualities p types × (n ≡ items_size p.items + sum (map (equality_size p.datatypes) types))
