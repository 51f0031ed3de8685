-- Values by their kinds: what stands on top is handed on, and values of another kind build nothing.
use Rattle.std.specs.Prelude.{ℕ, List, [], ◌∷◌, Option}
use Rattle.sml_syntax.specs.declared.tree.Exp.{Exp}
use Rattle.sml_syntax.specs.declared.tree.Span.{Span}
use Rattle.sml_syntax.specs.declared.tree.Pat.{Pat, roll-Pat}
use Rattle.sml_syntax.specs.declared.tree.PatForm.TheVariants as pf
use Rattle.sml_syntax.specs.declared.tree.Ty.{Ty}
use Rattle.sml_syntax.specs.declared.tree.Rule.{Rule}
use Rattle.sml_syntax.specs.declared.tree.Piece.{Piece}
use Rattle.sml_syntax.specs.declared.tree.Dec.{Dec}
use Rattle.parse_values.specs.declared.value.Val.{Val}
use Rattle.parse_values.specs.declared.value.Val.TheVariants as v
use Rattle.parse_values.specs.declared.value.ExpVal.{ExpVal}
use Rattle.parse_values.specs.declared.value.ExpVal.TheVariants as xv
use Rattle.parse_values.specs.declared.value.PatVal.{PatVal}
use Rattle.parse_values.specs.declared.value.PatVal.TheVariants as pv
use Rattle.parse_values.specs.declared.value.TyVal.{TyVal}
use Rattle.parse_values.specs.declared.value.TyVal.TheVariants as tv
use Rattle.parse_values.specs.declared.value.DecVal.{DecVal}
use Rattle.parse_values.specs.declared.value.DecVal.TheVariants as dv
use Rattle.parse_values.specs.declared.value.DefVal.{DefVal}
use Rattle.parse_values.specs.declared.value.DefVal.TheVariants as fv

abbrev pub on_exp_val : (ExpVal → List Val → List Val) → List Val → List Val
on_exp_val f (v.Exp x ∷ vs) = f x vs
on_exp_val f _ = []

abbrev pub on_pat_val : (PatVal → List Val → List Val) → List Val → List Val
on_pat_val f (v.Pat x ∷ vs) = f x vs
on_pat_val f _ = []

abbrev pub on_ty_val : (TyVal → List Val → List Val) → List Val → List Val
on_ty_val f (v.Ty x ∷ vs) = f x vs
on_ty_val f _ = []

abbrev pub on_dec_val : (DecVal → List Val → List Val) → List Val → List Val
on_dec_val f (v.Dec x ∷ vs) = f x vs
on_dec_val f _ = []

abbrev pub on_def_val : (DefVal → List Val → List Val) → List Val → List Val
on_def_val f (v.Def x ∷ vs) = f x vs
on_def_val f _ = []

-- an expression
abbrev pub as_exp : (Exp → List Val → List Val) → ExpVal → List Val → List Val
as_exp f (xv.One x) vs = f x vs
as_exp f _ vs = []

unfoldable pub on_exp : (Exp → List Val → List Val) → List Val → List Val
on_exp f = on_exp_val (as_exp f)

-- expressions
abbrev pub as_exps : (List Exp → List Val → List Val) → ExpVal → List Val → List Val
as_exps f (xv.Many x) vs = f x vs
as_exps f _ vs = []

unfoldable pub on_exps : (List Exp → List Val → List Val) → List Val → List Val
on_exps f = on_exp_val (as_exps f)

-- rules
abbrev pub as_rules : (List Rule → List Val → List Val) → ExpVal → List Val → List Val
as_rules f (xv.Rules x) vs = f x vs
as_rules f _ vs = []

unfoldable pub on_rules : (List Rule → List Val → List Val) → List Val → List Val
on_rules f = on_exp_val (as_rules f)

-- pieces
abbrev pub as_pieces : (List Piece → List Val → List Val) → ExpVal → List Val → List Val
as_pieces f (xv.Pieces x) vs = f x vs
as_pieces f _ vs = []

unfoldable pub on_pieces : (List Piece → List Val → List Val) → List Val → List Val
on_pieces f = on_exp_val (as_pieces f)

-- a pattern
abbrev pub as_pat : (Pat → List Val → List Val) → PatVal → List Val → List Val
as_pat f (pv.One x) vs = f x vs
as_pat f _ vs = []

unfoldable pub on_pat : (Pat → List Val → List Val) → List Val → List Val
on_pat f = on_pat_val (as_pat f)

-- patterns
abbrev pub as_pats : (List Pat → List Val → List Val) → PatVal → List Val → List Val
as_pats f (pv.Many x) vs = f x vs
as_pats f _ vs = []

unfoldable pub on_pats : (List Pat → List Val → List Val) → List Val → List Val
on_pats f = on_pat_val (as_pats f)

-- a type
abbrev pub as_ty : (Ty → List Val → List Val) → TyVal → List Val → List Val
as_ty f (tv.One x) vs = f x vs
as_ty f _ vs = []

unfoldable pub on_ty : (Ty → List Val → List Val) → List Val → List Val
on_ty f = on_ty_val (as_ty f)

-- types
abbrev pub as_tys : (List Ty → List Val → List Val) → TyVal → List Val → List Val
as_tys f (tv.Many x) vs = f x vs
as_tys f _ vs = []

unfoldable pub on_tys : (List Ty → List Val → List Val) → List Val → List Val
on_tys f = on_ty_val (as_tys f)

-- a declaration
abbrev pub as_dec : (Dec → List Val → List Val) → DecVal → List Val → List Val
as_dec f (dv.One x) vs = f x vs
as_dec f _ vs = []

unfoldable pub on_dec : (Dec → List Val → List Val) → List Val → List Val
on_dec f = on_dec_val (as_dec f)

-- declarations
abbrev pub as_decs : (List Dec → List Val → List Val) → DecVal → List Val → List Val
as_decs f (dv.Many x) vs = f x vs
as_decs f _ vs = []

unfoldable pub on_decs : (List Dec → List Val → List Val) → List Val → List Val
on_decs f = on_dec_val (as_decs f)

-- bindings
abbrev pub as_binds : (List (Pat × Exp) → List Val → List Val) → DecVal → List Val → List Val
as_binds f (dv.Binds x) vs = f x vs
as_binds f _ vs = []

unfoldable pub on_binds : (List (Pat × Exp) → List Val → List Val) → List Val → List Val
on_binds f = on_dec_val (as_binds f)

-- names with rules
abbrev pub as_recs : (List (List ℕ × List Rule) → List Val → List Val) → DecVal → List Val → List Val
as_recs f (dv.Recs x) vs = f x vs
as_recs f _ vs = []

unfoldable pub on_recs : (List (List ℕ × List Rule) → List Val → List Val) → List Val → List Val
on_recs f = on_dec_val (as_recs f)

-- type variables
abbrev pub as_vars : (List (List ℕ) → List Val → List Val) → DefVal → List Val → List Val
as_vars f (fv.Vars x) vs = f x vs
as_vars f _ vs = []

unfoldable pub on_vars : (List (List ℕ) → List Val → List Val) → List Val → List Val
on_vars f = on_def_val (as_vars f)

-- abbreviations
abbrev pub as_abbrevs : (List (List (List ℕ) × List ℕ × Ty) → List Val → List Val) → DefVal → List Val → List Val
as_abbrevs f (fv.Abbrevs x) vs = f x vs
as_abbrevs f _ vs = []

unfoldable pub on_abbrevs : (List (List (List ℕ) × List ℕ × Ty) → List Val → List Val) → List Val → List Val
on_abbrevs f = on_def_val (as_abbrevs f)

-- constructors
abbrev pub as_cons : (List (List ℕ × Option Ty) → List Val → List Val) → DefVal → List Val → List Val
as_cons f (fv.Cons x) vs = f x vs
as_cons f _ vs = []

unfoldable pub on_cons : (List (List ℕ × Option Ty) → List Val → List Val) → List Val → List Val
on_cons f = on_def_val (as_cons f)

-- datatypes
abbrev pub as_datas : (List (List (List ℕ) × List ℕ × List (List ℕ × Option Ty)) → List Val → List Val) → DefVal → List Val → List Val
as_datas f (fv.Datas x) vs = f x vs
as_datas f _ vs = []

unfoldable pub on_datas : (List (List (List ℕ) × List ℕ × List (List ℕ × Option Ty)) → List Val → List Val) → List Val → List Val
on_datas f = on_def_val (as_datas f)

-- a type's variables and name
abbrev pub as_head : (List (List ℕ) → List ℕ → List Val → List Val) → DefVal → List Val → List Val
as_head f (fv.Head x y) vs = f x y vs
as_head f _ vs = []

unfoldable pub on_head : (List (List ℕ) → List ℕ → List Val → List Val) → List Val → List Val
on_head f = on_def_val (as_head f)

-- a constructor, perhaps with an argument
abbrev pub as_con : (List ℕ → Option Ty → List Val → List Val) → DefVal → List Val → List Val
as_con f (fv.Con x y) vs = f x y vs
as_con f _ vs = []

unfoldable pub on_con : (List ℕ → Option Ty → List Val → List Val) → List Val → List Val
on_con f = on_def_val (as_con f)

-- the only one of patterns
abbrev pub on_only : (Pat → List Val) → List Pat → List Val
on_only f (p ∷ []) = f p
on_only f _ = []

-- the pattern of a clause: its only one, or a tuple of several
abbrev pub as_clause_pat : Span → (Pat → List Val → List Val) → PatVal → List Val → List Val
as_clause_pat span f (pv.Tupled ps) vs = f (roll-Pat (record { span = span; form = pf.Tuple ps })) vs
as_clause_pat span f (pv.Many ps) vs = on_only (λ p. f p vs) ps
as_clause_pat span f (pv.One p) vs = []

unfoldable pub on_clause_pat : Span → (Pat → List Val → List Val) → List Val → List Val
on_clause_pat span f = on_pat_val (as_clause_pat span f)
