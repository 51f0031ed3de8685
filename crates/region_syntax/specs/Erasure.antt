-- Erasure: the specialised term that a region term stands for. Regions go, a group in an expression is a `let`, and a use of a group's name is the name.
use Rattle.std.specs.Prelude.{ℕ, List, map, Option, Some, None}
use Rattle.region_syntax.specs.GroundTypes.{GroundType}
use Rattle.region_syntax.specs.GroundTerms as g
use Rattle.region_syntax.specs.declared.types.RTy.{RTy}
use Rattle.region_syntax.specs.declared.region.RPat.{RPat}
use Rattle.region_syntax.specs.declared.region.RPatForm.{RPatForm}
use Rattle.region_syntax.specs.declared.region.RExp.{RExp}
use Rattle.region_syntax.specs.declared.region.RExpForm.{RExpForm}
use Rattle.region_syntax.specs.declared.region.RRule.{RRule}
use Rattle.region_syntax.specs.declared.region.RBind.{RBind}
use Rattle.region_syntax.specs.declared.region.RPiece.{RPiece}
use Rattle.region_syntax.specs.declared.region.FixDef.{FixDef}
use Rattle.region_syntax.specs.declared.region.RDec.{RDec}
use Rattle.region_syntax.specs.RegionTypes.{RegionType, erased_type, region_type}
use Rattle.region_syntax.specs.RegionTerms as r
use Rattle.region_syntax.specs.RegionTerms.{region_pat, region_pat_form, region_exp, region_form, region_rule, region_bind, region_piece, region_def, region_dec, region_argument}

unfoldable mutual
  pub erased_pat : r.Pat → g.Pat
  erased_pat (r.pat t form) = g.pat (erased_type t) (erased_pat_form form)

  pub erased_pat_form : r.PatForm → g.PatForm
  erased_pat_form r.AnyPat = g.AnyPat
  erased_pat_form (r.IntPat n) = g.IntPat n
  erased_pat_form (r.CharPat c) = g.CharPat c
  erased_pat_form (r.StrPat text) = g.StrPat text
  erased_pat_form r.UnitPat = g.UnitPat
  erased_pat_form (r.NamePat name) = g.NamePat name
  erased_pat_form (r.TuplePat ps) = g.TuplePat (erased_pats ps)
  erased_pat_form (r.ListPat ps) = g.ListPat (erased_pats ps)
  erased_pat_form (r.ConPat c) = g.ConPat c
  erased_pat_form (r.AppPat c p) = g.AppPat c (erased_pat p)

  pub erased_pats : r.Pats → g.Pats
  erased_pats r.no_pats = g.no_pats
  erased_pats (r.pats p ps) = g.pats (erased_pat p) (erased_pats ps)

unfoldable mutual
  pub erased_exp : r.Exp → g.Exp
  erased_exp (r.exp t form) = erased_form (erased_type t) form

  pub erased_form : GroundType → r.Form → g.Exp
  erased_form t (r.Int n) = g.exp t (g.Int n)
  erased_form t (r.Char c) = g.exp t (g.Char c)
  erased_form t (r.Str text at) = g.exp t (g.Str text)
  erased_form t (r.Name name) = g.exp t (g.Name name)
  erased_form t (r.Prim name) = g.exp t (g.Prim name)
  erased_form t (r.Con c) = g.exp t (g.Con c)
  erased_form t r.Unit = g.exp t g.Unit
  erased_form t (r.Tuple es at) = g.exp t (g.Tuple (erased_exps es))
  erased_form t (r.List_of es at) = g.exp t (g.List_of (erased_exps es))
  erased_form t (r.Seq es) = g.exp t (g.Seq (erased_exps es))
  erased_form t (r.App f e) = g.exp t (g.App (erased_exp f) (erased_exp e))
  erased_form t (r.Let ds es) = g.exp t (g.Let (erased_decs ds) (erased_exps es))
  erased_form t (r.Fn rs at) = g.exp t (g.Fn (erased_rules rs))
  erased_form t (r.Case e rs) = g.exp t (g.Case (erased_exp e) (erased_rules rs))
  erased_form t (r.Handle e rs) = g.exp t (g.Handle (erased_exp e) (erased_rules rs))
  erased_form t (r.Raise e) = g.exp t (g.Raise (erased_exp e))
  erased_form t (r.If a b c) = g.exp t (g.If (erased_exp a) (erased_exp b) (erased_exp c))
  erased_form t (r.Both a b) = g.exp t (g.Both (erased_exp a) (erased_exp b))
  erased_form t (r.Either a b) = g.exp t (g.Either (erased_exp a) (erased_exp b))
  erased_form t (r.Quote ps at) = g.exp t (g.Quote (erased_pieces ps))
  erased_form t (r.LetRegion rs e) = erased_exp e
  erased_form t (r.Fix ds e) = g.exp t (g.Let (g.funs (erased_defs ds) g.no_decs) (g.exps (erased_exp e) g.no_exps))
  erased_form t (r.Inst name places effects) = g.exp t (g.Name name)

  pub erased_exps : r.Exps → g.Exps
  erased_exps r.no_exps = g.no_exps
  erased_exps (r.exps e es) = g.exps (erased_exp e) (erased_exps es)

  pub erased_rules : r.Rules → g.Rules
  erased_rules r.no_rules = g.no_rules
  erased_rules (r.rules p e rs) = g.rules (erased_pat p) (erased_exp e) (erased_rules rs)

  pub erased_pieces : r.Pieces → g.Pieces
  erased_pieces r.no_pieces = g.no_pieces
  erased_pieces (r.plain text ps) = g.plain text (erased_pieces ps)
  erased_pieces (r.anti e ps) = g.anti (erased_exp e) (erased_pieces ps)

  pub erased_defs : r.Defs → g.Defs
  erased_defs r.no_defs = g.no_defs
  erased_defs (r.defs head rs ds) = g.defs head.name (erased_rules rs) (erased_defs ds)

  pub erased_decs : r.Decs → g.Decs
  erased_decs r.no_decs = g.no_decs
  erased_decs (r.vals bs ds) = g.vals (erased_rules bs) (erased_decs ds)
  erased_decs (r.funs group ds) = g.funs (erased_defs group) (erased_decs ds)
  erased_decs (r.locals hidden shown ds) = g.locals (erased_decs hidden) (erased_decs shown) (erased_decs ds)

-- the same of a rule or binding, a piece, a function of a group and a declaration by themselves
abbrev pub erased_rule : r.Pat × r.Exp → g.Pat × g.Exp
erased_rule rule = (erased_pat rule.0, erased_exp rule.1)

abbrev pub erased_piece : r.Piece → g.Piece
erased_piece (r.plain_piece text) = g.plain_piece text
erased_piece (r.anti_piece e) = g.anti_piece (erased_exp e)

abbrev pub erased_def : r.Head × List (r.Pat × r.Exp) → List ℕ × List (g.Pat × g.Exp)
erased_def d = (d.0.name, map erased_rule d.1)

abbrev pub erased_dec : r.Dec → g.Dec
erased_dec (r.val_dec bs) = g.val_dec (erased_rules bs)
erased_dec (r.fun_dec group) = g.fun_dec (erased_defs group)
erased_dec (r.local_dec hidden shown) = g.local_dec (erased_decs hidden) (erased_decs shown)

abbrev pub erased_argument : Option RegionType → Option GroundType
erased_argument None = None
erased_argument (Some t) = Some (erased_type t)

-- the specialised program that a region program stands for
abbrev pub erased_program : r.Program → g.Program
erased_program p = record {
  datatypes = p.datatypes;
  exceptions = map (λ c. (c.0, erased_argument c.1)) p.exceptions;
  items = erased_decs p.items;
}

-- the erasures of trees
unfoldable pub type_erasure : RTy → GroundType
type_erasure t = erased_type (region_type t)

unfoldable pub pat_erasure : RPat → g.Pat
pat_erasure p = erased_pat (region_pat p)

unfoldable pub pat_form_erasure : RPatForm → g.PatForm
pat_form_erasure f = erased_pat_form (region_pat_form f)

unfoldable pub exp_erasure : RExp → g.Exp
exp_erasure e = erased_exp (region_exp e)

unfoldable pub form_erasure : GroundType → RExpForm → g.Exp
form_erasure t f = erased_form t (region_form f)

unfoldable pub rule_erasure : RRule → g.Pat × g.Exp
rule_erasure rule = erased_rule (region_rule rule)

unfoldable pub bind_erasure : RBind → g.Pat × g.Exp
bind_erasure b = erased_rule (region_bind b)

unfoldable pub piece_erasure : RPiece → g.Piece
piece_erasure p = erased_piece (region_piece p)

unfoldable pub def_erasure : FixDef → List ℕ × List (g.Pat × g.Exp)
def_erasure d = erased_def (region_def d)

unfoldable pub dec_erasure : RDec → g.Dec
dec_erasure d = erased_dec (region_dec d)

unfoldable pub argument_erasure : Option RTy → Option GroundType
argument_erasure t = erased_argument (region_argument t)

unfoldable pub exception_erasure : List ℕ × Option RTy → List ℕ × Option GroundType
exception_erasure e = (e.0, argument_erasure e.1)
