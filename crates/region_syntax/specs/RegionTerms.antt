-- Region terms, as data of the definitions: the twins of `RPat`, `RExp` and `RProgram`. Tofte and Talpin's region calculus, terms.
use Rattle.std.specs.Prelude.{ℕ, ℤ, List, [], ◌∷◌, Option, Some, None, map}
use Rattle.region_syntax.specs.declared.types.Place.{Place}
use Rattle.region_syntax.specs.declared.types.Effect.{Effect}
use Rattle.region_syntax.specs.declared.types.RTy.{RTy}
use Rattle.sml_syntax.specs.declared.constructor.Constructor.{Constructor}
use Rattle.region_syntax.specs.declared.region.RPat.{RPat}
use Rattle.region_syntax.specs.declared.region.RPatForm.{RPatForm}
use Rattle.region_syntax.specs.declared.region.RPatForm.TheOpen.{RPatForm-F, RPat-F}
use Rattle.region_syntax.specs.declared.region.RPatForm.TheFolds.{fold-RPat, fold-RPatForm}
use Rattle.region_syntax.specs.declared.region.RExp.{RExp}
use Rattle.region_syntax.specs.declared.region.RExpForm.{RExpForm}
use Rattle.region_syntax.specs.declared.region.RRule.{RRule}
use Rattle.region_syntax.specs.declared.region.RPiece.{RPiece}
use Rattle.region_syntax.specs.declared.region.FixDef.{FixDef}
use Rattle.region_syntax.specs.declared.region.RBind.{RBind}
use Rattle.region_syntax.specs.declared.region.RDec.{RDec}
use Rattle.region_syntax.specs.declared.region.RProgram.{RProgram}
use Rattle.region_syntax.specs.declared.region.RDec.TheOpen.{RDec-F, RExpForm-F, RPiece-F, FixDef-F, RBind-F, RExp-F, RRule-F}
use Rattle.region_syntax.specs.declared.region.RDec.TheFolds.{fold-RDec, fold-RExpForm, fold-RPiece, fold-FixDef, fold-RBind, fold-RExp, fold-RRule}
use Rattle.region_syntax.specs.GroundTerms.{Datatype, ground_datatype}
use Rattle.region_syntax.specs.RegionTypes.{RegionType, region_type}

-- a pattern: its type and its form
mutual
  pub data Pat : Type 0 where
    pat : RegionType → PatForm → Pat

  pub data PatForm : Type 0 where
    AnyPat : PatForm
    IntPat : ℤ → PatForm
    CharPat : ℕ → PatForm
    StrPat : List ℕ → PatForm
    UnitPat : PatForm
    NamePat : List ℕ → PatForm
    TuplePat : Pats → PatForm
    ListPat : Pats → PatForm
    ConPat : Constructor → PatForm
    AppPat : Constructor → Pat → PatForm

  pub data Pats : Type 0 where
    no_pats : Pats
    pats : Pat → Pats → Pats

-- a function of a group, without its rules: the regions and effect variables that it binds, its type, and where its closure lies
pub record Head : Type 0 where
  pub name : List ℕ
  pub regions : List ℕ
  pub effects : List ℕ
  pub ty : RegionType
  pub at : Place

-- an expression: its type and its form
mutual
  pub data Exp : Type 0 where
    exp : RegionType → Form → Exp

  pub data Form : Type 0 where
    Int : ℤ → Form
    Char : ℕ → Form
    Str : List ℕ → Place → Form
    Name : List ℕ → Form
    Prim : List ℕ → Form
    Con : Constructor → Form
    Unit : Form
    Tuple : Exps → Place → Form
    List_of : Exps → Place → Form
    Seq : Exps → Form
    App : Exp → Exp → Form
    Let : Decs → Exps → Form
    Fn : Rules → Place → Form
    Case : Exp → Rules → Form
    Handle : Exp → Rules → Form
    Raise : Exp → Form
    If : Exp → Exp → Exp → Form
    Both : Exp → Exp → Form
    Either : Exp → Exp → Form
    Quote : Pieces → Place → Form
    -- fresh regions
    LetRegion : List ℕ → Exp → Form
    -- a group of functions, and its scope
    Fix : Defs → Exp → Form
    -- a use of a name of a group: places for its regions, and effects for its effect variables
    Inst : List ℕ → List Place → List Effect → Form

  pub data Exps : Type 0 where
    no_exps : Exps
    exps : Exp → Exps → Exps

  -- patterns with expressions: the rules of a match, or the bindings of a `val`
  pub data Rules : Type 0 where
    no_rules : Rules
    rules : Pat → Exp → Rules → Rules

  pub data Pieces : Type 0 where
    no_pieces : Pieces
    plain : List ℕ → Pieces → Pieces
    anti : Exp → Pieces → Pieces

  -- the functions of a group
  pub data Defs : Type 0 where
    no_defs : Defs
    defs : Head → Rules → Defs → Defs

  -- declarations, one after another
  pub data Decs : Type 0 where
    no_decs : Decs
    vals : Rules → Decs → Decs
    funs : Defs → Decs → Decs
    locals : Decs → Decs → Decs → Decs

-- a piece of a quotation, and a declaration, by themselves
pub data Piece : Type 0 where
  plain_piece : List ℕ → Piece
  anti_piece : Exp → Piece

pub data Dec : Type 0 where
  val_dec : Rules → Dec
  fun_dec : Defs → Dec
  local_dec : Decs → Decs → Dec

-- the lists of the terms
abbrev pub pats_of : List Pat → Pats
pats_of [] = no_pats
pats_of (p ∷ ps) = pats p (pats_of ps)

abbrev pub exps_of : List Exp → Exps
exps_of [] = no_exps
exps_of (e ∷ es) = exps e (exps_of es)

abbrev pub rules_of : List (Pat × Exp) → Rules
rules_of [] = no_rules
rules_of (r ∷ rs) = rules r.0 r.1 (rules_of rs)

abbrev pub defs_of : List (Head × List (Pat × Exp)) → Defs
defs_of [] = no_defs
defs_of (d ∷ ds) = defs d.0 (rules_of d.1) (defs_of ds)

abbrev pub decs_of : List Dec → Decs
decs_of [] = no_decs
decs_of (val_dec bs ∷ ds) = vals bs (decs_of ds)
decs_of (fun_dec group ∷ ds) = funs group (decs_of ds)
decs_of (local_dec hidden shown ∷ ds) = locals hidden shown (decs_of ds)

abbrev pub pieces_of : List Piece → Pieces
pieces_of [] = no_pieces
pieces_of (plain_piece text ∷ ps) = plain text (pieces_of ps)
pieces_of (anti_piece e ∷ ps) = anti e (pieces_of ps)

-- the pattern that a tree is
abbrev pub pat_form_layer : RPatForm-F PatForm Pat → PatForm
pat_form_layer RPatForm-F.Any = AnyPat
pat_form_layer (RPatForm-F.Int n) = IntPat n
pat_form_layer (RPatForm-F.Char c) = CharPat c
pat_form_layer (RPatForm-F.Str text) = StrPat text
pat_form_layer RPatForm-F.Unit = UnitPat
pat_form_layer (RPatForm-F.Name name) = NamePat name
pat_form_layer (RPatForm-F.Tuple ps) = TuplePat (pats_of ps)
pat_form_layer (RPatForm-F.List ps) = ListPat (pats_of ps)
pat_form_layer (RPatForm-F.Con c) = ConPat c
pat_form_layer (RPatForm-F.App c p) = AppPat c p

abbrev pub pat_layer : RPat-F PatForm Pat → Pat
pat_layer p = pat (region_type p.ty) p.form

unfoldable pub region_pat : RPat → Pat
region_pat = fold-RPat PatForm Pat pat_form_layer pat_layer

unfoldable pub region_pat_form : RPatForm → PatForm
region_pat_form = fold-RPatForm PatForm Pat pat_form_layer pat_layer

-- the expression that a tree is
abbrev pub form_layer : RExpForm-F Dec Form Piece (Head × List (Pat × Exp)) (Pat × Exp) Exp (Pat × Exp) → Form
form_layer (RExpForm-F.Int n) = Int n
form_layer (RExpForm-F.Char c) = Char c
form_layer (RExpForm-F.Str text at) = Str text at
form_layer (RExpForm-F.Name name) = Name name
form_layer (RExpForm-F.Prim name) = Prim name
form_layer (RExpForm-F.Con c) = Con c
form_layer RExpForm-F.Unit = Unit
form_layer (RExpForm-F.Tuple es at) = Tuple (exps_of es) at
form_layer (RExpForm-F.List es at) = List_of (exps_of es) at
form_layer (RExpForm-F.Seq es) = Seq (exps_of es)
form_layer (RExpForm-F.App f e) = App f e
form_layer (RExpForm-F.Let ds es) = Let (decs_of ds) (exps_of es)
form_layer (RExpForm-F.Fn rs at) = Fn (rules_of rs) at
form_layer (RExpForm-F.Case e rs) = Case e (rules_of rs)
form_layer (RExpForm-F.Handle e rs) = Handle e (rules_of rs)
form_layer (RExpForm-F.Raise e) = Raise e
form_layer (RExpForm-F.If a b c) = If a b c
form_layer (RExpForm-F.Both a b) = Both a b
form_layer (RExpForm-F.Either a b) = Either a b
form_layer (RExpForm-F.Quote ps at) = Quote (pieces_of ps) at
form_layer (RExpForm-F.LetRegion rs e) = LetRegion rs e
form_layer (RExpForm-F.Fix ds e) = Fix (defs_of ds) e
form_layer (RExpForm-F.Inst name places effects) = Inst name places effects

abbrev pub dec_layer : RDec-F Dec Form Piece (Head × List (Pat × Exp)) (Pat × Exp) Exp (Pat × Exp) → Dec
dec_layer (RDec-F.Val bs) = val_dec (rules_of bs)
dec_layer (RDec-F.ValRec ds) = fun_dec (defs_of ds)
dec_layer (RDec-F.Local hidden shown) = local_dec (decs_of hidden) (decs_of shown)

abbrev pub piece_layer : RPiece-F Dec Form Piece (Head × List (Pat × Exp)) (Pat × Exp) Exp (Pat × Exp) → Piece
piece_layer (RPiece-F.Plain text) = plain_piece text
piece_layer (RPiece-F.Anti e) = anti_piece e

abbrev pub def_layer : FixDef-F Dec Form Piece (Head × List (Pat × Exp)) (Pat × Exp) Exp (Pat × Exp) → Head × List (Pat × Exp)
def_layer d = (record { name = d.name; regions = d.regions; effects = d.effects; ty = region_type d.ty; at = d.at }, d.rules)

abbrev pub bind_layer : RBind-F Dec Form Piece (Head × List (Pat × Exp)) (Pat × Exp) Exp (Pat × Exp) → Pat × Exp
bind_layer b = (region_pat b.pat, b.exp)

abbrev pub exp_layer : RExp-F Dec Form Piece (Head × List (Pat × Exp)) (Pat × Exp) Exp (Pat × Exp) → Exp
exp_layer e = exp (region_type e.ty) e.form

abbrev pub rule_layer : RRule-F Dec Form Piece (Head × List (Pat × Exp)) (Pat × Exp) Exp (Pat × Exp) → Pat × Exp
rule_layer r = (region_pat r.pat, r.body)

unfoldable pub region_exp : RExp → Exp
region_exp = fold-RExp Dec Form Piece (Head × List (Pat × Exp)) (Pat × Exp) Exp (Pat × Exp) dec_layer form_layer piece_layer def_layer bind_layer exp_layer rule_layer

unfoldable pub region_form : RExpForm → Form
region_form = fold-RExpForm Dec Form Piece (Head × List (Pat × Exp)) (Pat × Exp) Exp (Pat × Exp) dec_layer form_layer piece_layer def_layer bind_layer exp_layer rule_layer

unfoldable pub region_rule : RRule → Pat × Exp
region_rule = fold-RRule Dec Form Piece (Head × List (Pat × Exp)) (Pat × Exp) Exp (Pat × Exp) dec_layer form_layer piece_layer def_layer bind_layer exp_layer rule_layer

unfoldable pub region_piece : RPiece → Piece
region_piece = fold-RPiece Dec Form Piece (Head × List (Pat × Exp)) (Pat × Exp) Exp (Pat × Exp) dec_layer form_layer piece_layer def_layer bind_layer exp_layer rule_layer

unfoldable pub region_def : FixDef → Head × List (Pat × Exp)
region_def = fold-FixDef Dec Form Piece (Head × List (Pat × Exp)) (Pat × Exp) Exp (Pat × Exp) dec_layer form_layer piece_layer def_layer bind_layer exp_layer rule_layer

unfoldable pub region_bind : RBind → Pat × Exp
region_bind = fold-RBind Dec Form Piece (Head × List (Pat × Exp)) (Pat × Exp) Exp (Pat × Exp) dec_layer form_layer piece_layer def_layer bind_layer exp_layer rule_layer

unfoldable pub region_dec : RDec → Dec
region_dec = fold-RDec Dec Form Piece (Head × List (Pat × Exp)) (Pat × Exp) Exp (Pat × Exp) dec_layer form_layer piece_layer def_layer bind_layer exp_layer rule_layer

-- a program
abbrev pub region_argument : Option RTy → Option RegionType
region_argument None = None
region_argument (Some t) = Some (region_type t)

pub record Program : Type 0 where
  pub datatypes : List Datatype
  pub exceptions : List (List ℕ × Option RegionType)
  pub items : Decs

abbrev pub region_program : RProgram → Program
region_program p = record {
  datatypes = map ground_datatype p.datatypes;
  exceptions = map (λ c. (c.0, region_argument c.1)) p.exceptions;
  items = decs_of (map region_dec p.items);
}
