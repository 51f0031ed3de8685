-- Specialised terms, as data of the definitions: the twins of `MPat`, `MExp` and `MProgram`.
use Rattle.std.specs.Prelude.{ℕ, ℤ, List, [], ◌∷◌, Option, Some, None, map}
use Rattle.region_syntax.specs.declared.types.MTy.{MTy}
use Rattle.region_syntax.specs.declared.types.MData.{MData}
use Rattle.sml_syntax.specs.declared.constructor.Constructor.{Constructor}
use Rattle.region_syntax.specs.declared.specialised.MPat.{MPat}
use Rattle.region_syntax.specs.declared.specialised.MPatForm.{MPatForm}
use Rattle.region_syntax.specs.declared.specialised.MPatForm.TheOpen.{MPatForm-F, MPat-F}
use Rattle.region_syntax.specs.declared.specialised.MPatForm.TheFolds.{fold-MPat, fold-MPatForm}
use Rattle.region_syntax.specs.declared.specialised.MExp.{MExp}
use Rattle.region_syntax.specs.declared.specialised.MExpForm.{MExpForm}
use Rattle.region_syntax.specs.declared.specialised.MRule.{MRule}
use Rattle.region_syntax.specs.declared.specialised.MPiece.{MPiece}
use Rattle.region_syntax.specs.declared.specialised.MBind.{MBind}
use Rattle.region_syntax.specs.declared.specialised.MDef.{MDef}
use Rattle.region_syntax.specs.declared.specialised.MDec.{MDec}
use Rattle.region_syntax.specs.declared.specialised.MProgram.{MProgram}
use Rattle.region_syntax.specs.declared.specialised.MDec.TheOpen.{MDec-F, MExpForm-F, MPiece-F, MBind-F, MDef-F, MExp-F, MRule-F}
use Rattle.region_syntax.specs.declared.specialised.MDec.TheFolds.{fold-MDec, fold-MExpForm, fold-MPiece, fold-MBind, fold-MDef, fold-MExp, fold-MRule}
use Rattle.region_syntax.specs.GroundTypes.{GroundType, ground_type}

-- a pattern: its type and its form
mutual
  pub data Pat : Type 0 where
    pat : GroundType → PatForm → Pat

  pub data PatForm : Type 0 where
    AnyPat : PatForm
    IntPat : ℤ → PatForm
    CharPat : ℕ → PatForm
    StrPat : List ℕ → PatForm
    UnitPat : PatForm
    NamePat : List ℕ → PatForm
    TuplePat : Pats → PatForm
    ListPat : Pats → PatForm
    ConPat : Constructor → PatForm
    AppPat : Constructor → Pat → PatForm

  pub data Pats : Type 0 where
    no_pats : Pats
    pats : Pat → Pats → Pats

-- an expression: its type and its form
mutual
  pub data Exp : Type 0 where
    exp : GroundType → Form → Exp

  pub data Form : Type 0 where
    Int : ℤ → Form
    Char : ℕ → Form
    Str : List ℕ → Form
    Name : List ℕ → Form
    Prim : List ℕ → Form
    Con : Constructor → Form
    Unit : Form
    Tuple : Exps → Form
    List_of : Exps → Form
    Seq : Exps → Form
    App : Exp → Exp → Form
    Let : Decs → Exps → Form
    Fn : Rules → Form
    Case : Exp → Rules → Form
    Handle : Exp → Rules → Form
    Raise : Exp → Form
    If : Exp → Exp → Exp → Form
    Both : Exp → Exp → Form
    Either : Exp → Exp → Form
    Quote : Pieces → Form

  pub data Exps : Type 0 where
    no_exps : Exps
    exps : Exp → Exps → Exps

  -- patterns with expressions: the rules of a match, or the bindings of a `val`
  pub data Rules : Type 0 where
    no_rules : Rules
    rules : Pat → Exp → Rules → Rules

  pub data Pieces : Type 0 where
    no_pieces : Pieces
    plain : List ℕ → Pieces → Pieces
    anti : Exp → Pieces → Pieces

  -- the functions of a `val rec`, each by its name and rules
  pub data Defs : Type 0 where
    no_defs : Defs
    defs : List ℕ → Rules → Defs → Defs

  -- declarations, one after another
  pub data Decs : Type 0 where
    no_decs : Decs
    vals : Rules → Decs → Decs
    funs : Defs → Decs → Decs
    locals : Decs → Decs → Decs → Decs

-- a piece of a quotation, and a declaration, by themselves
pub data Piece : Type 0 where
  plain_piece : List ℕ → Piece
  anti_piece : Exp → Piece

pub data Dec : Type 0 where
  val_dec : Rules → Dec
  fun_dec : Defs → Dec
  local_dec : Decs → Decs → Dec

-- the lists of the terms
abbrev pub pats_of : List Pat → Pats
pats_of [] = no_pats
pats_of (p ∷ ps) = pats p (pats_of ps)

abbrev pub exps_of : List Exp → Exps
exps_of [] = no_exps
exps_of (e ∷ es) = exps e (exps_of es)

abbrev pub rules_of : List (Pat × Exp) → Rules
rules_of [] = no_rules
rules_of (r ∷ rs) = rules r.0 r.1 (rules_of rs)

abbrev pub defs_of : List (List ℕ × List (Pat × Exp)) → Defs
defs_of [] = no_defs
defs_of (d ∷ ds) = defs d.0 (rules_of d.1) (defs_of ds)

abbrev pub decs_of : List Dec → Decs
decs_of [] = no_decs
decs_of (val_dec bs ∷ ds) = vals bs (decs_of ds)
decs_of (fun_dec group ∷ ds) = funs group (decs_of ds)
decs_of (local_dec hidden shown ∷ ds) = locals hidden shown (decs_of ds)

abbrev pub pieces_of : List Piece → Pieces
pieces_of [] = no_pieces
pieces_of (plain_piece text ∷ ps) = plain text (pieces_of ps)
pieces_of (anti_piece e ∷ ps) = anti e (pieces_of ps)

-- the pattern that a tree is
abbrev pub pat_form_layer : MPatForm-F PatForm Pat → PatForm
pat_form_layer MPatForm-F.Any = AnyPat
pat_form_layer (MPatForm-F.Int n) = IntPat n
pat_form_layer (MPatForm-F.Char c) = CharPat c
pat_form_layer (MPatForm-F.Str text) = StrPat text
pat_form_layer MPatForm-F.Unit = UnitPat
pat_form_layer (MPatForm-F.Name name) = NamePat name
pat_form_layer (MPatForm-F.Tuple ps) = TuplePat (pats_of ps)
pat_form_layer (MPatForm-F.List ps) = ListPat (pats_of ps)
pat_form_layer (MPatForm-F.Con c) = ConPat c
pat_form_layer (MPatForm-F.App c p) = AppPat c p

abbrev pub pat_layer : MPat-F PatForm Pat → Pat
pat_layer p = pat (ground_type p.ty) p.form

unfoldable pub ground_pat : MPat → Pat
ground_pat = fold-MPat PatForm Pat pat_form_layer pat_layer

unfoldable pub ground_pat_form : MPatForm → PatForm
ground_pat_form = fold-MPatForm PatForm Pat pat_form_layer pat_layer

-- the expression that a tree is
abbrev pub form_layer : MExpForm-F Dec Form Piece (Pat × Exp) (List ℕ × List (Pat × Exp)) Exp (Pat × Exp) → Form
form_layer (MExpForm-F.Int n) = Int n
form_layer (MExpForm-F.Char c) = Char c
form_layer (MExpForm-F.Str text) = Str text
form_layer (MExpForm-F.Name name) = Name name
form_layer (MExpForm-F.Prim name) = Prim name
form_layer (MExpForm-F.Con c) = Con c
form_layer MExpForm-F.Unit = Unit
form_layer (MExpForm-F.Tuple es) = Tuple (exps_of es)
form_layer (MExpForm-F.List es) = List_of (exps_of es)
form_layer (MExpForm-F.Seq es) = Seq (exps_of es)
form_layer (MExpForm-F.App f e) = App f e
form_layer (MExpForm-F.Let ds es) = Let (decs_of ds) (exps_of es)
form_layer (MExpForm-F.Fn rs) = Fn (rules_of rs)
form_layer (MExpForm-F.Case e rs) = Case e (rules_of rs)
form_layer (MExpForm-F.Handle e rs) = Handle e (rules_of rs)
form_layer (MExpForm-F.Raise e) = Raise e
form_layer (MExpForm-F.If a b c) = If a b c
form_layer (MExpForm-F.Both a b) = Both a b
form_layer (MExpForm-F.Either a b) = Either a b
form_layer (MExpForm-F.Quote ps) = Quote (pieces_of ps)

abbrev pub dec_layer : MDec-F Dec Form Piece (Pat × Exp) (List ℕ × List (Pat × Exp)) Exp (Pat × Exp) → Dec
dec_layer (MDec-F.Val bs) = val_dec (rules_of bs)
dec_layer (MDec-F.ValRec ds) = fun_dec (defs_of ds)
dec_layer (MDec-F.Local hidden shown) = local_dec (decs_of hidden) (decs_of shown)

abbrev pub piece_layer : MPiece-F Dec Form Piece (Pat × Exp) (List ℕ × List (Pat × Exp)) Exp (Pat × Exp) → Piece
piece_layer (MPiece-F.Plain text) = plain_piece text
piece_layer (MPiece-F.Anti e) = anti_piece e

abbrev pub bind_layer : MBind-F Dec Form Piece (Pat × Exp) (List ℕ × List (Pat × Exp)) Exp (Pat × Exp) → Pat × Exp
bind_layer b = (ground_pat b.pat, b.exp)

abbrev pub def_layer : MDef-F Dec Form Piece (Pat × Exp) (List ℕ × List (Pat × Exp)) Exp (Pat × Exp) → List ℕ × List (Pat × Exp)
def_layer d = (d.name, d.rules)

abbrev pub exp_layer : MExp-F Dec Form Piece (Pat × Exp) (List ℕ × List (Pat × Exp)) Exp (Pat × Exp) → Exp
exp_layer e = exp (ground_type e.ty) e.form

abbrev pub rule_layer : MRule-F Dec Form Piece (Pat × Exp) (List ℕ × List (Pat × Exp)) Exp (Pat × Exp) → Pat × Exp
rule_layer r = (ground_pat r.pat, r.body)

unfoldable pub ground_exp : MExp → Exp
ground_exp = fold-MExp Dec Form Piece (Pat × Exp) (List ℕ × List (Pat × Exp)) Exp (Pat × Exp) dec_layer form_layer piece_layer bind_layer def_layer exp_layer rule_layer

unfoldable pub ground_form : MExpForm → Form
ground_form = fold-MExpForm Dec Form Piece (Pat × Exp) (List ℕ × List (Pat × Exp)) Exp (Pat × Exp) dec_layer form_layer piece_layer bind_layer def_layer exp_layer rule_layer

unfoldable pub ground_rule : MRule → Pat × Exp
ground_rule = fold-MRule Dec Form Piece (Pat × Exp) (List ℕ × List (Pat × Exp)) Exp (Pat × Exp) dec_layer form_layer piece_layer bind_layer def_layer exp_layer rule_layer

unfoldable pub ground_piece : MPiece → Piece
ground_piece = fold-MPiece Dec Form Piece (Pat × Exp) (List ℕ × List (Pat × Exp)) Exp (Pat × Exp) dec_layer form_layer piece_layer bind_layer def_layer exp_layer rule_layer

unfoldable pub ground_dec : MDec → Dec
ground_dec = fold-MDec Dec Form Piece (Pat × Exp) (List ℕ × List (Pat × Exp)) Exp (Pat × Exp) dec_layer form_layer piece_layer bind_layer def_layer exp_layer rule_layer

unfoldable pub ground_bind : MBind → Pat × Exp
ground_bind = fold-MBind Dec Form Piece (Pat × Exp) (List ℕ × List (Pat × Exp)) Exp (Pat × Exp) dec_layer form_layer piece_layer bind_layer def_layer exp_layer rule_layer

unfoldable pub ground_def : MDef → List ℕ × List (Pat × Exp)
ground_def = fold-MDef Dec Form Piece (Pat × Exp) (List ℕ × List (Pat × Exp)) Exp (Pat × Exp) dec_layer form_layer piece_layer bind_layer def_layer exp_layer rule_layer

-- a datatype: the number of the declaration that it stands in, how many parameters it has, and its constructors
pub record Datatype : Type 0 where
  pub declaration : ℕ
  pub params : ℕ
  pub constructors : List (List ℕ × Option GroundType)

abbrev pub ground_argument : Option MTy → Option GroundType
ground_argument None = None
ground_argument (Some t) = Some (ground_type t)

abbrev pub ground_datatype : MData → Datatype
ground_datatype d = record { declaration = d.declaration; params = d.params; constructors = map (λ c. (c.0, ground_argument c.1)) d.cons }

-- an exception with the type of its argument, if any
unfoldable pub ground_exception : List ℕ × Option MTy → List ℕ × Option GroundType
ground_exception e = (e.0, ground_argument e.1)

-- a program
pub record Program : Type 0 where
  pub datatypes : List Datatype
  pub exceptions : List (List ℕ × Option GroundType)
  pub items : Decs

abbrev pub ground_program : MProgram → Program
ground_program p = record {
  datatypes = map ground_datatype p.datatypes;
  exceptions = map ground_exception p.exceptions;
  items = decs_of (map ground_dec p.items);
}
