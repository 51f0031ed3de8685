-- Programs: the trees of the grammar, the first lack, heights, and what is refused where.
use Rattle.std.specs.Prelude.{◌≡◌, ℕ, zero, suc, ◌≤◌, List, [], ◌∷◌, ◌++◌, Option, Some, None}
use Rattle.sml_syntax.specs.declared.token.Token.{Token}
use Rattle.sml_syntax.specs.declared.tree.Exp.{Exp}
use Rattle.sml_syntax.specs.declared.tree.Pat.{Pat}
use Rattle.sml_syntax.specs.declared.tree.Ty.{Ty}
use Rattle.sml_syntax.specs.declared.tree.ExpForm.{ExpForm}
use Rattle.sml_syntax.specs.declared.tree.Dec.{Dec, out-Dec}
use Rattle.sml_syntax.specs.declared.tree.DecForm.{DecForm}
use Rattle.sml_syntax.specs.declared.tree.Rule.{Rule, out-Rule}
use Rattle.sml_syntax.specs.declared.tree.Piece.{Piece, out-Piece}
use Rattle.sml_syntax.specs.declared.tree.Program.{Program}
use Rattle.sml_syntax.specs.declared.tree.DecForm.TheOpen.{DecForm-F, ExpForm-F, Piece-F}
use Rattle.sml_syntax.specs.declared.tree.PatForm.TheOpen.{PatForm-F}
use Rattle.sml_syntax.specs.declared.tree.TyForm.TheOpen.{TyForm-F}
use Rattle.sml_syntax.specs.Layers.{ExpLayer, DecLayer, PatLayer, form_of_exp, form_of_dec, form_of_pat}
use Rattle.sml_syntax.specs.NestedTypes.{Found, TyLayer, form_of_ty}
use Rattle.grammar_rules.specs.Nodes.{last_of}
use Rattle.grammar_rules.specs.Grammar.{Is, items, decs_tree}

-- a tree of the wider grammar, with its lacks
abbrev pub IsWide : List Token → Program → List Found → Type 0
IsWide tokens program lacks = Is items tokens (decs_tree program.items) lacks

-- a tree of the language
abbrev pub IsProgram : List Token → Program → Type 0
IsProgram tokens program = IsWide tokens program []

-- some text of the wider grammar begins with these tokens
abbrev pub BeginsProgram : List Token → Type 0
BeginsProgram tokens = (rest : List Token) × (program : Program) × (lacks : List Found) × IsWide (tokens ++ rest) program lacks

-- the place behind the first of these tokens: the first byte of the next one, or the end of the last
abbrev pub place_behind : List Token → List Token → ℕ
place_behind before [] = last_of before
place_behind before (t ∷ after) = t.span.from

-- where tokens stop being a program: they have no tree, those before the place begin a program, and with the next one they don't
pub record IsUnexpected (tokens : List Token) (place : ℕ) : Type 0 where
  pub before : List Token
  pub after : List Token
  pub split : tokens ≡ before ++ after
  pub none : (program : Program) (lacks : List Found) → IsWide tokens program lacks → ⊥
  pub begins : BeginsProgram before
  pub longest : (t : Token) (ts : List Token) → after ≡ t ∷ ts → BeginsProgram (before ++ t ∷ []) → ⊥
  pub place_is : place ≡ place_behind before after

-- what holds of each of a list
abbrev pub Each : {A : Type 0} → (A → Type 0) → List A → Type 0
Each P [] = Unit {0}
Each P (x ∷ xs) = P x × Each P xs

-- one of the lacks, and none of the others has a lower place
abbrev pub IsFirstLack : List Found → Found → Type 0
IsFirstLack lacks found =
    (before after : List Found) × (lacks ≡ before ++ found ∷ after) × Each (λ (other : Found). found.0 ≤ other.0) lacks

-- Heights. A node without parts has the height 1, any other one more than its highest part. Nodes are declarations,
-- expressions, patterns and types; rules, pieces of quotations and bindings are none, and their parts are those of the node that
-- holds them. `ExpFits n` says that an expression is at most n high.
abbrev pub TyFormFits : (Ty → Type 0) → TyLayer → Type 0
TyFormFits part (TyForm-F.Var name) = Unit {0}
TyFormFits part (TyForm-F.Con name arguments) = Each part arguments
TyFormFits part (TyForm-F.Tuple ts) = Each part ts
TyFormFits part (TyForm-F.Arrow from to) = part from × part to

abbrev pub TyFits : ℕ → Ty → Type 0
TyFits zero t = ⊥
TyFits (suc n) t = TyFormFits (TyFits n) (form_of_ty t)

abbrev pub PatFormFits : (Pat → Type 0) → (Ty → Type 0) → PatLayer → Type 0
PatFormFits part ty PatForm-F.Any = Unit {0}
PatFormFits part ty (PatForm-F.Int number) = Unit {0}
PatFormFits part ty (PatForm-F.Char byte) = Unit {0}
PatFormFits part ty (PatForm-F.Str text) = Unit {0}
PatFormFits part ty PatForm-F.Unit = Unit {0}
PatFormFits part ty (PatForm-F.Name name) = Unit {0}
PatFormFits part ty (PatForm-F.Tuple ps) = Each part ps
PatFormFits part ty (PatForm-F.List ps) = Each part ps
PatFormFits part ty (PatForm-F.Con name p) = part p
PatFormFits part ty (PatForm-F.Typed p t) = part p × ty t

abbrev pub PatFits : ℕ → Pat → Type 0
PatFits zero p = ⊥
PatFits (suc n) p = PatFormFits (PatFits n) (TyFits n) (form_of_pat p)

abbrev pub RuleFits : ℕ → (Exp → Type 0) → Rule → Type 0
RuleFits n part r = PatFits n (out-Rule r).pat × part (out-Rule r).body

abbrev pub PieceFits : (Exp → Type 0) → Piece-F DecForm ExpForm Piece Dec Exp Rule → Type 0
PieceFits part (Piece-F.Plain text) = Unit {0}
PieceFits part (Piece-F.Anti e) = part e

abbrev pub ArgumentFits : ℕ → Option Ty → Type 0
ArgumentFits n None = Unit {0}
ArgumentFits n (Some t) = TyFits n t

-- the parts of an expression are at most n high
abbrev pub ExpFormFits : ℕ → (Exp → Type 0) → (Dec → Type 0) → ExpLayer → Type 0
ExpFormFits n part dec (ExpForm-F.Int number) = Unit {0}
ExpFormFits n part dec (ExpForm-F.Char byte) = Unit {0}
ExpFormFits n part dec (ExpForm-F.Str text) = Unit {0}
ExpFormFits n part dec (ExpForm-F.Name name) = Unit {0}
ExpFormFits n part dec ExpForm-F.Unit = Unit {0}
ExpFormFits n part dec (ExpForm-F.Tuple es) = Each part es
ExpFormFits n part dec (ExpForm-F.List es) = Each part es
ExpFormFits n part dec (ExpForm-F.Seq es) = Each part es
ExpFormFits n part dec (ExpForm-F.App e1 e2) = part e1 × part e2
ExpFormFits n part dec (ExpForm-F.Let ds es) = Each dec ds × Each part es
ExpFormFits n part dec (ExpForm-F.Fn rs) = Each (RuleFits n part) rs
ExpFormFits n part dec (ExpForm-F.Case e rs) = part e × Each (RuleFits n part) rs
ExpFormFits n part dec (ExpForm-F.Handle e rs) = part e × Each (RuleFits n part) rs
ExpFormFits n part dec (ExpForm-F.Raise e) = part e
ExpFormFits n part dec (ExpForm-F.If e1 e2 e3) = part e1 × part e2 × part e3
ExpFormFits n part dec (ExpForm-F.Both e1 e2) = part e1 × part e2
ExpFormFits n part dec (ExpForm-F.Either e1 e2) = part e1 × part e2
ExpFormFits n part dec (ExpForm-F.Quote ps) = Each (λ (p : Piece). PieceFits part (out-Piece p)) ps
ExpFormFits n part dec (ExpForm-F.Typed e t) = part e × TyFits n t

-- the parts of a declaration are at most n high
abbrev pub DecFormFits : ℕ → (Exp → Type 0) → (Dec → Type 0) → DecLayer → Type 0
DecFormFits n exp part (DecForm-F.Val bs) = Each (λ (b : Pat × Exp). PatFits n b.0 × exp b.1) bs
DecFormFits n exp part (DecForm-F.ValRec bs) = Each (λ (b : List ℕ × List Rule). Each (RuleFits n exp) b.1) bs
DecFormFits n exp part (DecForm-F.Abbrev bs) = Each (λ (b : List (List ℕ) × List ℕ × Ty). TyFits n b.2) bs
DecFormFits n exp part (DecForm-F.DataDef bs) =
    Each (λ (b : List (List ℕ) × List ℕ × List (List ℕ × Option Ty)). Each (λ (c : List ℕ × Option Ty). ArgumentFits n c.1) b.2) bs
DecFormFits n exp part (DecForm-F.ExnDef cs) = Each (λ (c : List ℕ × Option Ty). ArgumentFits n c.1) cs
DecFormFits n exp part (DecForm-F.Local first second) = Each part first × Each part second

abbrev mutual
  pub ExpFits : ℕ → Exp → Type 0
  ExpFits zero e = ⊥
  ExpFits (suc n) e = ExpFormFits n (ExpFits n) (DecFits n) (form_of_exp e)

  pub DecFits : ℕ → Dec → Type 0
  DecFits zero d = ⊥
  DecFits (suc n) d = DecFormFits n (ExpFits n) (DecFits n) (form_of_dec d)

-- the greatest height of an item
unfoldable pub highest : ℕ
highest = 200

-- the place of the first item that is too high
abbrev pub IsFirstHigh : Program → ℕ → Type 0
IsFirstHigh program place =
    (before after : List Dec) × (item : Dec) × (program.items ≡ before ++ item ∷ after) × Each (DecFits highest) before
    × (DecFits highest item → ⊥) × (place ≡ (out-Dec item).span.from)
