-- Forms of trees, as contracts see them and as one level of a tree.
use Rattle.std.proofs.Common.{◌≡◌, sym, ◌∙◌, ap, ℕ, List}
use Rattle.sml_syntax.specs.declared.tree.Ty.{Ty}
use Rattle.sml_syntax.specs.declared.tree.Pat.{Pat}
use Rattle.sml_syntax.specs.declared.tree.PatForm.{PatForm, out-PatForm, out-roll-PatForm}
use Rattle.sml_syntax.specs.declared.tree.PatForm.TheVariants as w
use Rattle.sml_syntax.specs.declared.tree.PatForm.TheOpen.{PatForm-F}
use Rattle.sml_syntax.specs.declared.tree.Exp.{Exp}
use Rattle.sml_syntax.specs.declared.tree.Dec.{Dec}
use Rattle.sml_syntax.specs.declared.tree.Rule.{Rule}
use Rattle.sml_syntax.specs.declared.tree.Piece.{Piece}
use Rattle.sml_syntax.specs.declared.tree.ExpForm.{ExpForm, out-ExpForm, out-roll-ExpForm}
use Rattle.sml_syntax.specs.declared.tree.ExpForm.TheVariants as u
use Rattle.sml_syntax.specs.declared.tree.DecForm.{DecForm, out-DecForm, out-roll-DecForm}
use Rattle.sml_syntax.specs.declared.tree.DecForm.TheVariants as d
use Rattle.sml_syntax.specs.declared.tree.Piece.{out-Piece, out-roll-Piece}
use Rattle.sml_syntax.specs.declared.tree.Piece.TheVariants as p
use Rattle.sml_syntax.specs.declared.tree.DecForm.TheOpen.{ExpForm-F, DecForm-F, Piece-F}
use Rattle.typing_rules.specs.Scope.{TypeBinding, DatatypeBinding, Constructors}

pub pat-any : {f : PatForm} → f ≡ w.Any → out-PatForm f ≡ PatForm-F.Any
pat-any e = ap out-PatForm e ∙ ap out-PatForm (sym w.rolls-Any) ∙ out-roll-PatForm PatForm-F.Any

pub pat-unit : {f : PatForm} → f ≡ w.Unit → out-PatForm f ≡ PatForm-F.Unit
pat-unit e = ap out-PatForm e ∙ ap out-PatForm (sym w.rolls-Unit) ∙ out-roll-PatForm PatForm-F.Unit

pub pat-name : {f : PatForm} (x : List ℕ) → f ≡ w.Name x → out-PatForm f ≡ PatForm-F.Name x
pat-name x e = ap out-PatForm e ∙ ap out-PatForm (sym (w.rolls-Name x)) ∙ out-roll-PatForm (PatForm-F.Name x)

pub pat-con : {f : PatForm} (name : List ℕ) (p : Pat) → f ≡ w.Con name p → out-PatForm f ≡ PatForm-F.Con name p
pat-con name p e = ap out-PatForm e ∙ ap out-PatForm (sym (w.rolls-Con name p)) ∙ out-roll-PatForm (PatForm-F.Con name p)

pub pat-typed : {f : PatForm} (p : Pat) (t : Ty) → f ≡ w.Typed p t → out-PatForm f ≡ PatForm-F.Typed p t
pat-typed p t e = ap out-PatForm e ∙ ap out-PatForm (sym (w.rolls-Typed p t)) ∙ out-roll-PatForm (PatForm-F.Typed p t)

pub exp-name : {f : ExpForm} (x : List ℕ) → f ≡ u.Name x → out-ExpForm f ≡ ExpForm-F.Name x
exp-name x e = ap out-ExpForm e ∙ ap out-ExpForm (sym (u.rolls-Name x)) ∙ out-roll-ExpForm (ExpForm-F.Name x)

pub exp-app : {f : ExpForm} (x : Exp) (y : Exp) → f ≡ u.App x y → out-ExpForm f ≡ ExpForm-F.App x y
exp-app x y e = ap out-ExpForm e ∙ ap out-ExpForm (sym (u.rolls-App x y)) ∙ out-roll-ExpForm (ExpForm-F.App x y)

pub exp-let : {f : ExpForm} (x : List Dec) (y : List Exp) → f ≡ u.Let x y → out-ExpForm f ≡ ExpForm-F.Let x y
exp-let x y e = ap out-ExpForm e ∙ ap out-ExpForm (sym (u.rolls-Let x y)) ∙ out-roll-ExpForm (ExpForm-F.Let x y)

pub exp-case : {f : ExpForm} (x : Exp) (y : List Rule) → f ≡ u.Case x y → out-ExpForm f ≡ ExpForm-F.Case x y
exp-case x y e = ap out-ExpForm e ∙ ap out-ExpForm (sym (u.rolls-Case x y)) ∙ out-roll-ExpForm (ExpForm-F.Case x y)

pub exp-handle : {f : ExpForm} (x : Exp) (y : List Rule) → f ≡ u.Handle x y → out-ExpForm f ≡ ExpForm-F.Handle x y
exp-handle x y e = ap out-ExpForm e ∙ ap out-ExpForm (sym (u.rolls-Handle x y)) ∙ out-roll-ExpForm (ExpForm-F.Handle x y)

pub exp-raise : {f : ExpForm} (x : Exp) → f ≡ u.Raise x → out-ExpForm f ≡ ExpForm-F.Raise x
exp-raise x e = ap out-ExpForm e ∙ ap out-ExpForm (sym (u.rolls-Raise x)) ∙ out-roll-ExpForm (ExpForm-F.Raise x)

pub exp-if : {f : ExpForm} (x : Exp) (y : Exp) (z : Exp) → f ≡ u.If x y z → out-ExpForm f ≡ ExpForm-F.If x y z
exp-if x y z e = ap out-ExpForm e ∙ ap out-ExpForm (sym (u.rolls-If x y z)) ∙ out-roll-ExpForm (ExpForm-F.If x y z)

pub exp-both : {f : ExpForm} (x : Exp) (y : Exp) → f ≡ u.Both x y → out-ExpForm f ≡ ExpForm-F.Both x y
exp-both x y e = ap out-ExpForm e ∙ ap out-ExpForm (sym (u.rolls-Both x y)) ∙ out-roll-ExpForm (ExpForm-F.Both x y)

pub exp-either : {f : ExpForm} (x : Exp) (y : Exp) → f ≡ u.Either x y → out-ExpForm f ≡ ExpForm-F.Either x y
exp-either x y e = ap out-ExpForm e ∙ ap out-ExpForm (sym (u.rolls-Either x y)) ∙ out-roll-ExpForm (ExpForm-F.Either x y)

pub exp-typed : {f : ExpForm} (x : Exp) (y : Ty) → f ≡ u.Typed x y → out-ExpForm f ≡ ExpForm-F.Typed x y
exp-typed x y e = ap out-ExpForm e ∙ ap out-ExpForm (sym (u.rolls-Typed x y)) ∙ out-roll-ExpForm (ExpForm-F.Typed x y)

pub dec-val : {f : DecForm} (x : List (Pat × Exp)) → f ≡ d.Val x → out-DecForm f ≡ DecForm-F.Val x
dec-val x e = ap out-DecForm e ∙ ap out-DecForm (sym (d.rolls-Val x)) ∙ out-roll-DecForm (DecForm-F.Val x)

pub dec-valrec : {f : DecForm} (x : List (List ℕ × List Rule)) → f ≡ d.ValRec x → out-DecForm f ≡ DecForm-F.ValRec x
dec-valrec x e = ap out-DecForm e ∙ ap out-DecForm (sym (d.rolls-ValRec x)) ∙ out-roll-DecForm (DecForm-F.ValRec x)

pub dec-abbrev : {f : DecForm} (x : List TypeBinding) → f ≡ d.Abbrev x → out-DecForm f ≡ DecForm-F.Abbrev x
dec-abbrev x e = ap out-DecForm e ∙ ap out-DecForm (sym (d.rolls-Abbrev x)) ∙ out-roll-DecForm (DecForm-F.Abbrev x)

pub dec-datadef : {f : DecForm} (x : List DatatypeBinding) → f ≡ d.DataDef x → out-DecForm f ≡ DecForm-F.DataDef x
dec-datadef x e = ap out-DecForm e ∙ ap out-DecForm (sym (d.rolls-DataDef x)) ∙ out-roll-DecForm (DecForm-F.DataDef x)

pub dec-exndef : {f : DecForm} (x : Constructors) → f ≡ d.ExnDef x → out-DecForm f ≡ DecForm-F.ExnDef x
dec-exndef x e = ap out-DecForm e ∙ ap out-DecForm (sym (d.rolls-ExnDef x)) ∙ out-roll-DecForm (DecForm-F.ExnDef x)

pub dec-local : {f : DecForm} (x : List Dec) (y : List Dec) → f ≡ d.Local x y → out-DecForm f ≡ DecForm-F.Local x y
dec-local x y e = ap out-DecForm e ∙ ap out-DecForm (sym (d.rolls-Local x y)) ∙ out-roll-DecForm (DecForm-F.Local x y)

pub piece-plain : {f : Piece} (x : List ℕ) → f ≡ p.Plain x → out-Piece f ≡ Piece-F.Plain x
piece-plain x e = ap out-Piece e ∙ ap out-Piece (sym (p.rolls-Plain x)) ∙ out-roll-Piece (Piece-F.Plain x)

pub piece-anti : {f : Piece} (x : Exp) → f ≡ p.Anti x → out-Piece f ≡ Piece-F.Anti x
piece-anti x e = ap out-Piece e ∙ ap out-Piece (sym (p.rolls-Anti x)) ∙ out-roll-Piece (Piece-F.Anti x)

pub exp-int : {f : ExpForm} (x : _) → f ≡ u.Int x → out-ExpForm f ≡ ExpForm-F.Int x
exp-int x e = ap out-ExpForm e ∙ ap out-ExpForm (sym (u.rolls-Int x)) ∙ out-roll-ExpForm (ExpForm-F.Int x)

pub exp-char : {f : ExpForm} (x : ℕ) → f ≡ u.Char x → out-ExpForm f ≡ ExpForm-F.Char x
exp-char x e = ap out-ExpForm e ∙ ap out-ExpForm (sym (u.rolls-Char x)) ∙ out-roll-ExpForm (ExpForm-F.Char x)

pub exp-str : {f : ExpForm} (x : List ℕ) → f ≡ u.Str x → out-ExpForm f ≡ ExpForm-F.Str x
exp-str x e = ap out-ExpForm e ∙ ap out-ExpForm (sym (u.rolls-Str x)) ∙ out-roll-ExpForm (ExpForm-F.Str x)

pub exp-unit : {f : ExpForm} → f ≡ u.Unit → out-ExpForm f ≡ ExpForm-F.Unit
exp-unit e = ap out-ExpForm e ∙ ap out-ExpForm (sym u.rolls-Unit) ∙ out-roll-ExpForm ExpForm-F.Unit

pub pat-char : {f : PatForm} (x : ℕ) → f ≡ w.Char x → out-PatForm f ≡ PatForm-F.Char x
pat-char x e = ap out-PatForm e ∙ ap out-PatForm (sym (w.rolls-Char x)) ∙ out-roll-PatForm (PatForm-F.Char x)

pub pat-str : {f : PatForm} (x : List ℕ) → f ≡ w.Str x → out-PatForm f ≡ PatForm-F.Str x
pat-str x e = ap out-PatForm e ∙ ap out-PatForm (sym (w.rolls-Str x)) ∙ out-roll-PatForm (PatForm-F.Str x)

pub pat-int : {f : PatForm} (x : _) → f ≡ w.Int x → out-PatForm f ≡ PatForm-F.Int x
pat-int x e = ap out-PatForm e ∙ ap out-PatForm (sym (w.rolls-Int x)) ∙ out-roll-PatForm (PatForm-F.Int x)
