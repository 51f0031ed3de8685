-- Nodes of trees over the heights of their parts.
use Rattle.std.proofs.Common.{◌≡◌, ℕ, ◌+◌, max, min, List, Option, ℤ, ap, sym, ◌∙◌, subst}
use Rattle.sml_syntax.specs.declared.tree.Span.{Span}
use Rattle.sml_syntax.specs.declared.tree.Ty.{Ty, out-roll-Ty}
use Rattle.sml_syntax.specs.declared.tree.TyForm.{TyForm, out-TyForm, out-roll-TyForm}
use Rattle.sml_syntax.specs.declared.tree.TyForm.TheVariants as t
use Rattle.sml_syntax.specs.declared.tree.TyForm.TheOpen.{TyForm-F}
use Rattle.sml_syntax.specs.declared.tree.Pat.{Pat, out-roll-Pat}
use Rattle.sml_syntax.specs.declared.tree.PatForm.{PatForm, out-PatForm, out-roll-PatForm}
use Rattle.sml_syntax.specs.declared.tree.PatForm.TheVariants as p
use Rattle.sml_syntax.specs.declared.tree.PatForm.TheOpen.{PatForm-F}
use Rattle.sml_syntax.specs.declared.tree.Exp.{Exp, out-roll-Exp}
use Rattle.sml_syntax.specs.declared.tree.ExpForm.{ExpForm, out-ExpForm, out-roll-ExpForm}
use Rattle.sml_syntax.specs.declared.tree.ExpForm.TheVariants as e
use Rattle.sml_syntax.specs.declared.tree.Dec.{Dec, out-roll-Dec}
use Rattle.sml_syntax.specs.declared.tree.DecForm.{DecForm, out-DecForm, out-roll-DecForm}
use Rattle.sml_syntax.specs.declared.tree.DecForm.TheVariants as d
use Rattle.sml_syntax.specs.declared.tree.DecForm.TheOpen.{DecForm-F, ExpForm-F}
use Rattle.sml_syntax.specs.declared.tree.Rule.{Rule}
use Rattle.sml_syntax.specs.declared.tree.Piece.{Piece}
use Rattle.grammar_rules.specs.Nodes.{exp_at, pat_at, ty_at, dec_at}
use Rattle.sml_syntax.specs.NestedTypes.{TyLayer, form_of_ty}
use Rattle.sml_syntax.specs.Layers.{ExpLayer, DecLayer, PatLayer, form_of_exp, form_of_dec, form_of_pat}
use Rattle.grammar_rules.specs.Programs.{TyFits, TyFormFits, PatFits, PatFormFits, ExpFits, ExpFormFits, DecFits, DecFormFits}
use Rattle.grammar_limits.specs.Grows.{Fit}
use Rattle.grammar_limits.proofs.Fits.{node, none}

pub ty-var : (name : List ℕ) → out-TyForm (t.Var name) ≡ TyForm-F.Var name
ty-var name = ap out-TyForm (sym (t.rolls-Var name)) ∙ out-roll-TyForm (TyForm-F.Var name)

pub ty-con : (name : List ℕ) (ts : List Ty) → out-TyForm (t.Con name ts) ≡ TyForm-F.Con name ts
ty-con name ts = ap out-TyForm (sym (t.rolls-Con name ts)) ∙ out-roll-TyForm (TyForm-F.Con name ts)

pub ty-tuple : (ts : List Ty) → out-TyForm (t.Tuple ts) ≡ TyForm-F.Tuple ts
ty-tuple ts = ap out-TyForm (sym (t.rolls-Tuple ts)) ∙ out-roll-TyForm (TyForm-F.Tuple ts)

pub ty-arrow : (x : Ty) (y : Ty) → out-TyForm (t.Arrow x y) ≡ TyForm-F.Arrow x y
ty-arrow x y = ap out-TyForm (sym (t.rolls-Arrow x y)) ∙ out-roll-TyForm (TyForm-F.Arrow x y)

pub ty-opens : (form : TyForm) {layer : TyLayer} (span : Span) → out-TyForm form ≡ layer → form_of_ty (ty_at span form) ≡ layer
ty-opens form span h = ap (λ z. out-TyForm z.form) (out-roll-Ty (record { span = span; form = form })) ∙ h

pub ty-node : (form : TyForm) {layer : TyLayer} {span : Span} {g : ℕ} {Q : ℕ → Type 0} → out-TyForm form ≡ layer → Fit g Q → ((n : ℕ) → Q n → TyFormFits (TyFits n) layer) → ((n : ℕ) → TyFormFits (TyFits n) layer → Q n) → Fit (min (1 + max 0 g) 201) (λ n. TyFits n (ty_at span form))
ty-node form {span = span} h q to from = node q (λ z. z) (λ n z. subst (λ y. TyFormFits (TyFits n) y) (sym (ty-opens form span h)) (to n z)) (λ n z. from n (subst (λ y. TyFormFits (TyFits n) y) (ty-opens form span h) z))

pub ty-leaf : (form : TyForm) {layer : TyLayer} {span : Span} → out-TyForm form ≡ layer → ((n : ℕ) → TyFormFits (TyFits n) layer) → Fit (min (1 + max 0 0) 201) (λ n. TyFits n (ty_at span form))
ty-leaf form h to = ty-node form h none (λ n z. to n) (λ n z. tt)

pub pat-any : out-PatForm (p.Any) ≡ PatForm-F.Any
pat-any = ap out-PatForm (sym p.rolls-Any) ∙ out-roll-PatForm PatForm-F.Any

pub pat-int : (number : ℤ) → out-PatForm (p.Int number) ≡ PatForm-F.Int number
pat-int number = ap out-PatForm (sym (p.rolls-Int number)) ∙ out-roll-PatForm (PatForm-F.Int number)

pub pat-char : (byte : ℕ) → out-PatForm (p.Char byte) ≡ PatForm-F.Char byte
pat-char byte = ap out-PatForm (sym (p.rolls-Char byte)) ∙ out-roll-PatForm (PatForm-F.Char byte)

pub pat-str : (text : List ℕ) → out-PatForm (p.Str text) ≡ PatForm-F.Str text
pat-str text = ap out-PatForm (sym (p.rolls-Str text)) ∙ out-roll-PatForm (PatForm-F.Str text)

pub pat-unit : out-PatForm (p.Unit) ≡ PatForm-F.Unit
pat-unit = ap out-PatForm (sym p.rolls-Unit) ∙ out-roll-PatForm PatForm-F.Unit

pub pat-name : (name : List ℕ) → out-PatForm (p.Name name) ≡ PatForm-F.Name name
pat-name name = ap out-PatForm (sym (p.rolls-Name name)) ∙ out-roll-PatForm (PatForm-F.Name name)

pub pat-tuple : (ps : List Pat) → out-PatForm (p.Tuple ps) ≡ PatForm-F.Tuple ps
pat-tuple ps = ap out-PatForm (sym (p.rolls-Tuple ps)) ∙ out-roll-PatForm (PatForm-F.Tuple ps)

pub pat-list : (ps : List Pat) → out-PatForm (p.List ps) ≡ PatForm-F.List ps
pat-list ps = ap out-PatForm (sym (p.rolls-List ps)) ∙ out-roll-PatForm (PatForm-F.List ps)

pub pat-con : (name : List ℕ) (x : Pat) → out-PatForm (p.Con name x) ≡ PatForm-F.Con name x
pat-con name x = ap out-PatForm (sym (p.rolls-Con name x)) ∙ out-roll-PatForm (PatForm-F.Con name x)

pub pat-typed : (x : Pat) (t : Ty) → out-PatForm (p.Typed x t) ≡ PatForm-F.Typed x t
pat-typed x t = ap out-PatForm (sym (p.rolls-Typed x t)) ∙ out-roll-PatForm (PatForm-F.Typed x t)

pub pat-opens : (form : PatForm) {layer : PatLayer} (span : Span) → out-PatForm form ≡ layer → form_of_pat (pat_at span form) ≡ layer
pat-opens form span h = ap (λ z. out-PatForm z.form) (out-roll-Pat (record { span = span; form = form })) ∙ h

pub pat-node : (form : PatForm) {layer : PatLayer} {span : Span} {g : ℕ} {Q : ℕ → Type 0} → out-PatForm form ≡ layer → Fit g Q → ((n : ℕ) → Q n → PatFormFits (PatFits n) (TyFits n) layer) → ((n : ℕ) → PatFormFits (PatFits n) (TyFits n) layer → Q n) → Fit (min (1 + max 0 g) 201) (λ n. PatFits n (pat_at span form))
pat-node form {span = span} h q to from = node q (λ z. z) (λ n z. subst (λ y. PatFormFits (PatFits n) (TyFits n) y) (sym (pat-opens form span h)) (to n z)) (λ n z. from n (subst (λ y. PatFormFits (PatFits n) (TyFits n) y) (pat-opens form span h) z))

pub pat-leaf : (form : PatForm) {layer : PatLayer} {span : Span} → out-PatForm form ≡ layer → ((n : ℕ) → PatFormFits (PatFits n) (TyFits n) layer) → Fit (min (1 + max 0 0) 201) (λ n. PatFits n (pat_at span form))
pat-leaf form h to = pat-node form h none (λ n z. to n) (λ n z. tt)

pub exp-int : (number : ℤ) → out-ExpForm (e.Int number) ≡ ExpForm-F.Int number
exp-int number = ap out-ExpForm (sym (e.rolls-Int number)) ∙ out-roll-ExpForm (ExpForm-F.Int number)

pub exp-char : (byte : ℕ) → out-ExpForm (e.Char byte) ≡ ExpForm-F.Char byte
exp-char byte = ap out-ExpForm (sym (e.rolls-Char byte)) ∙ out-roll-ExpForm (ExpForm-F.Char byte)

pub exp-str : (text : List ℕ) → out-ExpForm (e.Str text) ≡ ExpForm-F.Str text
exp-str text = ap out-ExpForm (sym (e.rolls-Str text)) ∙ out-roll-ExpForm (ExpForm-F.Str text)

pub exp-name : (name : List ℕ) → out-ExpForm (e.Name name) ≡ ExpForm-F.Name name
exp-name name = ap out-ExpForm (sym (e.rolls-Name name)) ∙ out-roll-ExpForm (ExpForm-F.Name name)

pub exp-unit : out-ExpForm (e.Unit) ≡ ExpForm-F.Unit
exp-unit = ap out-ExpForm (sym e.rolls-Unit) ∙ out-roll-ExpForm ExpForm-F.Unit

pub exp-tuple : (es : List Exp) → out-ExpForm (e.Tuple es) ≡ ExpForm-F.Tuple es
exp-tuple es = ap out-ExpForm (sym (e.rolls-Tuple es)) ∙ out-roll-ExpForm (ExpForm-F.Tuple es)

pub exp-list : (es : List Exp) → out-ExpForm (e.List es) ≡ ExpForm-F.List es
exp-list es = ap out-ExpForm (sym (e.rolls-List es)) ∙ out-roll-ExpForm (ExpForm-F.List es)

pub exp-seq : (es : List Exp) → out-ExpForm (e.Seq es) ≡ ExpForm-F.Seq es
exp-seq es = ap out-ExpForm (sym (e.rolls-Seq es)) ∙ out-roll-ExpForm (ExpForm-F.Seq es)

pub exp-app : (x : Exp) (y : Exp) → out-ExpForm (e.App x y) ≡ ExpForm-F.App x y
exp-app x y = ap out-ExpForm (sym (e.rolls-App x y)) ∙ out-roll-ExpForm (ExpForm-F.App x y)

pub exp-let : (ds : List Dec) (es : List Exp) → out-ExpForm (e.Let ds es) ≡ ExpForm-F.Let ds es
exp-let ds es = ap out-ExpForm (sym (e.rolls-Let ds es)) ∙ out-roll-ExpForm (ExpForm-F.Let ds es)

pub exp-fn : (rs : List Rule) → out-ExpForm (e.Fn rs) ≡ ExpForm-F.Fn rs
exp-fn rs = ap out-ExpForm (sym (e.rolls-Fn rs)) ∙ out-roll-ExpForm (ExpForm-F.Fn rs)

pub exp-case : (x : Exp) (rs : List Rule) → out-ExpForm (e.Case x rs) ≡ ExpForm-F.Case x rs
exp-case x rs = ap out-ExpForm (sym (e.rolls-Case x rs)) ∙ out-roll-ExpForm (ExpForm-F.Case x rs)

pub exp-handle : (x : Exp) (rs : List Rule) → out-ExpForm (e.Handle x rs) ≡ ExpForm-F.Handle x rs
exp-handle x rs = ap out-ExpForm (sym (e.rolls-Handle x rs)) ∙ out-roll-ExpForm (ExpForm-F.Handle x rs)

pub exp-raise : (x : Exp) → out-ExpForm (e.Raise x) ≡ ExpForm-F.Raise x
exp-raise x = ap out-ExpForm (sym (e.rolls-Raise x)) ∙ out-roll-ExpForm (ExpForm-F.Raise x)

pub exp-if : (x : Exp) (y : Exp) (z : Exp) → out-ExpForm (e.If x y z) ≡ ExpForm-F.If x y z
exp-if x y z = ap out-ExpForm (sym (e.rolls-If x y z)) ∙ out-roll-ExpForm (ExpForm-F.If x y z)

pub exp-both : (x : Exp) (y : Exp) → out-ExpForm (e.Both x y) ≡ ExpForm-F.Both x y
exp-both x y = ap out-ExpForm (sym (e.rolls-Both x y)) ∙ out-roll-ExpForm (ExpForm-F.Both x y)

pub exp-either : (x : Exp) (y : Exp) → out-ExpForm (e.Either x y) ≡ ExpForm-F.Either x y
exp-either x y = ap out-ExpForm (sym (e.rolls-Either x y)) ∙ out-roll-ExpForm (ExpForm-F.Either x y)

pub exp-quote : (ps : List Piece) → out-ExpForm (e.Quote ps) ≡ ExpForm-F.Quote ps
exp-quote ps = ap out-ExpForm (sym (e.rolls-Quote ps)) ∙ out-roll-ExpForm (ExpForm-F.Quote ps)

pub exp-typed : (x : Exp) (t : Ty) → out-ExpForm (e.Typed x t) ≡ ExpForm-F.Typed x t
exp-typed x t = ap out-ExpForm (sym (e.rolls-Typed x t)) ∙ out-roll-ExpForm (ExpForm-F.Typed x t)

pub exp-opens : (form : ExpForm) {layer : ExpLayer} (span : Span) → out-ExpForm form ≡ layer → form_of_exp (exp_at span form) ≡ layer
exp-opens form span h = ap (λ z. out-ExpForm z.form) (out-roll-Exp (record { span = span; form = form })) ∙ h

pub exp-node : (form : ExpForm) {layer : ExpLayer} {span : Span} {g : ℕ} {Q : ℕ → Type 0} → out-ExpForm form ≡ layer → Fit g Q → ((n : ℕ) → Q n → ExpFormFits n (ExpFits n) (DecFits n) layer) → ((n : ℕ) → ExpFormFits n (ExpFits n) (DecFits n) layer → Q n) → Fit (min (1 + max 0 g) 201) (λ n. ExpFits n (exp_at span form))
exp-node form {span = span} h q to from = node q (λ z. z) (λ n z. subst (λ y. ExpFormFits n (ExpFits n) (DecFits n) y) (sym (exp-opens form span h)) (to n z)) (λ n z. from n (subst (λ y. ExpFormFits n (ExpFits n) (DecFits n) y) (exp-opens form span h) z))

pub exp-leaf : (form : ExpForm) {layer : ExpLayer} {span : Span} → out-ExpForm form ≡ layer → ((n : ℕ) → ExpFormFits n (ExpFits n) (DecFits n) layer) → Fit (min (1 + max 0 0) 201) (λ n. ExpFits n (exp_at span form))
exp-leaf form h to = exp-node form h none (λ n z. to n) (λ n z. tt)

pub dec-val : (bs : List (Pat × Exp)) → out-DecForm (d.Val bs) ≡ DecForm-F.Val bs
dec-val bs = ap out-DecForm (sym (d.rolls-Val bs)) ∙ out-roll-DecForm (DecForm-F.Val bs)

pub dec-valrec : (bs : List (List ℕ × List Rule)) → out-DecForm (d.ValRec bs) ≡ DecForm-F.ValRec bs
dec-valrec bs = ap out-DecForm (sym (d.rolls-ValRec bs)) ∙ out-roll-DecForm (DecForm-F.ValRec bs)

pub dec-abbrev : (bs : List (List (List ℕ) × List ℕ × Ty)) → out-DecForm (d.Abbrev bs) ≡ DecForm-F.Abbrev bs
dec-abbrev bs = ap out-DecForm (sym (d.rolls-Abbrev bs)) ∙ out-roll-DecForm (DecForm-F.Abbrev bs)

pub dec-datadef : (bs : List (List (List ℕ) × List ℕ × List (List ℕ × Option Ty))) → out-DecForm (d.DataDef bs) ≡ DecForm-F.DataDef bs
dec-datadef bs = ap out-DecForm (sym (d.rolls-DataDef bs)) ∙ out-roll-DecForm (DecForm-F.DataDef bs)

pub dec-exndef : (cs : List (List ℕ × Option Ty)) → out-DecForm (d.ExnDef cs) ≡ DecForm-F.ExnDef cs
dec-exndef cs = ap out-DecForm (sym (d.rolls-ExnDef cs)) ∙ out-roll-DecForm (DecForm-F.ExnDef cs)

pub dec-local : (x : List Dec) (y : List Dec) → out-DecForm (d.Local x y) ≡ DecForm-F.Local x y
dec-local x y = ap out-DecForm (sym (d.rolls-Local x y)) ∙ out-roll-DecForm (DecForm-F.Local x y)

pub dec-opens : (form : DecForm) {layer : DecLayer} (span : Span) → out-DecForm form ≡ layer → form_of_dec (dec_at span form) ≡ layer
dec-opens form span h = ap (λ z. out-DecForm z.form) (out-roll-Dec (record { span = span; form = form })) ∙ h

pub dec-node : (form : DecForm) {layer : DecLayer} {span : Span} {g : ℕ} {Q : ℕ → Type 0} → out-DecForm form ≡ layer → Fit g Q → ((n : ℕ) → Q n → DecFormFits n (ExpFits n) (DecFits n) layer) → ((n : ℕ) → DecFormFits n (ExpFits n) (DecFits n) layer → Q n) → Fit (min (1 + max 0 g) 201) (λ n. DecFits n (dec_at span form))
dec-node form {span = span} h q to from = node q (λ z. z) (λ n z. subst (λ y. DecFormFits n (ExpFits n) (DecFits n) y) (sym (dec-opens form span h)) (to n z)) (λ n z. from n (subst (λ y. DecFormFits n (ExpFits n) (DecFits n) y) (dec-opens form span h) z))

pub dec-leaf : (form : DecForm) {layer : DecLayer} {span : Span} → out-DecForm form ≡ layer → ((n : ℕ) → DecFormFits n (ExpFits n) (DecFits n) layer) → Fit (min (1 + max 0 0) 201) (λ n. DecFits n (dec_at span form))
dec-leaf form h to = dec-node form h none (λ n z. to n) (λ n z. tt)
