-- What is printed of a node of each form.
use Rattle.std.proofs.Common.{◌≡◌, ℕ, ℤ, List, Option, ap, sym, ◌∙◌, map}
use Rattle.sml_syntax.specs.declared.tree.Span.{Span}
use Rattle.sml_syntax.specs.declared.tree.Ty.{Ty}
use Rattle.sml_syntax.specs.declared.tree.TyForm.{roll-TyForm}
use Rattle.sml_syntax.specs.declared.tree.TyForm.TheOpen.{TyForm-F}
use Rattle.sml_syntax.specs.declared.tree.TyForm.TheVariants as t
use Rattle.sml_syntax.specs.declared.tree.TyForm.TheFolds.{fold-roll-Ty, fold-roll-TyForm}
use Rattle.sml_syntax.specs.declared.tree.Pat.{Pat}
use Rattle.sml_syntax.specs.declared.tree.PatForm.{roll-PatForm, out-PatForm}
use Rattle.sml_syntax.specs.declared.tree.PatForm.TheOpen.{PatForm-F}
use Rattle.sml_syntax.specs.declared.tree.PatForm.TheVariants as p
use Rattle.sml_syntax.specs.declared.tree.PatForm.TheFolds.{fold-roll-Pat, fold-roll-PatForm}
use Rattle.sml_syntax.specs.declared.tree.PatForm.TheViews.{out-roll-Pat, out-roll-PatForm}
use Rattle.sml_syntax.specs.declared.tree.Exp.{Exp}
use Rattle.sml_syntax.specs.declared.tree.ExpForm.{roll-ExpForm}
use Rattle.sml_syntax.specs.declared.tree.ExpForm.TheVariants as e
use Rattle.sml_syntax.specs.declared.tree.Rule.{Rule}
use Rattle.sml_syntax.specs.declared.tree.Piece.{Piece}
use Rattle.sml_syntax.specs.declared.tree.Piece.TheVariants as piece
use Rattle.sml_syntax.specs.declared.tree.Dec.{Dec}
use Rattle.sml_syntax.specs.declared.tree.DecForm.{roll-DecForm}
use Rattle.sml_syntax.specs.declared.tree.DecForm.TheVariants as d
use Rattle.sml_syntax.specs.declared.tree.DecForm.TheOpen.{DecForm-F, ExpForm-F, Piece-F}
use Rattle.sml_syntax.specs.declared.tree.DecForm.TheFolds.{fold-roll-Exp, fold-roll-ExpForm, fold-roll-Rule, fold-roll-Piece, fold-roll-Dec, fold-roll-DecForm}
use Rattle.sml_syntax.specs.Layers.{form_of_pat}
use Rattle.grammar_rules.specs.Nodes.{exp_at, pat_at, ty_at, dec_at, rule_of}
use Rattle.print_laws.specs.Printing.{Forms, Part, PatInk, Ink, RuleInk, ty_layer, ty_part, pat_layer, pat_ink, exp_layer, exp_ink, piece_layer, piece_forms, rule_layer, rule_ink, dec_layer, dec_forms}

pub ink-Int : (s : Span) (n : ℤ) → exp_ink (exp_at s (e.Int n)) ≡ exp_layer (ExpForm-F.Int n)
ink-Int s n = ap (λ x. exp_ink (exp_at s x)) (sym (e.rolls-Int n)) ∙ (fold-roll-Exp Forms Ink Forms Forms Ink RuleInk dec_layer exp_layer piece_layer (λ d. d.form) (λ e. e.form) rule_layer (record { span = s; form = roll-ExpForm (ExpForm-F.Int n) }) ∙ fold-roll-ExpForm Forms Ink Forms Forms Ink RuleInk dec_layer exp_layer piece_layer (λ d. d.form) (λ e. e.form) rule_layer (ExpForm-F.Int n))

pub ink-Char : (s : Span) (b : ℕ) → exp_ink (exp_at s (e.Char b)) ≡ exp_layer (ExpForm-F.Char b)
ink-Char s b = ap (λ x. exp_ink (exp_at s x)) (sym (e.rolls-Char b)) ∙ (fold-roll-Exp Forms Ink Forms Forms Ink RuleInk dec_layer exp_layer piece_layer (λ d. d.form) (λ e. e.form) rule_layer (record { span = s; form = roll-ExpForm (ExpForm-F.Char b) }) ∙ fold-roll-ExpForm Forms Ink Forms Forms Ink RuleInk dec_layer exp_layer piece_layer (λ d. d.form) (λ e. e.form) rule_layer (ExpForm-F.Char b))

pub ink-Str : (s : Span) (w : List ℕ) → exp_ink (exp_at s (e.Str w)) ≡ exp_layer (ExpForm-F.Str w)
ink-Str s w = ap (λ x. exp_ink (exp_at s x)) (sym (e.rolls-Str w)) ∙ (fold-roll-Exp Forms Ink Forms Forms Ink RuleInk dec_layer exp_layer piece_layer (λ d. d.form) (λ e. e.form) rule_layer (record { span = s; form = roll-ExpForm (ExpForm-F.Str w) }) ∙ fold-roll-ExpForm Forms Ink Forms Forms Ink RuleInk dec_layer exp_layer piece_layer (λ d. d.form) (λ e. e.form) rule_layer (ExpForm-F.Str w))

pub ink-Name : (s : Span) (w : List ℕ) → exp_ink (exp_at s (e.Name w)) ≡ exp_layer (ExpForm-F.Name w)
ink-Name s w = ap (λ x. exp_ink (exp_at s x)) (sym (e.rolls-Name w)) ∙ (fold-roll-Exp Forms Ink Forms Forms Ink RuleInk dec_layer exp_layer piece_layer (λ d. d.form) (λ e. e.form) rule_layer (record { span = s; form = roll-ExpForm (ExpForm-F.Name w) }) ∙ fold-roll-ExpForm Forms Ink Forms Forms Ink RuleInk dec_layer exp_layer piece_layer (λ d. d.form) (λ e. e.form) rule_layer (ExpForm-F.Name w))

pub ink-Unit : (s : Span) → exp_ink (exp_at s e.Unit) ≡ exp_layer ExpForm-F.Unit
ink-Unit s = ap (λ x. exp_ink (exp_at s x)) (sym e.rolls-Unit) ∙ (fold-roll-Exp Forms Ink Forms Forms Ink RuleInk dec_layer exp_layer piece_layer (λ d. d.form) (λ e. e.form) rule_layer (record { span = s; form = roll-ExpForm ExpForm-F.Unit }) ∙ fold-roll-ExpForm Forms Ink Forms Forms Ink RuleInk dec_layer exp_layer piece_layer (λ d. d.form) (λ e. e.form) rule_layer ExpForm-F.Unit)

pub ink-Tuple : (s : Span) (es : List Exp) → exp_ink (exp_at s (e.Tuple es)) ≡ exp_layer (ExpForm-F.Tuple (map exp_ink es))
ink-Tuple s es = ap (λ x. exp_ink (exp_at s x)) (sym (e.rolls-Tuple es)) ∙ (fold-roll-Exp Forms Ink Forms Forms Ink RuleInk dec_layer exp_layer piece_layer (λ d. d.form) (λ e. e.form) rule_layer (record { span = s; form = roll-ExpForm (ExpForm-F.Tuple es) }) ∙ fold-roll-ExpForm Forms Ink Forms Forms Ink RuleInk dec_layer exp_layer piece_layer (λ d. d.form) (λ e. e.form) rule_layer (ExpForm-F.Tuple es))

pub ink-List : (s : Span) (es : List Exp) → exp_ink (exp_at s (e.List es)) ≡ exp_layer (ExpForm-F.List (map exp_ink es))
ink-List s es = ap (λ x. exp_ink (exp_at s x)) (sym (e.rolls-List es)) ∙ (fold-roll-Exp Forms Ink Forms Forms Ink RuleInk dec_layer exp_layer piece_layer (λ d. d.form) (λ e. e.form) rule_layer (record { span = s; form = roll-ExpForm (ExpForm-F.List es) }) ∙ fold-roll-ExpForm Forms Ink Forms Forms Ink RuleInk dec_layer exp_layer piece_layer (λ d. d.form) (λ e. e.form) rule_layer (ExpForm-F.List es))

pub ink-Seq : (s : Span) (es : List Exp) → exp_ink (exp_at s (e.Seq es)) ≡ exp_layer (ExpForm-F.Seq (map exp_ink es))
ink-Seq s es = ap (λ x. exp_ink (exp_at s x)) (sym (e.rolls-Seq es)) ∙ (fold-roll-Exp Forms Ink Forms Forms Ink RuleInk dec_layer exp_layer piece_layer (λ d. d.form) (λ e. e.form) rule_layer (record { span = s; form = roll-ExpForm (ExpForm-F.Seq es) }) ∙ fold-roll-ExpForm Forms Ink Forms Forms Ink RuleInk dec_layer exp_layer piece_layer (λ d. d.form) (λ e. e.form) rule_layer (ExpForm-F.Seq es))

pub ink-App : (s : Span) (x : Exp) (y : Exp) → exp_ink (exp_at s (e.App x y)) ≡ exp_layer (ExpForm-F.App (exp_ink x) (exp_ink y))
ink-App s x y = ap (λ x. exp_ink (exp_at s x)) (sym (e.rolls-App x y)) ∙ (fold-roll-Exp Forms Ink Forms Forms Ink RuleInk dec_layer exp_layer piece_layer (λ d. d.form) (λ e. e.form) rule_layer (record { span = s; form = roll-ExpForm (ExpForm-F.App x y) }) ∙ fold-roll-ExpForm Forms Ink Forms Forms Ink RuleInk dec_layer exp_layer piece_layer (λ d. d.form) (λ e. e.form) rule_layer (ExpForm-F.App x y))

pub ink-Let : (s : Span) (ds : List Dec) (es : List Exp) → exp_ink (exp_at s (e.Let ds es)) ≡ exp_layer (ExpForm-F.Let (map dec_forms ds) (map exp_ink es))
ink-Let s ds es = ap (λ x. exp_ink (exp_at s x)) (sym (e.rolls-Let ds es)) ∙ (fold-roll-Exp Forms Ink Forms Forms Ink RuleInk dec_layer exp_layer piece_layer (λ d. d.form) (λ e. e.form) rule_layer (record { span = s; form = roll-ExpForm (ExpForm-F.Let ds es) }) ∙ fold-roll-ExpForm Forms Ink Forms Forms Ink RuleInk dec_layer exp_layer piece_layer (λ d. d.form) (λ e. e.form) rule_layer (ExpForm-F.Let ds es))

pub ink-Fn : (s : Span) (rs : List Rule) → exp_ink (exp_at s (e.Fn rs)) ≡ exp_layer (ExpForm-F.Fn (map rule_ink rs))
ink-Fn s rs = ap (λ x. exp_ink (exp_at s x)) (sym (e.rolls-Fn rs)) ∙ (fold-roll-Exp Forms Ink Forms Forms Ink RuleInk dec_layer exp_layer piece_layer (λ d. d.form) (λ e. e.form) rule_layer (record { span = s; form = roll-ExpForm (ExpForm-F.Fn rs) }) ∙ fold-roll-ExpForm Forms Ink Forms Forms Ink RuleInk dec_layer exp_layer piece_layer (λ d. d.form) (λ e. e.form) rule_layer (ExpForm-F.Fn rs))

pub ink-Case : (s : Span) (x : Exp) (rs : List Rule) → exp_ink (exp_at s (e.Case x rs)) ≡ exp_layer (ExpForm-F.Case (exp_ink x) (map rule_ink rs))
ink-Case s x rs = ap (λ x. exp_ink (exp_at s x)) (sym (e.rolls-Case x rs)) ∙ (fold-roll-Exp Forms Ink Forms Forms Ink RuleInk dec_layer exp_layer piece_layer (λ d. d.form) (λ e. e.form) rule_layer (record { span = s; form = roll-ExpForm (ExpForm-F.Case x rs) }) ∙ fold-roll-ExpForm Forms Ink Forms Forms Ink RuleInk dec_layer exp_layer piece_layer (λ d. d.form) (λ e. e.form) rule_layer (ExpForm-F.Case x rs))

pub ink-Handle : (s : Span) (x : Exp) (rs : List Rule) → exp_ink (exp_at s (e.Handle x rs)) ≡ exp_layer (ExpForm-F.Handle (exp_ink x) (map rule_ink rs))
ink-Handle s x rs = ap (λ x. exp_ink (exp_at s x)) (sym (e.rolls-Handle x rs)) ∙ (fold-roll-Exp Forms Ink Forms Forms Ink RuleInk dec_layer exp_layer piece_layer (λ d. d.form) (λ e. e.form) rule_layer (record { span = s; form = roll-ExpForm (ExpForm-F.Handle x rs) }) ∙ fold-roll-ExpForm Forms Ink Forms Forms Ink RuleInk dec_layer exp_layer piece_layer (λ d. d.form) (λ e. e.form) rule_layer (ExpForm-F.Handle x rs))

pub ink-Raise : (s : Span) (x : Exp) → exp_ink (exp_at s (e.Raise x)) ≡ exp_layer (ExpForm-F.Raise (exp_ink x))
ink-Raise s x = ap (λ x. exp_ink (exp_at s x)) (sym (e.rolls-Raise x)) ∙ (fold-roll-Exp Forms Ink Forms Forms Ink RuleInk dec_layer exp_layer piece_layer (λ d. d.form) (λ e. e.form) rule_layer (record { span = s; form = roll-ExpForm (ExpForm-F.Raise x) }) ∙ fold-roll-ExpForm Forms Ink Forms Forms Ink RuleInk dec_layer exp_layer piece_layer (λ d. d.form) (λ e. e.form) rule_layer (ExpForm-F.Raise x))

pub ink-If : (s : Span) (x : Exp) (y : Exp) (z : Exp) → exp_ink (exp_at s (e.If x y z)) ≡ exp_layer (ExpForm-F.If (exp_ink x) (exp_ink y) (exp_ink z))
ink-If s x y z = ap (λ x. exp_ink (exp_at s x)) (sym (e.rolls-If x y z)) ∙ (fold-roll-Exp Forms Ink Forms Forms Ink RuleInk dec_layer exp_layer piece_layer (λ d. d.form) (λ e. e.form) rule_layer (record { span = s; form = roll-ExpForm (ExpForm-F.If x y z) }) ∙ fold-roll-ExpForm Forms Ink Forms Forms Ink RuleInk dec_layer exp_layer piece_layer (λ d. d.form) (λ e. e.form) rule_layer (ExpForm-F.If x y z))

pub ink-Both : (s : Span) (x : Exp) (y : Exp) → exp_ink (exp_at s (e.Both x y)) ≡ exp_layer (ExpForm-F.Both (exp_ink x) (exp_ink y))
ink-Both s x y = ap (λ x. exp_ink (exp_at s x)) (sym (e.rolls-Both x y)) ∙ (fold-roll-Exp Forms Ink Forms Forms Ink RuleInk dec_layer exp_layer piece_layer (λ d. d.form) (λ e. e.form) rule_layer (record { span = s; form = roll-ExpForm (ExpForm-F.Both x y) }) ∙ fold-roll-ExpForm Forms Ink Forms Forms Ink RuleInk dec_layer exp_layer piece_layer (λ d. d.form) (λ e. e.form) rule_layer (ExpForm-F.Both x y))

pub ink-Either : (s : Span) (x : Exp) (y : Exp) → exp_ink (exp_at s (e.Either x y)) ≡ exp_layer (ExpForm-F.Either (exp_ink x) (exp_ink y))
ink-Either s x y = ap (λ x. exp_ink (exp_at s x)) (sym (e.rolls-Either x y)) ∙ (fold-roll-Exp Forms Ink Forms Forms Ink RuleInk dec_layer exp_layer piece_layer (λ d. d.form) (λ e. e.form) rule_layer (record { span = s; form = roll-ExpForm (ExpForm-F.Either x y) }) ∙ fold-roll-ExpForm Forms Ink Forms Forms Ink RuleInk dec_layer exp_layer piece_layer (λ d. d.form) (λ e. e.form) rule_layer (ExpForm-F.Either x y))

pub ink-Quote : (s : Span) (ps : List Piece) → exp_ink (exp_at s (e.Quote ps)) ≡ exp_layer (ExpForm-F.Quote (map piece_forms ps))
ink-Quote s ps = ap (λ x. exp_ink (exp_at s x)) (sym (e.rolls-Quote ps)) ∙ (fold-roll-Exp Forms Ink Forms Forms Ink RuleInk dec_layer exp_layer piece_layer (λ d. d.form) (λ e. e.form) rule_layer (record { span = s; form = roll-ExpForm (ExpForm-F.Quote ps) }) ∙ fold-roll-ExpForm Forms Ink Forms Forms Ink RuleInk dec_layer exp_layer piece_layer (λ d. d.form) (λ e. e.form) rule_layer (ExpForm-F.Quote ps))

pub ink-Typed : (s : Span) (x : Exp) (t : Ty) → exp_ink (exp_at s (e.Typed x t)) ≡ exp_layer (ExpForm-F.Typed (exp_ink x) t)
ink-Typed s x t = ap (λ x. exp_ink (exp_at s x)) (sym (e.rolls-Typed x t)) ∙ (fold-roll-Exp Forms Ink Forms Forms Ink RuleInk dec_layer exp_layer piece_layer (λ d. d.form) (λ e. e.form) rule_layer (record { span = s; form = roll-ExpForm (ExpForm-F.Typed x t) }) ∙ fold-roll-ExpForm Forms Ink Forms Forms Ink RuleInk dec_layer exp_layer piece_layer (λ d. d.form) (λ e. e.form) rule_layer (ExpForm-F.Typed x t))

pub pat-Any : (s : Span) → pat_ink (pat_at s p.Any) ≡ pat_layer PatForm-F.Any
pat-Any s = ap (λ x. pat_ink (pat_at s x)) (sym p.rolls-Any) ∙ (fold-roll-Pat PatInk PatInk pat_layer (λ q. q.form) (record { span = s; form = roll-PatForm PatForm-F.Any }) ∙ fold-roll-PatForm PatInk PatInk pat_layer (λ q. q.form) PatForm-F.Any)

pub form-Any : (s : Span) → form_of_pat (pat_at s p.Any) ≡ PatForm-F.Any
form-Any s = ap (λ r. out-PatForm r.form) (out-roll-Pat (record { span = s; form = p.Any })) ∙ (ap out-PatForm (sym p.rolls-Any) ∙ out-roll-PatForm PatForm-F.Any)

pub pat-Int : (s : Span) (n : ℤ) → pat_ink (pat_at s (p.Int n)) ≡ pat_layer (PatForm-F.Int n)
pat-Int s n = ap (λ x. pat_ink (pat_at s x)) (sym (p.rolls-Int n)) ∙ (fold-roll-Pat PatInk PatInk pat_layer (λ q. q.form) (record { span = s; form = roll-PatForm (PatForm-F.Int n) }) ∙ fold-roll-PatForm PatInk PatInk pat_layer (λ q. q.form) (PatForm-F.Int n))

pub form-Int : (s : Span) (n : ℤ) → form_of_pat (pat_at s (p.Int n)) ≡ (PatForm-F.Int n)
form-Int s n = ap (λ r. out-PatForm r.form) (out-roll-Pat (record { span = s; form = (p.Int n) })) ∙ (ap out-PatForm (sym (p.rolls-Int n)) ∙ out-roll-PatForm (PatForm-F.Int n))

pub pat-Char : (s : Span) (b : ℕ) → pat_ink (pat_at s (p.Char b)) ≡ pat_layer (PatForm-F.Char b)
pat-Char s b = ap (λ x. pat_ink (pat_at s x)) (sym (p.rolls-Char b)) ∙ (fold-roll-Pat PatInk PatInk pat_layer (λ q. q.form) (record { span = s; form = roll-PatForm (PatForm-F.Char b) }) ∙ fold-roll-PatForm PatInk PatInk pat_layer (λ q. q.form) (PatForm-F.Char b))

pub form-Char : (s : Span) (b : ℕ) → form_of_pat (pat_at s (p.Char b)) ≡ (PatForm-F.Char b)
form-Char s b = ap (λ r. out-PatForm r.form) (out-roll-Pat (record { span = s; form = (p.Char b) })) ∙ (ap out-PatForm (sym (p.rolls-Char b)) ∙ out-roll-PatForm (PatForm-F.Char b))

pub pat-Str : (s : Span) (w : List ℕ) → pat_ink (pat_at s (p.Str w)) ≡ pat_layer (PatForm-F.Str w)
pat-Str s w = ap (λ x. pat_ink (pat_at s x)) (sym (p.rolls-Str w)) ∙ (fold-roll-Pat PatInk PatInk pat_layer (λ q. q.form) (record { span = s; form = roll-PatForm (PatForm-F.Str w) }) ∙ fold-roll-PatForm PatInk PatInk pat_layer (λ q. q.form) (PatForm-F.Str w))

pub form-Str : (s : Span) (w : List ℕ) → form_of_pat (pat_at s (p.Str w)) ≡ (PatForm-F.Str w)
form-Str s w = ap (λ r. out-PatForm r.form) (out-roll-Pat (record { span = s; form = (p.Str w) })) ∙ (ap out-PatForm (sym (p.rolls-Str w)) ∙ out-roll-PatForm (PatForm-F.Str w))

pub pat-Unit : (s : Span) → pat_ink (pat_at s p.Unit) ≡ pat_layer PatForm-F.Unit
pat-Unit s = ap (λ x. pat_ink (pat_at s x)) (sym p.rolls-Unit) ∙ (fold-roll-Pat PatInk PatInk pat_layer (λ q. q.form) (record { span = s; form = roll-PatForm PatForm-F.Unit }) ∙ fold-roll-PatForm PatInk PatInk pat_layer (λ q. q.form) PatForm-F.Unit)

pub form-Unit : (s : Span) → form_of_pat (pat_at s p.Unit) ≡ PatForm-F.Unit
form-Unit s = ap (λ r. out-PatForm r.form) (out-roll-Pat (record { span = s; form = p.Unit })) ∙ (ap out-PatForm (sym p.rolls-Unit) ∙ out-roll-PatForm PatForm-F.Unit)

pub pat-Name : (s : Span) (w : List ℕ) → pat_ink (pat_at s (p.Name w)) ≡ pat_layer (PatForm-F.Name w)
pat-Name s w = ap (λ x. pat_ink (pat_at s x)) (sym (p.rolls-Name w)) ∙ (fold-roll-Pat PatInk PatInk pat_layer (λ q. q.form) (record { span = s; form = roll-PatForm (PatForm-F.Name w) }) ∙ fold-roll-PatForm PatInk PatInk pat_layer (λ q. q.form) (PatForm-F.Name w))

pub form-Name : (s : Span) (w : List ℕ) → form_of_pat (pat_at s (p.Name w)) ≡ (PatForm-F.Name w)
form-Name s w = ap (λ r. out-PatForm r.form) (out-roll-Pat (record { span = s; form = (p.Name w) })) ∙ (ap out-PatForm (sym (p.rolls-Name w)) ∙ out-roll-PatForm (PatForm-F.Name w))

pub pat-Tuple : (s : Span) (ps : List Pat) → pat_ink (pat_at s (p.Tuple ps)) ≡ pat_layer (PatForm-F.Tuple (map pat_ink ps))
pat-Tuple s ps = ap (λ x. pat_ink (pat_at s x)) (sym (p.rolls-Tuple ps)) ∙ (fold-roll-Pat PatInk PatInk pat_layer (λ q. q.form) (record { span = s; form = roll-PatForm (PatForm-F.Tuple ps) }) ∙ fold-roll-PatForm PatInk PatInk pat_layer (λ q. q.form) (PatForm-F.Tuple ps))

pub form-Tuple : (s : Span) (ps : List Pat) → form_of_pat (pat_at s (p.Tuple ps)) ≡ (PatForm-F.Tuple ps)
form-Tuple s ps = ap (λ r. out-PatForm r.form) (out-roll-Pat (record { span = s; form = (p.Tuple ps) })) ∙ (ap out-PatForm (sym (p.rolls-Tuple ps)) ∙ out-roll-PatForm (PatForm-F.Tuple ps))

pub pat-List : (s : Span) (ps : List Pat) → pat_ink (pat_at s (p.List ps)) ≡ pat_layer (PatForm-F.List (map pat_ink ps))
pat-List s ps = ap (λ x. pat_ink (pat_at s x)) (sym (p.rolls-List ps)) ∙ (fold-roll-Pat PatInk PatInk pat_layer (λ q. q.form) (record { span = s; form = roll-PatForm (PatForm-F.List ps) }) ∙ fold-roll-PatForm PatInk PatInk pat_layer (λ q. q.form) (PatForm-F.List ps))

pub form-List : (s : Span) (ps : List Pat) → form_of_pat (pat_at s (p.List ps)) ≡ (PatForm-F.List ps)
form-List s ps = ap (λ r. out-PatForm r.form) (out-roll-Pat (record { span = s; form = (p.List ps) })) ∙ (ap out-PatForm (sym (p.rolls-List ps)) ∙ out-roll-PatForm (PatForm-F.List ps))

pub pat-Con : (s : Span) (w : List ℕ) (x : Pat) → pat_ink (pat_at s (p.Con w x)) ≡ pat_layer (PatForm-F.Con w (pat_ink x))
pat-Con s w x = ap (λ x. pat_ink (pat_at s x)) (sym (p.rolls-Con w x)) ∙ (fold-roll-Pat PatInk PatInk pat_layer (λ q. q.form) (record { span = s; form = roll-PatForm (PatForm-F.Con w x) }) ∙ fold-roll-PatForm PatInk PatInk pat_layer (λ q. q.form) (PatForm-F.Con w x))

pub form-Con : (s : Span) (w : List ℕ) (x : Pat) → form_of_pat (pat_at s (p.Con w x)) ≡ (PatForm-F.Con w x)
form-Con s w x = ap (λ r. out-PatForm r.form) (out-roll-Pat (record { span = s; form = (p.Con w x) })) ∙ (ap out-PatForm (sym (p.rolls-Con w x)) ∙ out-roll-PatForm (PatForm-F.Con w x))

pub pat-Typed : (s : Span) (x : Pat) (t : Ty) → pat_ink (pat_at s (p.Typed x t)) ≡ pat_layer (PatForm-F.Typed (pat_ink x) t)
pat-Typed s x t = ap (λ x. pat_ink (pat_at s x)) (sym (p.rolls-Typed x t)) ∙ (fold-roll-Pat PatInk PatInk pat_layer (λ q. q.form) (record { span = s; form = roll-PatForm (PatForm-F.Typed x t) }) ∙ fold-roll-PatForm PatInk PatInk pat_layer (λ q. q.form) (PatForm-F.Typed x t))

pub form-Typed : (s : Span) (x : Pat) (t : Ty) → form_of_pat (pat_at s (p.Typed x t)) ≡ (PatForm-F.Typed x t)
form-Typed s x t = ap (λ r. out-PatForm r.form) (out-roll-Pat (record { span = s; form = (p.Typed x t) })) ∙ (ap out-PatForm (sym (p.rolls-Typed x t)) ∙ out-roll-PatForm (PatForm-F.Typed x t))

pub ty-Var : (s : Span) (w : List ℕ) → ty_part (ty_at s (t.Var w)) ≡ ty_layer (TyForm-F.Var w)
ty-Var s w = ap (λ x. ty_part (ty_at s x)) (sym (t.rolls-Var w)) ∙ (fold-roll-Ty Part Part ty_layer (λ q. q.form) (record { span = s; form = roll-TyForm (TyForm-F.Var w) }) ∙ fold-roll-TyForm Part Part ty_layer (λ q. q.form) (TyForm-F.Var w))

pub ty-Con : (s : Span) (w : List ℕ) (ts : List Ty) → ty_part (ty_at s (t.Con w ts)) ≡ ty_layer (TyForm-F.Con w (map ty_part ts))
ty-Con s w ts = ap (λ x. ty_part (ty_at s x)) (sym (t.rolls-Con w ts)) ∙ (fold-roll-Ty Part Part ty_layer (λ q. q.form) (record { span = s; form = roll-TyForm (TyForm-F.Con w ts) }) ∙ fold-roll-TyForm Part Part ty_layer (λ q. q.form) (TyForm-F.Con w ts))

pub ty-Tuple : (s : Span) (ts : List Ty) → ty_part (ty_at s (t.Tuple ts)) ≡ ty_layer (TyForm-F.Tuple (map ty_part ts))
ty-Tuple s ts = ap (λ x. ty_part (ty_at s x)) (sym (t.rolls-Tuple ts)) ∙ (fold-roll-Ty Part Part ty_layer (λ q. q.form) (record { span = s; form = roll-TyForm (TyForm-F.Tuple ts) }) ∙ fold-roll-TyForm Part Part ty_layer (λ q. q.form) (TyForm-F.Tuple ts))

pub ty-Arrow : (s : Span) (x : Ty) (y : Ty) → ty_part (ty_at s (t.Arrow x y)) ≡ ty_layer (TyForm-F.Arrow (ty_part x) (ty_part y))
ty-Arrow s x y = ap (λ x. ty_part (ty_at s x)) (sym (t.rolls-Arrow x y)) ∙ (fold-roll-Ty Part Part ty_layer (λ q. q.form) (record { span = s; form = roll-TyForm (TyForm-F.Arrow x y) }) ∙ fold-roll-TyForm Part Part ty_layer (λ q. q.form) (TyForm-F.Arrow x y))

pub ink-rule : (q : Pat) (x : Exp) → rule_ink (rule_of q x) ≡ record { pat = q; body = exp_ink x }
ink-rule q x = fold-roll-Rule Forms Ink Forms Forms Ink RuleInk dec_layer exp_layer piece_layer (λ d. d.form) (λ e. e.form) rule_layer (record { pat = q; body = x })

pub piece-Plain : (w : List ℕ) → piece_forms (piece.Plain w) ≡ piece_layer (Piece-F.Plain w)
piece-Plain w = ap piece_forms (sym (piece.rolls-Plain w)) ∙ fold-roll-Piece Forms Ink Forms Forms Ink RuleInk dec_layer exp_layer piece_layer (λ d. d.form) (λ e. e.form) rule_layer (Piece-F.Plain w)

pub piece-Anti : (x : Exp) → piece_forms (piece.Anti x) ≡ piece_layer (Piece-F.Anti (exp_ink x))
piece-Anti x = ap piece_forms (sym (piece.rolls-Anti x)) ∙ fold-roll-Piece Forms Ink Forms Forms Ink RuleInk dec_layer exp_layer piece_layer (λ d. d.form) (λ e. e.form) rule_layer (Piece-F.Anti x)

pub dec-Val : (s : Span) (bs : List (Pat × Exp)) → dec_forms (dec_at s (d.Val bs)) ≡ dec_layer (DecForm-F.Val (map (λ b. (b.0, exp_ink b.1)) bs))
dec-Val s bs = ap (λ x. dec_forms (dec_at s x)) (sym (d.rolls-Val bs)) ∙ (fold-roll-Dec Forms Ink Forms Forms Ink RuleInk dec_layer exp_layer piece_layer (λ d. d.form) (λ e. e.form) rule_layer (record { span = s; form = roll-DecForm (DecForm-F.Val bs) }) ∙ fold-roll-DecForm Forms Ink Forms Forms Ink RuleInk dec_layer exp_layer piece_layer (λ d. d.form) (λ e. e.form) rule_layer (DecForm-F.Val bs))

pub dec-ValRec : (s : Span) (fs : List (List ℕ × List Rule)) → dec_forms (dec_at s (d.ValRec fs)) ≡ dec_layer (DecForm-F.ValRec (map (λ f. (f.0, map rule_ink f.1)) fs))
dec-ValRec s fs = ap (λ x. dec_forms (dec_at s x)) (sym (d.rolls-ValRec fs)) ∙ (fold-roll-Dec Forms Ink Forms Forms Ink RuleInk dec_layer exp_layer piece_layer (λ d. d.form) (λ e. e.form) rule_layer (record { span = s; form = roll-DecForm (DecForm-F.ValRec fs) }) ∙ fold-roll-DecForm Forms Ink Forms Forms Ink RuleInk dec_layer exp_layer piece_layer (λ d. d.form) (λ e. e.form) rule_layer (DecForm-F.ValRec fs))

pub dec-Abbrev : (s : Span) (xs : List (List (List ℕ) × List ℕ × Ty)) → dec_forms (dec_at s (d.Abbrev xs)) ≡ dec_layer (DecForm-F.Abbrev xs)
dec-Abbrev s xs = ap (λ x. dec_forms (dec_at s x)) (sym (d.rolls-Abbrev xs)) ∙ (fold-roll-Dec Forms Ink Forms Forms Ink RuleInk dec_layer exp_layer piece_layer (λ d. d.form) (λ e. e.form) rule_layer (record { span = s; form = roll-DecForm (DecForm-F.Abbrev xs) }) ∙ fold-roll-DecForm Forms Ink Forms Forms Ink RuleInk dec_layer exp_layer piece_layer (λ d. d.form) (λ e. e.form) rule_layer (DecForm-F.Abbrev xs))

pub dec-DataDef : (s : Span) (xs : List (List (List ℕ) × List ℕ × List (List ℕ × Option Ty))) → dec_forms (dec_at s (d.DataDef xs)) ≡ dec_layer (DecForm-F.DataDef xs)
dec-DataDef s xs = ap (λ x. dec_forms (dec_at s x)) (sym (d.rolls-DataDef xs)) ∙ (fold-roll-Dec Forms Ink Forms Forms Ink RuleInk dec_layer exp_layer piece_layer (λ d. d.form) (λ e. e.form) rule_layer (record { span = s; form = roll-DecForm (DecForm-F.DataDef xs) }) ∙ fold-roll-DecForm Forms Ink Forms Forms Ink RuleInk dec_layer exp_layer piece_layer (λ d. d.form) (λ e. e.form) rule_layer (DecForm-F.DataDef xs))

pub dec-ExnDef : (s : Span) (xs : List (List ℕ × Option Ty)) → dec_forms (dec_at s (d.ExnDef xs)) ≡ dec_layer (DecForm-F.ExnDef xs)
dec-ExnDef s xs = ap (λ x. dec_forms (dec_at s x)) (sym (d.rolls-ExnDef xs)) ∙ (fold-roll-Dec Forms Ink Forms Forms Ink RuleInk dec_layer exp_layer piece_layer (λ d. d.form) (λ e. e.form) rule_layer (record { span = s; form = roll-DecForm (DecForm-F.ExnDef xs) }) ∙ fold-roll-DecForm Forms Ink Forms Forms Ink RuleInk dec_layer exp_layer piece_layer (λ d. d.form) (λ e. e.form) rule_layer (DecForm-F.ExnDef xs))

pub dec-Local : (s : Span) (ds : List Dec) (es : List Dec) → dec_forms (dec_at s (d.Local ds es)) ≡ dec_layer (DecForm-F.Local (map dec_forms ds) (map dec_forms es))
dec-Local s ds es = ap (λ x. dec_forms (dec_at s x)) (sym (d.rolls-Local ds es)) ∙ (fold-roll-Dec Forms Ink Forms Forms Ink RuleInk dec_layer exp_layer piece_layer (λ d. d.form) (λ e. e.form) rule_layer (record { span = s; form = roll-DecForm (DecForm-F.Local ds es) }) ∙ fold-roll-DecForm Forms Ink Forms Forms Ink RuleInk dec_layer exp_layer piece_layer (λ d. d.form) (λ e. e.form) rule_layer (DecForm-F.Local ds es))
