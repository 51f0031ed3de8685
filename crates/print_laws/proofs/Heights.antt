-- Trees that are the same, spans aside, have the same height.
use Rattle.std.proofs.Common.{◌≡◌, ℕ, ℤ, zero, suc, List, Option, ap, sym, subst, ◌∙◌}
use Rattle.sml_syntax.specs.declared.tree.Span.{Span}
use Rattle.sml_syntax.specs.declared.tree.Ty.{Ty}
use Rattle.sml_syntax.specs.declared.tree.TyForm.TheOpen.{TyForm-F}
use Rattle.sml_syntax.specs.declared.tree.Pat.{Pat}
use Rattle.sml_syntax.specs.declared.tree.PatForm.TheOpen.{PatForm-F}
use Rattle.sml_syntax.specs.declared.tree.Exp.{Exp}
use Rattle.sml_syntax.specs.declared.tree.ExpForm.{out-ExpForm}
use Rattle.sml_syntax.specs.declared.tree.ExpForm.TheVariants as e
use Rattle.sml_syntax.specs.declared.tree.Rule.{Rule}
use Rattle.sml_syntax.specs.declared.tree.Piece.{Piece, out-Piece}
use Rattle.sml_syntax.specs.declared.tree.Piece.TheVariants as piece
use Rattle.sml_syntax.specs.declared.tree.Dec.{Dec}
use Rattle.sml_syntax.specs.declared.tree.DecForm.{out-DecForm}
use Rattle.sml_syntax.specs.declared.tree.DecForm.TheVariants as d
use Rattle.sml_syntax.specs.declared.tree.DecForm.TheOpen.{DecForm-F, ExpForm-F, Piece-F}
use Rattle.sml_syntax.specs.declared.tree.DecForm.TheViews.{out-roll-Exp, out-roll-ExpForm, out-roll-Rule, out-roll-Piece, out-roll-Dec, out-roll-DecForm}
use Rattle.sml_syntax.specs.declared.tree.PatForm.TheVariants as p
use Rattle.sml_syntax.specs.declared.tree.TyForm.TheVariants as t
use Rattle.sml_syntax.specs.Layers.{ExpLayer, DecLayer, PatLayer, form_of_exp, form_of_dec, form_of_pat}
use Rattle.sml_syntax.specs.NestedTypes.{TyLayer, form_of_ty}
use Rattle.grammar_rules.specs.Nodes.{exp_at, pat_at, ty_at, dec_at, rule_of}
use Rattle.grammar_rules.specs.Programs.{Each, TyFits, TyFormFits, PatFits, PatFormFits, RuleFits, PieceFits, ArgumentFits, ExpFits, ExpFormFits, DecFits, DecFormFits}
use Rattle.grammar_rules.specs.Grammar.{Tree, exp_tree, exps_tree, rule_tree, rules_tree, text_tree, pieces_tree, name_tree, pat_tree, pats_tree, ty_tree, tys_tree, vars_tree, dec_tree, decs_tree, binds_tree, recs_tree, abbrevs_tree, cons_tree, datas_tree}
use Rattle.print_laws.specs.SameTree.{Same, same_int, same_char, same_str, same_name, same_unit, same_tuple, same_list, same_seq, same_app, same_let, same_fn, same_case, same_handle, same_raise, same_if, same_both, same_either, same_quote, same_typed, no_exps, more_exps, same_rule, no_rules, more_rules, no_pieces, plain_piece, anti_piece, same_any, same_pat_int, same_pat_char, same_pat_str, same_pat_unit, same_pat_name, same_pat_tuple, same_pat_list, same_pat_con, same_pat_typed, no_pats, more_pats, same_var, same_con, same_ty_tuple, same_arrow, no_tys, more_tys, same_val, same_rec, same_abbrev, same_data, same_exn, same_local, no_decs, more_decs, no_binds, more_binds, no_recs, more_recs, no_abbrevs, more_abbrevs, no_cons, more_cons, more_cons_of, no_datas, more_datas}
use Rattle.print_laws.specs.ReadBack.{SameHeights}
use Rattle.print_laws.proofs.Made as patterns
use Rattle.print_laws.proofs.Nested as types

-- the form of an expression, and of a declaration
exp_is-Int : (s : Span) (n : ℤ) → form_of_exp (exp_at s (e.Int n)) ≡ ExpForm-F.Int n
exp_is-Int s n = ap (λ r. out-ExpForm r.form) (out-roll-Exp (record { span = s; form = e.Int n })) ∙ (ap out-ExpForm (sym (e.rolls-Int n)) ∙ out-roll-ExpForm (ExpForm-F.Int n))

exp_is-Char : (s : Span) (b : ℕ) → form_of_exp (exp_at s (e.Char b)) ≡ ExpForm-F.Char b
exp_is-Char s b = ap (λ r. out-ExpForm r.form) (out-roll-Exp (record { span = s; form = e.Char b })) ∙ (ap out-ExpForm (sym (e.rolls-Char b)) ∙ out-roll-ExpForm (ExpForm-F.Char b))

exp_is-Str : (s : Span) (w : List ℕ) → form_of_exp (exp_at s (e.Str w)) ≡ ExpForm-F.Str w
exp_is-Str s w = ap (λ r. out-ExpForm r.form) (out-roll-Exp (record { span = s; form = e.Str w })) ∙ (ap out-ExpForm (sym (e.rolls-Str w)) ∙ out-roll-ExpForm (ExpForm-F.Str w))

exp_is-Name : (s : Span) (w : List ℕ) → form_of_exp (exp_at s (e.Name w)) ≡ ExpForm-F.Name w
exp_is-Name s w = ap (λ r. out-ExpForm r.form) (out-roll-Exp (record { span = s; form = e.Name w })) ∙ (ap out-ExpForm (sym (e.rolls-Name w)) ∙ out-roll-ExpForm (ExpForm-F.Name w))

exp_is-Unit : (s : Span) → form_of_exp (exp_at s e.Unit) ≡ ExpForm-F.Unit
exp_is-Unit s = ap (λ r. out-ExpForm r.form) (out-roll-Exp (record { span = s; form = e.Unit })) ∙ (ap out-ExpForm (sym e.rolls-Unit) ∙ out-roll-ExpForm ExpForm-F.Unit)

exp_is-Tuple : (s : Span) (xs : List Exp) → form_of_exp (exp_at s (e.Tuple xs)) ≡ ExpForm-F.Tuple xs
exp_is-Tuple s xs = ap (λ r. out-ExpForm r.form) (out-roll-Exp (record { span = s; form = e.Tuple xs })) ∙ (ap out-ExpForm (sym (e.rolls-Tuple xs)) ∙ out-roll-ExpForm (ExpForm-F.Tuple xs))

exp_is-List : (s : Span) (xs : List Exp) → form_of_exp (exp_at s (e.List xs)) ≡ ExpForm-F.List xs
exp_is-List s xs = ap (λ r. out-ExpForm r.form) (out-roll-Exp (record { span = s; form = e.List xs })) ∙ (ap out-ExpForm (sym (e.rolls-List xs)) ∙ out-roll-ExpForm (ExpForm-F.List xs))

exp_is-Seq : (s : Span) (xs : List Exp) → form_of_exp (exp_at s (e.Seq xs)) ≡ ExpForm-F.Seq xs
exp_is-Seq s xs = ap (λ r. out-ExpForm r.form) (out-roll-Exp (record { span = s; form = e.Seq xs })) ∙ (ap out-ExpForm (sym (e.rolls-Seq xs)) ∙ out-roll-ExpForm (ExpForm-F.Seq xs))

exp_is-App : (s : Span) (x y : Exp) → form_of_exp (exp_at s (e.App x y)) ≡ ExpForm-F.App x y
exp_is-App s x y = ap (λ r. out-ExpForm r.form) (out-roll-Exp (record { span = s; form = e.App x y })) ∙ (ap out-ExpForm (sym (e.rolls-App x y)) ∙ out-roll-ExpForm (ExpForm-F.App x y))

exp_is-Let : (s : Span) (ds : List Dec) (xs : List Exp) → form_of_exp (exp_at s (e.Let ds xs)) ≡ ExpForm-F.Let ds xs
exp_is-Let s ds xs = ap (λ r. out-ExpForm r.form) (out-roll-Exp (record { span = s; form = e.Let ds xs })) ∙ (ap out-ExpForm (sym (e.rolls-Let ds xs)) ∙ out-roll-ExpForm (ExpForm-F.Let ds xs))

exp_is-Fn : (s : Span) (rs : List Rule) → form_of_exp (exp_at s (e.Fn rs)) ≡ ExpForm-F.Fn rs
exp_is-Fn s rs = ap (λ r. out-ExpForm r.form) (out-roll-Exp (record { span = s; form = e.Fn rs })) ∙ (ap out-ExpForm (sym (e.rolls-Fn rs)) ∙ out-roll-ExpForm (ExpForm-F.Fn rs))

exp_is-Case : (s : Span) (x : Exp) (rs : List Rule) → form_of_exp (exp_at s (e.Case x rs)) ≡ ExpForm-F.Case x rs
exp_is-Case s x rs = ap (λ r. out-ExpForm r.form) (out-roll-Exp (record { span = s; form = e.Case x rs })) ∙ (ap out-ExpForm (sym (e.rolls-Case x rs)) ∙ out-roll-ExpForm (ExpForm-F.Case x rs))

exp_is-Handle : (s : Span) (x : Exp) (rs : List Rule) → form_of_exp (exp_at s (e.Handle x rs)) ≡ ExpForm-F.Handle x rs
exp_is-Handle s x rs = ap (λ r. out-ExpForm r.form) (out-roll-Exp (record { span = s; form = e.Handle x rs })) ∙ (ap out-ExpForm (sym (e.rolls-Handle x rs)) ∙ out-roll-ExpForm (ExpForm-F.Handle x rs))

exp_is-Raise : (s : Span) (x : Exp) → form_of_exp (exp_at s (e.Raise x)) ≡ ExpForm-F.Raise x
exp_is-Raise s x = ap (λ r. out-ExpForm r.form) (out-roll-Exp (record { span = s; form = e.Raise x })) ∙ (ap out-ExpForm (sym (e.rolls-Raise x)) ∙ out-roll-ExpForm (ExpForm-F.Raise x))

exp_is-If : (s : Span) (x y z : Exp) → form_of_exp (exp_at s (e.If x y z)) ≡ ExpForm-F.If x y z
exp_is-If s x y z = ap (λ r. out-ExpForm r.form) (out-roll-Exp (record { span = s; form = e.If x y z })) ∙ (ap out-ExpForm (sym (e.rolls-If x y z)) ∙ out-roll-ExpForm (ExpForm-F.If x y z))

exp_is-Both : (s : Span) (x y : Exp) → form_of_exp (exp_at s (e.Both x y)) ≡ ExpForm-F.Both x y
exp_is-Both s x y = ap (λ r. out-ExpForm r.form) (out-roll-Exp (record { span = s; form = e.Both x y })) ∙ (ap out-ExpForm (sym (e.rolls-Both x y)) ∙ out-roll-ExpForm (ExpForm-F.Both x y))

exp_is-Either : (s : Span) (x y : Exp) → form_of_exp (exp_at s (e.Either x y)) ≡ ExpForm-F.Either x y
exp_is-Either s x y = ap (λ r. out-ExpForm r.form) (out-roll-Exp (record { span = s; form = e.Either x y })) ∙ (ap out-ExpForm (sym (e.rolls-Either x y)) ∙ out-roll-ExpForm (ExpForm-F.Either x y))

exp_is-Quote : (s : Span) (ps : List Piece) → form_of_exp (exp_at s (e.Quote ps)) ≡ ExpForm-F.Quote ps
exp_is-Quote s ps = ap (λ r. out-ExpForm r.form) (out-roll-Exp (record { span = s; form = e.Quote ps })) ∙ (ap out-ExpForm (sym (e.rolls-Quote ps)) ∙ out-roll-ExpForm (ExpForm-F.Quote ps))

exp_is-Typed : (s : Span) (x : Exp) (u : Ty) → form_of_exp (exp_at s (e.Typed x u)) ≡ ExpForm-F.Typed x u
exp_is-Typed s x u = ap (λ r. out-ExpForm r.form) (out-roll-Exp (record { span = s; form = e.Typed x u })) ∙ (ap out-ExpForm (sym (e.rolls-Typed x u)) ∙ out-roll-ExpForm (ExpForm-F.Typed x u))

dec_is-Val : (s : Span) (xs : List (Pat × Exp)) → form_of_dec (dec_at s (d.Val xs)) ≡ DecForm-F.Val xs
dec_is-Val s xs = ap (λ r. out-DecForm r.form) (out-roll-Dec (record { span = s; form = d.Val xs })) ∙ (ap out-DecForm (sym (d.rolls-Val xs)) ∙ out-roll-DecForm (DecForm-F.Val xs))

dec_is-ValRec : (s : Span) (xs : List (List ℕ × List Rule)) → form_of_dec (dec_at s (d.ValRec xs)) ≡ DecForm-F.ValRec xs
dec_is-ValRec s xs = ap (λ r. out-DecForm r.form) (out-roll-Dec (record { span = s; form = d.ValRec xs })) ∙ (ap out-DecForm (sym (d.rolls-ValRec xs)) ∙ out-roll-DecForm (DecForm-F.ValRec xs))

dec_is-Abbrev : (s : Span) (xs : List (List (List ℕ) × List ℕ × Ty)) → form_of_dec (dec_at s (d.Abbrev xs)) ≡ DecForm-F.Abbrev xs
dec_is-Abbrev s xs = ap (λ r. out-DecForm r.form) (out-roll-Dec (record { span = s; form = d.Abbrev xs })) ∙ (ap out-DecForm (sym (d.rolls-Abbrev xs)) ∙ out-roll-DecForm (DecForm-F.Abbrev xs))

dec_is-DataDef : (s : Span) (xs : List (List (List ℕ) × List ℕ × List (List ℕ × Option Ty))) → form_of_dec (dec_at s (d.DataDef xs)) ≡ DecForm-F.DataDef xs
dec_is-DataDef s xs = ap (λ r. out-DecForm r.form) (out-roll-Dec (record { span = s; form = d.DataDef xs })) ∙ (ap out-DecForm (sym (d.rolls-DataDef xs)) ∙ out-roll-DecForm (DecForm-F.DataDef xs))

dec_is-ExnDef : (s : Span) (xs : List (List ℕ × Option Ty)) → form_of_dec (dec_at s (d.ExnDef xs)) ≡ DecForm-F.ExnDef xs
dec_is-ExnDef s xs = ap (λ r. out-DecForm r.form) (out-roll-Dec (record { span = s; form = d.ExnDef xs })) ∙ (ap out-DecForm (sym (d.rolls-ExnDef xs)) ∙ out-roll-DecForm (DecForm-F.ExnDef xs))

dec_is-Local : (s : Span) (xs ys : List Dec) → form_of_dec (dec_at s (d.Local xs ys)) ≡ DecForm-F.Local xs ys
dec_is-Local s xs ys = ap (λ r. out-DecForm r.form) (out-roll-Dec (record { span = s; form = d.Local xs ys })) ∙ (ap out-DecForm (sym (d.rolls-Local xs ys)) ∙ out-roll-DecForm (DecForm-F.Local xs ys))

-- the height of each kind of tree
abbrev Fits : ℕ → Tree → Type 0
Fits n (exp_tree x) = ExpFits n x
Fits n (exps_tree xs) = Each (ExpFits n) xs
Fits n (rule_tree r) = RuleFits n (ExpFits n) r
Fits n (rules_tree rs) = Each (RuleFits n (ExpFits n)) rs
Fits n (text_tree w) = Unit {0}
Fits n (pieces_tree ps) = Each (λ (q : Piece). PieceFits (ExpFits n) (out-Piece q)) ps
Fits n (name_tree k w) = Unit {0}
Fits n (pat_tree x) = PatFits n x
Fits n (pats_tree xs) = Each (PatFits n) xs
Fits n (ty_tree x) = TyFits n x
Fits n (tys_tree xs) = Each (TyFits n) xs
Fits n (vars_tree xs) = Unit {0}
Fits n (dec_tree x) = DecFits n x
Fits n (decs_tree xs) = Each (DecFits n) xs
Fits n (binds_tree xs) = Each (λ (b : Pat × Exp). PatFits n b.0 × ExpFits n b.1) xs
Fits n (recs_tree xs) = Each (λ (b : List ℕ × List Rule). Each (RuleFits n (ExpFits n)) b.1) xs
Fits n (abbrevs_tree xs) = Each (λ (b : List (List ℕ) × List ℕ × Ty). TyFits n b.2) xs
Fits n (cons_tree xs) = Each (λ (c : List ℕ × Option Ty). ArgumentFits n c.1) xs
Fits n (datas_tree xs) = Each (λ (b : List (List ℕ) × List ℕ × List (List ℕ × Option Ty)). Each (λ (c : List ℕ × Option Ty). ArgumentFits n c.1) b.2) xs

-- a node of one more than its parts
abbrev ExpParts : ℕ → ExpLayer → Type 0
ExpParts m = ExpFormFits m (ExpFits m) (DecFits m)

exp_node : (x y : Exp) (k l : ExpLayer) → form_of_exp x ≡ k → form_of_exp y ≡ l → ((m : ℕ) → ExpParts m k → ExpParts m l) → (n : ℕ) → ExpFits n x → ExpFits n y
exp_node x y k l f g h zero a = a
exp_node x y k l f g h (suc m) a = subst (ExpParts m) (sym g) (h m (subst (ExpParts m) f a))

abbrev DecParts : ℕ → DecLayer → Type 0
DecParts m = DecFormFits m (ExpFits m) (DecFits m)

dec_node : (x y : Dec) (k l : DecLayer) → form_of_dec x ≡ k → form_of_dec y ≡ l → ((m : ℕ) → DecParts m k → DecParts m l) → (n : ℕ) → DecFits n x → DecFits n y
dec_node x y k l f g h zero a = a
dec_node x y k l f g h (suc m) a = subst (DecParts m) (sym g) (h m (subst (DecParts m) f a))

abbrev PatParts : ℕ → PatLayer → Type 0
PatParts m = PatFormFits (PatFits m) (TyFits m)

pat_node : (x y : Pat) (k l : PatLayer) → form_of_pat x ≡ k → form_of_pat y ≡ l → ((m : ℕ) → PatParts m k → PatParts m l) → (n : ℕ) → PatFits n x → PatFits n y
pat_node x y k l f g h zero a = a
pat_node x y k l f g h (suc m) a = subst (PatParts m) (sym g) (h m (subst (PatParts m) f a))

abbrev TyParts : ℕ → TyLayer → Type 0
TyParts m = TyFormFits (TyFits m)

ty_node : (x y : Ty) (k l : TyLayer) → form_of_ty x ≡ k → form_of_ty y ≡ l → ((m : ℕ) → TyParts m k → TyParts m l) → (n : ℕ) → TyFits n x → TyFits n y
ty_node x y k l f g h zero a = a
ty_node x y k l f g h (suc m) a = subst (TyParts m) (sym g) (h m (subst (TyParts m) f a))

rule_into : (n : ℕ) (q : Pat) (x : Exp) → RuleFits n (ExpFits n) (rule_of q x) → PatFits n q × ExpFits n x
rule_into n q x h = subst (λ r. PatFits n r.pat × ExpFits n r.body) (out-roll-Rule (record { pat = q; body = x })) h

rule_from : (n : ℕ) (q : Pat) (x : Exp) → PatFits n q × ExpFits n x → RuleFits n (ExpFits n) (rule_of q x)
rule_from n q x h = subst (λ r. PatFits n r.pat × ExpFits n r.body) (sym (out-roll-Rule (record { pat = q; body = x }))) h

piece_is-Plain : (w : List ℕ) → out-Piece (piece.Plain w) ≡ Piece-F.Plain w
piece_is-Plain w = ap out-Piece (sym (piece.rolls-Plain w)) ∙ out-roll-Piece (Piece-F.Plain w)

piece_is-Anti : (x : Exp) → out-Piece (piece.Anti x) ≡ Piece-F.Anti x
piece_is-Anti x = ap out-Piece (sym (piece.rolls-Anti x)) ∙ out-roll-Piece (Piece-F.Anti x)

-- what fits one fits the other
fits : {a b : Tree} → Same a b → (n : ℕ) → Fits n a → Fits n b
fits (same_int s r n) = exp_node (exp_at s (e.Int n)) (exp_at r (e.Int n)) (ExpForm-F.Int n) (ExpForm-F.Int n) (exp_is-Int s n) (exp_is-Int r n) (λ m h. tt)
fits (same_char s r b) = exp_node (exp_at s (e.Char b)) (exp_at r (e.Char b)) (ExpForm-F.Char b) (ExpForm-F.Char b) (exp_is-Char s b) (exp_is-Char r b) (λ m h. tt)
fits (same_str s r text) = exp_node (exp_at s (e.Str text)) (exp_at r (e.Str text)) (ExpForm-F.Str text) (ExpForm-F.Str text) (exp_is-Str s text) (exp_is-Str r text) (λ m h. tt)
fits (same_name s r name) = exp_node (exp_at s (e.Name name)) (exp_at r (e.Name name)) (ExpForm-F.Name name) (ExpForm-F.Name name) (exp_is-Name s name) (exp_is-Name r name) (λ m h. tt)
fits (same_unit s r) = exp_node (exp_at s e.Unit) (exp_at r e.Unit) ExpForm-F.Unit ExpForm-F.Unit (exp_is-Unit s) (exp_is-Unit r) (λ m h. tt)
fits (same_tuple s r {a0 = a0} {b0 = b0} d0) = exp_node (exp_at s (e.Tuple a0)) (exp_at r (e.Tuple b0)) (ExpForm-F.Tuple a0) (ExpForm-F.Tuple b0) (exp_is-Tuple s a0) (exp_is-Tuple r b0) (λ m h. fits d0 m h)
fits (same_list s r {a0 = a0} {b0 = b0} d0) = exp_node (exp_at s (e.List a0)) (exp_at r (e.List b0)) (ExpForm-F.List a0) (ExpForm-F.List b0) (exp_is-List s a0) (exp_is-List r b0) (λ m h. fits d0 m h)
fits (same_seq s r {a0 = a0} {b0 = b0} d0) = exp_node (exp_at s (e.Seq a0)) (exp_at r (e.Seq b0)) (ExpForm-F.Seq a0) (ExpForm-F.Seq b0) (exp_is-Seq s a0) (exp_is-Seq r b0) (λ m h. fits d0 m h)
fits (same_app s r {a0 = a0} {b0 = b0} {a1 = a1} {b1 = b1} d0 d1) = exp_node (exp_at s (e.App a0 a1)) (exp_at r (e.App b0 b1)) (ExpForm-F.App a0 a1) (ExpForm-F.App b0 b1) (exp_is-App s a0 a1) (exp_is-App r b0 b1) (λ m h. (fits d0 m h.0, fits d1 m h.1))
fits (same_let s r {a0 = a0} {b0 = b0} {a1 = a1} {b1 = b1} d0 d1) = exp_node (exp_at s (e.Let a0 a1)) (exp_at r (e.Let b0 b1)) (ExpForm-F.Let a0 a1) (ExpForm-F.Let b0 b1) (exp_is-Let s a0 a1) (exp_is-Let r b0 b1) (λ m h. (fits d0 m h.0, fits d1 m h.1))
fits (same_fn s r {a0 = a0} {b0 = b0} d0) = exp_node (exp_at s (e.Fn a0)) (exp_at r (e.Fn b0)) (ExpForm-F.Fn a0) (ExpForm-F.Fn b0) (exp_is-Fn s a0) (exp_is-Fn r b0) (λ m h. fits d0 m h)
fits (same_case s r {a0 = a0} {b0 = b0} {a1 = a1} {b1 = b1} d0 d1) = exp_node (exp_at s (e.Case a0 a1)) (exp_at r (e.Case b0 b1)) (ExpForm-F.Case a0 a1) (ExpForm-F.Case b0 b1) (exp_is-Case s a0 a1) (exp_is-Case r b0 b1) (λ m h. (fits d0 m h.0, fits d1 m h.1))
fits (same_handle s r {a0 = a0} {b0 = b0} {a1 = a1} {b1 = b1} d0 d1) = exp_node (exp_at s (e.Handle a0 a1)) (exp_at r (e.Handle b0 b1)) (ExpForm-F.Handle a0 a1) (ExpForm-F.Handle b0 b1) (exp_is-Handle s a0 a1) (exp_is-Handle r b0 b1) (λ m h. (fits d0 m h.0, fits d1 m h.1))
fits (same_raise s r {a0 = a0} {b0 = b0} d0) = exp_node (exp_at s (e.Raise a0)) (exp_at r (e.Raise b0)) (ExpForm-F.Raise a0) (ExpForm-F.Raise b0) (exp_is-Raise s a0) (exp_is-Raise r b0) (λ m h. fits d0 m h)
fits (same_if s r {a0 = a0} {b0 = b0} {a1 = a1} {b1 = b1} {a2 = a2} {b2 = b2} d0 d1 d2) = exp_node (exp_at s (e.If a0 a1 a2)) (exp_at r (e.If b0 b1 b2)) (ExpForm-F.If a0 a1 a2) (ExpForm-F.If b0 b1 b2) (exp_is-If s a0 a1 a2) (exp_is-If r b0 b1 b2) (λ m h. (fits d0 m h.0, fits d1 m h.1, fits d2 m h.2))
fits (same_both s r {a0 = a0} {b0 = b0} {a1 = a1} {b1 = b1} d0 d1) = exp_node (exp_at s (e.Both a0 a1)) (exp_at r (e.Both b0 b1)) (ExpForm-F.Both a0 a1) (ExpForm-F.Both b0 b1) (exp_is-Both s a0 a1) (exp_is-Both r b0 b1) (λ m h. (fits d0 m h.0, fits d1 m h.1))
fits (same_either s r {a0 = a0} {b0 = b0} {a1 = a1} {b1 = b1} d0 d1) = exp_node (exp_at s (e.Either a0 a1)) (exp_at r (e.Either b0 b1)) (ExpForm-F.Either a0 a1) (ExpForm-F.Either b0 b1) (exp_is-Either s a0 a1) (exp_is-Either r b0 b1) (λ m h. (fits d0 m h.0, fits d1 m h.1))
fits (same_quote s r {a0 = a0} {b0 = b0} d0) = exp_node (exp_at s (e.Quote a0)) (exp_at r (e.Quote b0)) (ExpForm-F.Quote a0) (ExpForm-F.Quote b0) (exp_is-Quote s a0) (exp_is-Quote r b0) (λ m h. fits d0 m h)
fits (same_typed s r {a0 = a0} {b0 = b0} {a1 = a1} {b1 = b1} d0 d1) = exp_node (exp_at s (e.Typed a0 a1)) (exp_at r (e.Typed b0 b1)) (ExpForm-F.Typed a0 a1) (ExpForm-F.Typed b0 b1) (exp_is-Typed s a0 a1) (exp_is-Typed r b0 b1) (λ m h. (fits d0 m h.0, fits d1 m h.1))
fits no_exps = λ n h. h
fits (more_exps d0 d1) = λ n h. (fits d0 n h.0, fits d1 n h.1)
fits (same_rule {p = q} {q = r} {x = x} {y = y} d0 d1) = λ n h. let k = rule_into n q x h in rule_from n r y (fits d0 n k.0, fits d1 n k.1)
fits no_rules = λ n h. h
fits (more_rules d0 d1) = λ n h. (fits d0 n h.0, fits d1 n h.1)
fits no_pieces = λ n h. h
fits (plain_piece text d0) = λ n h. (subst (PieceFits (ExpFits n)) (sym (piece_is-Plain text)) tt, fits d0 n h.1)
fits (anti_piece {x = x} {y = y} d0 d1) = λ n h. (subst (PieceFits (ExpFits n)) (sym (piece_is-Anti y)) (fits d0 n (subst (PieceFits (ExpFits n)) (piece_is-Anti x) h.0)), fits d1 n h.1)
fits (same_any s r) = pat_node (pat_at s p.Any) (pat_at r p.Any) PatForm-F.Any PatForm-F.Any (patterns.form-Any s) (patterns.form-Any r) (λ m h. tt)
fits (same_pat_int s r n) = pat_node (pat_at s (p.Int n)) (pat_at r (p.Int n)) (PatForm-F.Int n) (PatForm-F.Int n) (patterns.form-Int s n) (patterns.form-Int r n) (λ m h. tt)
fits (same_pat_char s r b) = pat_node (pat_at s (p.Char b)) (pat_at r (p.Char b)) (PatForm-F.Char b) (PatForm-F.Char b) (patterns.form-Char s b) (patterns.form-Char r b) (λ m h. tt)
fits (same_pat_str s r text) = pat_node (pat_at s (p.Str text)) (pat_at r (p.Str text)) (PatForm-F.Str text) (PatForm-F.Str text) (patterns.form-Str s text) (patterns.form-Str r text) (λ m h. tt)
fits (same_pat_unit s r) = pat_node (pat_at s p.Unit) (pat_at r p.Unit) PatForm-F.Unit PatForm-F.Unit (patterns.form-Unit s) (patterns.form-Unit r) (λ m h. tt)
fits (same_pat_name s r name) = pat_node (pat_at s (p.Name name)) (pat_at r (p.Name name)) (PatForm-F.Name name) (PatForm-F.Name name) (patterns.form-Name s name) (patterns.form-Name r name) (λ m h. tt)
fits (same_pat_tuple s r {a0 = a0} {b0 = b0} d0) = pat_node (pat_at s (p.Tuple a0)) (pat_at r (p.Tuple b0)) (PatForm-F.Tuple a0) (PatForm-F.Tuple b0) (patterns.form-Tuple s a0) (patterns.form-Tuple r b0) (λ m h. fits d0 m h)
fits (same_pat_list s r {a0 = a0} {b0 = b0} d0) = pat_node (pat_at s (p.List a0)) (pat_at r (p.List b0)) (PatForm-F.List a0) (PatForm-F.List b0) (patterns.form-List s a0) (patterns.form-List r b0) (λ m h. fits d0 m h)
fits (same_pat_con s r name {a0 = a0} {b0 = b0} d0) = pat_node (pat_at s (p.Con name a0)) (pat_at r (p.Con name b0)) (PatForm-F.Con name a0) (PatForm-F.Con name b0) (patterns.form-Con s name a0) (patterns.form-Con r name b0) (λ m h. fits d0 m h)
fits (same_pat_typed s r {a0 = a0} {b0 = b0} {a1 = a1} {b1 = b1} d0 d1) = pat_node (pat_at s (p.Typed a0 a1)) (pat_at r (p.Typed b0 b1)) (PatForm-F.Typed a0 a1) (PatForm-F.Typed b0 b1) (patterns.form-Typed s a0 a1) (patterns.form-Typed r b0 b1) (λ m h. (fits d0 m h.0, fits d1 m h.1))
fits no_pats = λ n h. h
fits (more_pats d0 d1) = λ n h. (fits d0 n h.0, fits d1 n h.1)
fits (same_var s r name) = ty_node (ty_at s (t.Var name)) (ty_at r (t.Var name)) (TyForm-F.Var name) (TyForm-F.Var name) (types.form-Var s name) (types.form-Var r name) (λ m h. tt)
fits (same_con s r name {a0 = a0} {b0 = b0} d0) = ty_node (ty_at s (t.Con name a0)) (ty_at r (t.Con name b0)) (TyForm-F.Con name a0) (TyForm-F.Con name b0) (types.form-Con s name a0) (types.form-Con r name b0) (λ m h. fits d0 m h)
fits (same_ty_tuple s r {a0 = a0} {b0 = b0} d0) = ty_node (ty_at s (t.Tuple a0)) (ty_at r (t.Tuple b0)) (TyForm-F.Tuple a0) (TyForm-F.Tuple b0) (types.form-Tuple s a0) (types.form-Tuple r b0) (λ m h. fits d0 m h)
fits (same_arrow s r {a0 = a0} {b0 = b0} {a1 = a1} {b1 = b1} d0 d1) = ty_node (ty_at s (t.Arrow a0 a1)) (ty_at r (t.Arrow b0 b1)) (TyForm-F.Arrow a0 a1) (TyForm-F.Arrow b0 b1) (types.form-Arrow s a0 a1) (types.form-Arrow r b0 b1) (λ m h. (fits d0 m h.0, fits d1 m h.1))
fits no_tys = λ n h. h
fits (more_tys d0 d1) = λ n h. (fits d0 n h.0, fits d1 n h.1)
fits (same_val s r {a0 = a0} {b0 = b0} d0) = dec_node (dec_at s (d.Val a0)) (dec_at r (d.Val b0)) (DecForm-F.Val a0) (DecForm-F.Val b0) (dec_is-Val s a0) (dec_is-Val r b0) (λ m h. fits d0 m h)
fits (same_rec s r {a0 = a0} {b0 = b0} d0) = dec_node (dec_at s (d.ValRec a0)) (dec_at r (d.ValRec b0)) (DecForm-F.ValRec a0) (DecForm-F.ValRec b0) (dec_is-ValRec s a0) (dec_is-ValRec r b0) (λ m h. fits d0 m h)
fits (same_abbrev s r {a0 = a0} {b0 = b0} d0) = dec_node (dec_at s (d.Abbrev a0)) (dec_at r (d.Abbrev b0)) (DecForm-F.Abbrev a0) (DecForm-F.Abbrev b0) (dec_is-Abbrev s a0) (dec_is-Abbrev r b0) (λ m h. fits d0 m h)
fits (same_data s r {a0 = a0} {b0 = b0} d0) = dec_node (dec_at s (d.DataDef a0)) (dec_at r (d.DataDef b0)) (DecForm-F.DataDef a0) (DecForm-F.DataDef b0) (dec_is-DataDef s a0) (dec_is-DataDef r b0) (λ m h. fits d0 m h)
fits (same_exn s r {a0 = a0} {b0 = b0} d0) = dec_node (dec_at s (d.ExnDef a0)) (dec_at r (d.ExnDef b0)) (DecForm-F.ExnDef a0) (DecForm-F.ExnDef b0) (dec_is-ExnDef s a0) (dec_is-ExnDef r b0) (λ m h. fits d0 m h)
fits (same_local s r {a0 = a0} {b0 = b0} {a1 = a1} {b1 = b1} d0 d1) = dec_node (dec_at s (d.Local a0 a1)) (dec_at r (d.Local b0 b1)) (DecForm-F.Local a0 a1) (DecForm-F.Local b0 b1) (dec_is-Local s a0 a1) (dec_is-Local r b0 b1) (λ m h. (fits d0 m h.0, fits d1 m h.1))
fits no_decs = λ n h. h
fits (more_decs d0 d1) = λ n h. (fits d0 n h.0, fits d1 n h.1)
fits no_binds = λ n h. h
fits (more_binds d0 d1 d2) = λ n h. ((fits d0 n h.0.0, fits d1 n h.0.1), fits d2 n h.1)
fits no_recs = λ n h. h
fits (more_recs name d0 d1) = λ n h. (fits d0 n h.0, fits d1 n h.1)
fits no_abbrevs = λ n h. h
fits (more_abbrevs names name d0 d1) = λ n h. (fits d0 n h.0, fits d1 n h.1)
fits no_cons = λ n h. h
fits (more_cons name d0) = λ n h. (tt, fits d0 n h.1)
fits (more_cons_of name d0 d1) = λ n h. (fits d0 n h.0, fits d1 n h.1)
fits no_datas = λ n h. h
fits (more_datas names name d0 d1) = λ n h. (fits d0 n h.0, fits d1 n h.1)

-- the other way round
same_back : {a b : Tree} → Same a b → Same b a
same_back (same_int s r n) = same_int r s n
same_back (same_char s r b) = same_char r s b
same_back (same_str s r text) = same_str r s text
same_back (same_name s r name) = same_name r s name
same_back (same_unit s r) = same_unit r s
same_back (same_tuple s r d0) = same_tuple r s (same_back d0)
same_back (same_list s r d0) = same_list r s (same_back d0)
same_back (same_seq s r d0) = same_seq r s (same_back d0)
same_back (same_app s r d0 d1) = same_app r s (same_back d0) (same_back d1)
same_back (same_let s r d0 d1) = same_let r s (same_back d0) (same_back d1)
same_back (same_fn s r d0) = same_fn r s (same_back d0)
same_back (same_case s r d0 d1) = same_case r s (same_back d0) (same_back d1)
same_back (same_handle s r d0 d1) = same_handle r s (same_back d0) (same_back d1)
same_back (same_raise s r d0) = same_raise r s (same_back d0)
same_back (same_if s r d0 d1 d2) = same_if r s (same_back d0) (same_back d1) (same_back d2)
same_back (same_both s r d0 d1) = same_both r s (same_back d0) (same_back d1)
same_back (same_either s r d0 d1) = same_either r s (same_back d0) (same_back d1)
same_back (same_quote s r d0) = same_quote r s (same_back d0)
same_back (same_typed s r d0 d1) = same_typed r s (same_back d0) (same_back d1)
same_back no_exps = no_exps
same_back (more_exps d0 d1) = more_exps (same_back d0) (same_back d1)
same_back (same_rule d0 d1) = same_rule (same_back d0) (same_back d1)
same_back no_rules = no_rules
same_back (more_rules d0 d1) = more_rules (same_back d0) (same_back d1)
same_back no_pieces = no_pieces
same_back (plain_piece text d0) = plain_piece text (same_back d0)
same_back (anti_piece d0 d1) = anti_piece (same_back d0) (same_back d1)
same_back (same_any s r) = same_any r s
same_back (same_pat_int s r n) = same_pat_int r s n
same_back (same_pat_char s r b) = same_pat_char r s b
same_back (same_pat_str s r text) = same_pat_str r s text
same_back (same_pat_unit s r) = same_pat_unit r s
same_back (same_pat_name s r name) = same_pat_name r s name
same_back (same_pat_tuple s r d0) = same_pat_tuple r s (same_back d0)
same_back (same_pat_list s r d0) = same_pat_list r s (same_back d0)
same_back (same_pat_con s r name d0) = same_pat_con r s name (same_back d0)
same_back (same_pat_typed s r d0 d1) = same_pat_typed r s (same_back d0) (same_back d1)
same_back no_pats = no_pats
same_back (more_pats d0 d1) = more_pats (same_back d0) (same_back d1)
same_back (same_var s r name) = same_var r s name
same_back (same_con s r name d0) = same_con r s name (same_back d0)
same_back (same_ty_tuple s r d0) = same_ty_tuple r s (same_back d0)
same_back (same_arrow s r d0 d1) = same_arrow r s (same_back d0) (same_back d1)
same_back no_tys = no_tys
same_back (more_tys d0 d1) = more_tys (same_back d0) (same_back d1)
same_back (same_val s r d0) = same_val r s (same_back d0)
same_back (same_rec s r d0) = same_rec r s (same_back d0)
same_back (same_abbrev s r d0) = same_abbrev r s (same_back d0)
same_back (same_data s r d0) = same_data r s (same_back d0)
same_back (same_exn s r d0) = same_exn r s (same_back d0)
same_back (same_local s r d0 d1) = same_local r s (same_back d0) (same_back d1)
same_back no_decs = no_decs
same_back (more_decs d0 d1) = more_decs (same_back d0) (same_back d1)
same_back no_binds = no_binds
same_back (more_binds d0 d1 d2) = more_binds (same_back d0) (same_back d1) (same_back d2)
same_back no_recs = no_recs
same_back (more_recs name d0 d1) = more_recs name (same_back d0) (same_back d1)
same_back no_abbrevs = no_abbrevs
same_back (more_abbrevs names name d0 d1) = more_abbrevs names name (same_back d0) (same_back d1)
same_back no_cons = no_cons
same_back (more_cons name d0) = more_cons name (same_back d0)
same_back (more_cons_of name d0 d1) = more_cons_of name (same_back d0) (same_back d1)
same_back no_datas = no_datas
same_back (more_datas names name d0 d1) = more_datas names name (same_back d0) (same_back d1)

pub same_heights : SameHeights
same_heights x y e n = ((λ h. fits e n h), (λ h. fits (same_back e) n h))
