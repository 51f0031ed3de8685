-- The acts of a type: the one act of a variable, or acts that end with another one than a variable's.
use Rattle.std.proofs.Common.{◌≡◌, ℕ, List, [], ◌∷◌, ◌++◌, Bool, true, false, None, refl, ap, ◌∙◌, append_assoc, subst}
use Rattle.sml_syntax.specs.declared.token.Token.{Token}
use Rattle.sml_syntax.specs.declared.tree.Span.{Span}
use Rattle.sml_syntax.specs.declared.tree.Ty.{Ty}
use Rattle.sml_syntax.specs.declared.tree.TyForm.{TyForm, out-TyForm}
use Rattle.sml_syntax.specs.declared.tree.TyForm.TheVariants as tf
use Rattle.sml_syntax.specs.declared.tree.TyForm.TheOpen.{TyForm-F}
use Rattle.sml_syntax.specs.NestedTypes.{Found, TyLayer, form_of_ty, is_variable}
use Rattle.grammar_rules.specs.Nodes.{ty_at, span_of, extent, first_of, last_of}
use Rattle.grammar_rules.specs.Grammar as g
use Rattle.sml_grammar.specs.declared.act.Act.TheVariants as a
use Rattle.sml_grammar.specs.declared.act.TyAct.{TyAct}
use Rattle.sml_grammar.specs.declared.act.TyAct.TheVariants as y
use Rattle.sml_grammar.specs.declared.act.Made.{Made}
use Rattle.sml_grammar.specs.Machine.{made}
use Rattle.parse_limits.specs.Lacks.{var_of}
use Rattle.grammar_trees.specs.Tells as t
use Rattle.grammar_trees.specs.Tells.{Tells}
use Rattle.grammar_limits.specs.Nested.{Inside}
use Rattle.grammar_limits.proofs.Nodes as nodes

pub data Shape : Ty → List Made → Type 0 where
  variable : (x : Ty) (from to : ℕ) (name : List ℕ) → form_of_ty x ≡ TyForm-F.Var name → Shape x (made (a.Ty (y.Var from name)) to ∷ [])
  composed : (x : Ty) (before : List Made) (act : TyAct) (to : ℕ) → ((name : List ℕ) → is_variable name (form_of_ty x) ≡ false) → var_of (a.Ty act) ≡ None → Shape x (before ++ made (a.Ty act) to ∷ [])

-- what the acts of a tree look like
abbrev pub TreeShape : g.Tree → List Made → Type 0
TreeShape (g.ty_tree x) new = Shape x new
TreeShape tree new = Unit {0}

no-variable : (span : Span) (form : TyForm) (layer : TyLayer) → out-TyForm form ≡ layer → ((name : List ℕ) → is_variable name layer ≡ false) → (name : List ℕ) → is_variable name (form_of_ty (ty_at span form)) ≡ false
no-variable span form layer h p name = ap (is_variable name) (nodes.ty-opens form span h) ∙ p name

ends : (x : Ty) (n m : List Made) (act : TyAct) (to : ℕ) → ((name : List ℕ) → is_variable name (form_of_ty x) ≡ false) → var_of (a.Ty act) ≡ None → Shape x (n ++ (m ++ made (a.Ty act) to ∷ []))
ends x n m act to p e = subst (λ z. Shape x z) (append_assoc n m (made (a.Ty act) to ∷ [])) (composed x (n ++ m) act to p e)

pub shaped : {c : g.Phrase} {next : ℕ} {ts : List Token} {tree : g.Tree} {ls : List Found} {new : List Made} → Tells c next ts tree ls new → Inside c (TreeShape tree new)
unfolding var_of
shaped (t.conty_name {v = true} word name h) = composed (ty_at word.span (tf.Con name [])) (made (a.Ty y.NoTys) word.span.to ∷ []) (y.Con word.span.from name) word.span.to (no-variable word.span (tf.Con name []) _ (nodes.ty-con name []) (λ z. refl)) refl
shaped (t.conty_var {v = true} word name h) = variable (ty_at word.span (tf.Var name)) word.span.from word.span.to name (nodes.ty-opens (tf.Var name) word.span (nodes.ty-var name))
shaped (t.conty_paren {v = true} opening closing h d i) = shaped d
shaped (t.conty_one {v = true} {ts = ts} {argument = x} {n1 = n1} word name d h) = ends _ n1 (made (a.Ty y.First) word.span.to ∷ []) (y.Con (first_of (ts ++ word ∷ [])) name) (last_of (ts ++ word ∷ [])) (no-variable (extent (ts ++ word ∷ [])) (tf.Con name (x ∷ [])) _ (nodes.ty-con name (x ∷ [])) (λ z. refl)) refl
shaped (t.conty_several {v = true} {first = first} {next = next} {more = more} {n1 = n1} {n2 = n2} opening comma closing word name h d i f j k) = ends _ n1 (made (a.Ty y.First) comma.span.to ∷ n2) (y.Con opening.span.from name) word.span.to (no-variable (span_of opening.span.from word.span.to) (tf.Con name (first ∷ next ∷ more)) _ (nodes.ty-con name (first ∷ next ∷ more)) (λ z. refl)) refl
shaped (t.tupty_one {v = true} d) = shaped d
shaped (t.tupty_several {v = true} {ts = ts} {us = us} {first = first} {next = next} {more = more} {n1 = n1} {n2 = n2} word d h f) = ends _ n1 (made (a.Ty y.First) word.span.to ∷ n2) (y.Tuple (first_of (ts ++ word ∷ us))) (last_of (ts ++ word ∷ us)) (no-variable (extent (ts ++ word ∷ us)) (tf.Tuple (first ∷ next ∷ more)) _ (nodes.ty-tuple (first ∷ next ∷ more)) (λ z. refl)) refl
shaped (t.ty_one {v = true} d) = shaped d
shaped (t.ty_arrow {v = true} {ts = ts} {us = us} {left = left} {right = right} {n1 = n1} {n2 = n2} word d h f) = ends _ n1 n2 (y.Arrow (first_of (ts ++ word ∷ us))) (last_of (ts ++ word ∷ us)) (no-variable (extent (ts ++ word ∷ us)) (tf.Arrow left right) _ (nodes.ty-arrow left right) (λ z. refl)) refl
shaped (t.tys_one {v = true} d) = tt
shaped (t.tys_more {v = true} comma d h f) = tt
shaped (t.stars_one {v = true} d) = tt
shaped (t.stars_more {v = true} word d h f) = tt
shaped t.vars_none = tt
shaped (t.vars_one word name h) = tt
shaped (t.vars_several opening closing h d i) = tt
shaped (t.more_vars_one word name h) = tt
shaped (t.more_vars_more word comma name h i d) = tt
shaped (t.cons_one word name h) = tt
shaped (t.cons_of word of_ name h i d) = tt
shaped (t.cons_more word bar name h i d) = tt
shaped (t.cons_of_more word of_ bar name h i d j f) = tt
shaped (t.datas_one word equals name d h i f) = tt
shaped (t.datas_more word equals and_ name d h i f j m) = tt
shaped d = tt
