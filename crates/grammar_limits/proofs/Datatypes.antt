-- What the acts of a declaration of datatypes find: its lacks, and those of its types.
use Rattle.std.proofs.Common.{◌≡◌, ℕ, zero, suc, ◌≤◌, List, [], ◌∷◌, ◌++◌, length, true, refl, ap, ap₂, sym, append_assoc, subst, arith}
use Rattle.std.proofs.lemmas.List.{length-append}
use Rattle.sml_syntax.specs.declared.token.Token.{Token}
use Rattle.sml_syntax.specs.declared.tree.Span.{Span}
use Rattle.sml_syntax.specs.declared.tree.TyForm.{TyForm, out-TyForm}
use Rattle.sml_syntax.specs.declared.tree.TyForm.TheVariants as tf
use Rattle.sml_syntax.specs.declared.tree.TyForm.TheOpen.{TyForm-F}
use Rattle.sml_syntax.specs.NestedTypes.{Found, Datatypes, TyLayer, for_each, nested_in_form, nested_in_type, nested_in_bindings}
use Rattle.grammar_rules.specs.Nodes.{ty_at, span_of, extent, first_of, last_of}
use Rattle.grammar_rules.specs.Grammar as g
use Rattle.sml_grammar.specs.declared.act.Act.TheVariants as a
use Rattle.sml_grammar.specs.declared.act.TyAct.TheVariants as y
use Rattle.sml_grammar.specs.declared.act.Made.{Made}
use Rattle.sml_grammar.specs.Machine.{made}
use Rattle.parse_limits.specs.Lacks.{Own, lack_of, begins_datatypes, ends_datatypes}
use Rattle.grammar_trees.specs.Tells as t
use Rattle.grammar_trees.specs.Tells.{Tells}
use Rattle.grammar_limits.specs.Finds.{FindsIn, DatatypesFind}
use Rattle.grammar_limits.specs.Owns.{owns}
use Rattle.grammar_limits.specs.Nested.{ArgumentsTold, TypeFinds, TreeFinds, Inside}
use Rattle.grammar_limits.proofs.Lowest.{f-end, f-then, f-last, f-same, f-act, f-datatype}
use Rattle.grammar_limits.proofs.Owned.{owned-all}
use Rattle.grammar_limits.proofs.Nodes as nodes
use Rattle.grammar_limits.proofs.Nestings.{f-con, each-nested, type-nested, nested-opens}

left-part : (a b : List Token) (d : ℕ) → length (a ++ b) ≤ d → length a ≤ d
left-part a b d e = omega (arith, length-append a b, e)

right-part : (a b : List Token) (d : ℕ) → length (a ++ b) ≤ d → length b ≤ d
right-part a b d e = omega (arith, length-append a b, e)

behind : (w : Token) (b : List Token) (d : ℕ) → length (w ∷ b) ≤ d → length b ≤ d
behind w b d e = omega (arith, e)

before-one : (a : List Token) (w : Token) (b : List Token) (d : ℕ) → length (a ++ w ∷ b) ≤ suc d → length a ≤ d
before-one a w b d e = omega (arith, length-append a (w ∷ b), e)

behind-one : (a : List Token) (w : Token) (b : List Token) (d : ℕ) → length (a ++ w ∷ b) ≤ suc d → length b ≤ d
behind-one a w b d e = omega (arith, length-append a (w ∷ b), e)

some-one : (a : List Token) (w : Token) (b : List Token) → length (a ++ w ∷ b) ≤ 0 → ⊥
some-one a w b e = omega (arith, length-append a (w ∷ b), e)

both-bare : {ls ms : List Found} → ls ≡ [] → ms ≡ [] → ls ++ ms ≡ []
both-bare e h = ap₂ (λ y z. y ++ z) e h

regrouped : {own : Own} {ls : List Found} (n m k : List Made) → FindsIn own ((n ++ m) ++ k) ls → FindsIn own (n ++ (m ++ k)) ls
regrouped {own} {ls} n m k p = subst (λ z. FindsIn own z ls) (append_assoc n m k) p

-- a type by its form, one level down
by-depth : (all : Datatypes) (span : Span) (form : TyForm) (layer : TyLayer) (ts : List Token) {new : List Made} → out-TyForm form ≡ layer → (length ts ≤ 0 → ⊥) →
    ((depth : ℕ) → length ts ≤ suc depth → FindsIn (owns all) new (nested_in_form all (nested_in_type depth all) span.from layer)) → TypeFinds all ts new (ty_at span form)
by-depth all span form layer ts h low p zero e = absurd (low e)
by-depth all span form layer ts h low p (suc depth) e = f-same (sym (nested-opens depth all span form layer h)) (p depth e)

pub nests : (all : Datatypes) → ArgumentsTold → {c : g.Phrase} {next : ℕ} {ts : List Token} {tree : g.Tree} {ls : List Found} {new : List Made} → Tells c next ts tree ls new → Inside c (TreeFinds all ts new tree)
unfolding lack_of begins_datatypes ends_datatypes
nests all q (t.conty_name {v = true} word name h) = by-depth all word.span (tf.Con name []) (TyForm-F.Con name []) (word ∷ []) (nodes.ty-con name []) (some-one [] word []) (λ depth e. f-con all word.span.from word.span.to name [] (made (a.Ty y.NoTys) word.span.to ∷ []) [] tt (λ names before. q.no_arguments names before word.span.to) (f-act (λ b. refl) (λ m. refl) (f-end)))
nests all q (t.conty_var {v = true} word name h) = by-depth all word.span (tf.Var name) (TyForm-F.Var name) (word ∷ []) (nodes.ty-var name) (some-one [] word []) (λ depth e. f-act (λ b. refl) (λ m. refl) (f-end))
nests all q (t.conty_paren {v = true} {ts = ts} opening closing h d i) = λ depth e. nests all q d depth (left-part ts (closing ∷ []) depth (behind opening (ts ++ closing ∷ []) depth e))
nests all q (t.conty_one {v = true} {ts = ts} {argument = x} {n1 = n1} word name d h) = by-depth all (extent (ts ++ word ∷ [])) (tf.Con name (x ∷ [])) (TyForm-F.Con name (x ∷ [])) (ts ++ word ∷ []) (nodes.ty-con name (x ∷ [])) (some-one ts word []) (λ depth e. regrouped n1 (made (a.Ty y.First) word.span.to ∷ []) (made (a.Ty (y.Con (first_of (ts ++ word ∷ [])) name)) (last_of (ts ++ word ∷ [])) ∷ []) (f-con all (first_of (ts ++ word ∷ [])) (last_of (ts ++ word ∷ [])) name (x ∷ []) (n1 ++ made (a.Ty y.First) word.span.to ∷ []) (for_each (nested_in_type depth all) (x ∷ [])) (each-nested (nested_in_type depth all) (x ∷ []) (type-nested depth all)) (λ names before. q.one_argument d names before word.span.to) (f-then (nests all q d depth (before-one ts word [] depth e)) (f-act (λ b. refl) (λ m. refl) (f-end)))))
nests all q (t.conty_several {v = true} {ts = ts} {us = us} {first = first} {next = next} {more = more} {n1 = n1} {n2 = n2} opening comma closing word name h d i f j k) = by-depth all (span_of opening.span.from word.span.to) (tf.Con name (first ∷ next ∷ more)) (TyForm-F.Con name (first ∷ next ∷ more)) (opening ∷ ((ts ++ comma ∷ us) ++ closing ∷ word ∷ [])) (nodes.ty-con name (first ∷ next ∷ more)) (some-one [] opening ((ts ++ comma ∷ us) ++ closing ∷ word ∷ [])) (λ depth e. regrouped n1 (made (a.Ty y.First) comma.span.to ∷ n2) (made (a.Ty (y.Con opening.span.from name)) word.span.to ∷ []) (f-con all opening.span.from word.span.to name (first ∷ next ∷ more) (n1 ++ made (a.Ty y.First) comma.span.to ∷ n2) (for_each (nested_in_type depth all) (first ∷ next ∷ more)) (each-nested (nested_in_type depth all) (first ∷ next ∷ more) (type-nested depth all)) (λ names before. q.arguments d f names before comma.span.to) (f-then (nests all q d depth (left-part ts (comma ∷ us) depth (left-part (ts ++ comma ∷ us) (closing ∷ word ∷ []) depth (behind-one [] opening ((ts ++ comma ∷ us) ++ closing ∷ word ∷ []) depth e)))) (f-act (λ b. refl) (λ m. refl) (nests all q f depth (behind comma us depth (right-part ts (comma ∷ us) depth (left-part (ts ++ comma ∷ us) (closing ∷ word ∷ []) depth (behind-one [] opening ((ts ++ comma ∷ us) ++ closing ∷ word ∷ []) depth e)))))))))
nests all q (t.tys_one {v = true} d) = λ depth e. f-then (nests all q d depth (e)) (f-act (λ b. refl) (λ m. refl) (f-end))
nests all q (t.tys_more {v = true} {ts = ts} {us = us} comma d h f) = λ depth e. f-then (nests all q d depth (left-part ts (comma ∷ us) depth e)) (f-act (λ b. refl) (λ m. refl) (nests all q f depth (behind comma us depth (right-part ts (comma ∷ us) depth e))))
nests all q (t.stars_one {v = true} d) = λ depth e. f-then (nests all q d depth (e)) (f-act (λ b. refl) (λ m. refl) (f-end))
nests all q (t.stars_more {v = true} {ts = ts} {us = us} word d h f) = λ depth e. f-then (nests all q d depth (left-part ts (word ∷ us) depth e)) (f-act (λ b. refl) (λ m. refl) (nests all q f depth (behind word us depth (right-part ts (word ∷ us) depth e))))
nests all q (t.tupty_one {v = true} d) = nests all q d
nests all q (t.tupty_several {v = true} {ts = ts} {us = us} {first = first} {next = next} {more = more} word d h f) = by-depth all (extent (ts ++ word ∷ us)) (tf.Tuple (first ∷ next ∷ more)) (TyForm-F.Tuple (first ∷ next ∷ more)) (ts ++ word ∷ us) (nodes.ty-tuple (first ∷ next ∷ more)) (some-one ts word us) (λ depth e. f-then (nests all q d depth (before-one ts word us depth e)) (f-act (λ b. refl) (λ m. refl) (f-last (nests all q f depth (behind-one ts word us depth e)) (f-act (λ b. refl) (λ m. refl) (f-end)))))
nests all q (t.ty_one {v = true} d) = nests all q d
nests all q (t.ty_arrow {v = true} {ts = ts} {us = us} {left = left} {right = right} word d h f) = by-depth all (extent (ts ++ word ∷ us)) (tf.Arrow left right) (TyForm-F.Arrow left right) (ts ++ word ∷ us) (nodes.ty-arrow left right) (some-one ts word us) (λ depth e. f-then (nests all q d depth (before-one ts word us depth e)) (f-last (nests all q f depth (behind-one ts word us depth e)) (f-act (λ b. refl) (λ m. refl) (f-end))))
nests all q t.vars_none = f-end
nests all q (t.vars_one word name h) = f-act (λ b. refl) (λ m. refl) (f-end)
nests all q (t.vars_several opening closing h d i) = nests all q d
nests all q (t.more_vars_one word name h) = f-act (λ b. refl) (λ m. refl) (f-end)
nests all q (t.more_vars_more word comma name h i d) = f-act (λ b. refl) (λ m. refl) (nests all q d)
nests all q (t.cons_one word name h) = λ depth e. f-act (λ b. refl) (λ m. refl) (f-act (λ b. refl) (λ m. refl) (f-end))
nests all q (t.cons_of {ts = ts} word of_ name h i d) = λ depth e. f-act (λ b. refl) (λ m. refl) (f-then (nests all q d depth (behind of_ ts depth (behind word (of_ ∷ ts) depth e))) (f-act (λ b. refl) (λ m. refl) (f-act (λ b. refl) (λ m. refl) (f-end))))
nests all q (t.cons_more {us = us} word bar name h i d) = λ depth e. f-act (λ b. refl) (λ m. refl) (f-act (λ b. refl) (λ m. refl) (nests all q d depth (behind bar us depth (behind word (bar ∷ us) depth e))))
nests all q (t.cons_of_more {ts = ts} {us = us} word of_ bar name h i d j f) = λ depth e. f-act (λ b. refl) (λ m. refl) (f-then (nests all q d depth (left-part ts (bar ∷ us) depth (behind of_ (ts ++ bar ∷ us) depth (behind word (of_ ∷ (ts ++ bar ∷ us)) depth e)))) (f-act (λ b. refl) (λ m. refl) (f-act (λ b. refl) (λ m. refl) (nests all q f depth (behind bar us depth (right-part ts (bar ∷ us) depth (behind of_ (ts ++ bar ∷ us) depth (behind word (of_ ∷ (ts ++ bar ∷ us)) depth e))))))))
nests all q (t.datas_one {ts = ts} {us = us} word equals name d h i f) = λ depth e. f-act (λ b. refl) (λ m. refl) (f-then (nests all q d) (f-act (λ b. refl) (λ m. refl) (f-act (λ b. refl) (λ m. refl) (f-then (nests all q f depth (behind equals us depth (behind word (equals ∷ us) depth (right-part ts (word ∷ equals ∷ us) depth e)))) (f-act (λ b. refl) (λ m. refl) (f-end))))))
nests all q (t.datas_more {ts = ts} {us = us} {ws = ws} word equals and_ name d h i f j m) = λ depth e. f-act (λ b. refl) (λ m. refl) (f-then (nests all q d) (f-act (λ b. refl) (λ m. refl) (f-act (λ b. refl) (λ m. refl) (f-then (nests all q f depth (behind equals us depth (behind word (equals ∷ us) depth (right-part ts (word ∷ equals ∷ us) depth (left-part (ts ++ word ∷ equals ∷ us) (and_ ∷ ws) depth e))))) (f-act (λ b. refl) (λ m. refl) (nests all q m depth (behind and_ ws depth (right-part (ts ++ word ∷ equals ∷ us) (and_ ∷ ws) depth e))))))))
nests all q d = tt

pub bare : {c : g.Phrase} {next : ℕ} {ts : List Token} {tree : g.Tree} {ls : List Found} {new : List Made} → Tells c next ts tree ls new → Inside c (ls ≡ [])
bare (t.conty_name {v = true} word name h) = refl
bare (t.conty_var {v = true} word name h) = refl
bare (t.conty_paren {v = true} opening closing h d i) = bare d
bare (t.conty_one {v = true} word name d h) = bare d
bare (t.conty_several {v = true} opening comma closing word name h d i f j k) = both-bare (bare d) (bare f)
bare (t.tys_one {v = true} d) = bare d
bare (t.tys_more {v = true} comma d h f) = both-bare (bare d) (bare f)
bare (t.stars_one {v = true} d) = bare d
bare (t.stars_more {v = true} word d h f) = both-bare (bare d) (bare f)
bare (t.tupty_one {v = true} d) = bare d
bare (t.tupty_several {v = true} word d h f) = both-bare (bare d) (bare f)
bare (t.ty_one {v = true} d) = bare d
bare (t.ty_arrow {v = true} word d h f) = both-bare (bare d) (bare f)
bare t.vars_none = refl
bare (t.vars_one word name h) = refl
bare (t.vars_several opening closing h d i) = refl
bare (t.more_vars_one word name h) = refl
bare (t.more_vars_more word comma name h i d) = refl
bare (t.cons_one word name h) = refl
bare (t.cons_of word of_ name h i d) = bare d
bare (t.cons_more word bar name h i d) = bare d
bare (t.cons_of_more word of_ bar name h i d j f) = both-bare (bare d) (bare f)
bare (t.datas_one word equals name d h i f) = bare f
bare (t.datas_more word equals and_ name d h i f j m) = both-bare (bare f) (bare m)
bare d = tt

pub datatypes-find : ArgumentsTold → DatatypesFind
datatypes-find q ts all ls new from to end_ d = f-datatype from to end_ (owned-all from end_ d)
    (f-same (ap (λ z. z ++ nested_in_bindings (length ts) all all) (sym (bare d))) (nests all q d (length ts) (same (length ts))))
  where
    same : (n : ℕ) → n ≤ n
    same n = omega arith
