-- What is printed of a type is a type of its level again.
use Rattle.std.proofs.Common.{◌≡◌, ℕ, List, [], ◌∷◌, ◌++◌, refl, sym, subst, map, arith}
use Rattle.std.specs.Prelude.{codes, cond, nat_lt, Bool, true, false}
use Rattle.std.proofs.lemmas.Bool.{ltb-false}
use Rattle.sml_syntax.specs.declared.token.Token.{Token}
use Rattle.sml_syntax.specs.declared.token.TokenForm.TheVariants as f
use Rattle.sml_syntax.specs.declared.tree.Span.{Span}
use Rattle.sml_syntax.specs.declared.tree.Ty.{Ty}
use Rattle.sml_syntax.specs.declared.tree.TyForm.TheVariants as t
use Rattle.grammar_rules.specs.Programs.{Each}
use Rattle.grammar_rules.specs.Nodes.{ty_at, span_of, extent}
use Rattle.grammar_rules.specs.Grammar.{Is, ty_tree, tys_tree, vars_tree, conty, tupty, ty, stars, tys, ty_vars, more_vars, conty_name, conty_var, conty_paren, conty_one, conty_several, tys_one, tys_more, stars_one, stars_more, tupty_one, tupty_several, ty_one, ty_arrow, vars_none, vars_one, vars_several, more_vars_one, more_vars_more}
use Rattle.print_laws.specs.SameTree.{same_var, same_con, same_ty_tuple, same_arrow, no_tys, more_tys}
use Rattle.print_laws.specs.Printing.{Part, in_parens, put, parted, starred, type_name, ty_part, ty_forms, put_ty, vars_forms}
use Rattle.print_laws.proofs.Bearing.{At, none, one, word, both, bin, wrap}
use Rattle.print_laws.proofs.Made.{ty-Var, ty-Con, ty-Tuple, ty-Arrow}
use Rattle.print_laws.proofs.Claims.{Of, Many, Several, TyRanked, TyLevelOf, TyPartAt, TyClaim, mark, nil_end, parted_at, each_map, type_name_at}
use Rattle.print_laws.proofs.Lists.{parted_map}

-- from the phrase of each level
pub by_ty : {v : Bool} {ts : List Token} {x : Ty} → Is (ty v) ts (ty_tree x) [] → TyRanked v 0 ts x
by_ty d = record {
  anywhere = d;
  before_arrow = λ h. absurd (omega (arith, h));
  alone = λ h. absurd (omega (arith, h));
}

pub by_tupty : {v : Bool} {ts : List Token} {x : Ty} → Is (tupty v) ts (ty_tree x) [] → TyRanked v 1 ts x
by_tupty d = record {
  anywhere = ty_one d;
  before_arrow = λ h. d;
  alone = λ h. absurd (omega (arith, h));
}

pub by_conty : {v : Bool} {ts : List Token} {x : Ty} → Is (conty v) ts (ty_tree x) [] → TyRanked v 2 ts x
by_conty d = record {
  anywhere = ty_one (tupty_one (stars_one d));
  before_arrow = λ h. tupty_one (stars_one d);
  alone = λ h. d;
}

made : (v : Bool) (x : Ty) (p : Part) → ty_part x ≡ p → TyPartAt v p x → TyClaim v x
made v x p h a = subst (λ q. TyPartAt v q x) (sym h) a

-- where any type stands
pub whole_ty_at : (v : Bool) (x : Ty) → TyClaim v x → At (Of ty_tree (ty v) x) (ty_forms x)
whole_ty_at v x a = λ ts k. let q = a ts k in (q.0, q.1.anywhere, q.2)

-- in parentheses
paren_at : (v : Bool) (x : Ty) (p : Part) → TyPartAt v p x → At (Of ty_tree (conty v) x) (in_parens p.forms)
paren_at v x p a = wrap (TyLevelOf v p.level x) (Of ty_tree (conty v) x) (f.Mark (codes "(")) p.forms (f.Mark (codes ")")) (λ o ts c h g q. (q.0, conty_paren o c (mark h) q.1.anywhere (mark g), q.2)) a

-- where a type stands that a name may stand behind, and before an arrow
pub alone_at : (v : Bool) (x : Ty) → TyClaim v x → At (Of ty_tree (conty v) x) (put_ty 2 x)
unfolding put
alone_at v x a = go (nat_lt (ty_part x).level 2) refl
  where
    go : (b : Bool) → nat_lt (ty_part x).level 2 ≡ b → At (Of ty_tree (conty v) x) (cond b (in_parens (ty_forms x)) (ty_forms x))
    go true h = paren_at v x (ty_part x) a
    go false h = λ ts k. let q = a ts k in (q.0, q.1.alone (ltb-false (ty_part x).level 2 h), q.2)

pub before_arrow_at : (v : Bool) (x : Ty) → TyClaim v x → At (Of ty_tree (tupty v) x) (put_ty 1 x)
unfolding put
before_arrow_at v x a = go (nat_lt (ty_part x).level 1) refl
  where
    go : (b : Bool) → nat_lt (ty_part x).level 1 ≡ b → At (Of ty_tree (tupty v) x) (cond b (in_parens (ty_forms x)) (ty_forms x))
    go true h = λ ts k. let q = paren_at v x (ty_part x) a ts k in (q.0, tupty_one (stars_one q.1), q.2)
    go false h = λ ts k. let q = a ts k in (q.0, q.1.before_arrow (ltb-false (ty_part x).level 1 h), q.2)

pub var_claim : (s : Span) (name : List ℕ) → TyClaim true (ty_at s (t.Var name))
var_claim s name = made true (ty_at s (t.Var name)) _ (ty-Var s name)
    (one (TyLevelOf true 2 (ty_at s (t.Var name))) (f.TyVar name) (λ w h. (ty_at w.span (t.Var name), by_conty (conty_var w name (record { is = h })), same_var s w.span name)))

pub con_claim : (v : Bool) (s : Span) (name : List ℕ) → TyClaim v (ty_at s (t.Con name []))
con_claim v s name = made v (ty_at s (t.Con name [])) _ (ty-Con s name [])
    (one (TyLevelOf v 2 (ty_at s (t.Con name []))) (type_name name) (λ w h. (ty_at w.span (t.Con name []), by_conty (conty_name w name (type_name_at name w h)), same_con s w.span name no_tys)))

pub con_one_claim : (v : Bool) (s : Span) (name : List ℕ) (x : Ty) → TyClaim v x → TyClaim v (ty_at s (t.Con name (x ∷ [])))
con_one_claim v s name x a = let S : List Token → Type 0 = TyLevelOf v 2 (ty_at s (t.Con name (x ∷ []))) in made v (ty_at s (t.Con name (x ∷ []))) _ (ty-Con s name (x ∷ []))
    (both (Of ty_tree (conty v) x) (λ us. (w : Token) × (us ≡ w ∷ []) × (w.form ≡ type_name name)) S (put_ty 2 x) (type_name name ∷ [])
    (λ ts us q r. subst (λ z. S (ts ++ z)) (sym r.1) (ty_at (extent (ts ++ r.0 ∷ [])) (t.Con name (q.0 ∷ [])), by_conty (conty_one r.0 name q.1 (type_name_at name r.0 r.2)), same_con s (extent (ts ++ r.0 ∷ [])) name (more_tys q.2 no_tys)))
    (alone_at v x a) (one (λ us. (w : Token) × (us ≡ w ∷ []) × (w.form ≡ type_name name)) (type_name name) (λ w h. (w, refl, h))))

-- types with commas, and with stars
pub tys_at : (v : Bool) (x : Ty) (xs : List Ty) → Each (TyClaim v) (x ∷ xs) → At (Many tys_tree (tys v) (x ∷ xs)) (parted (codes ",") ty_forms (x ∷ xs))
tys_at v x xs h = parted_at ty_forms (codes ",") (Of ty_tree (ty v)) (Many tys_tree (tys v))
    (λ y ts q. (q.0, [], tys_one q.1, more_tys q.2 no_tys))
    (λ y z zs ts w us e q r. (q.0, r.0 ∷ r.1, tys_more w q.1 (mark e) r.2, more_tys q.2 r.3))
    x xs (each_map (TyClaim v) (λ y. At (Of ty_tree (ty v) y) (ty_forms y)) (whole_ty_at v) (x ∷ xs) h)

pub several_at : (v : Bool) (x y : Ty) (ys : List Ty) → Each (TyClaim v) (x ∷ y ∷ ys) → At (Several tys_tree (tys v) (x ∷ y ∷ ys)) (parted (codes ",") ty_forms (x ∷ y ∷ ys))
several_at v x y ys h = bin (Of ty_tree (ty v) x) (Many tys_tree (tys v) (y ∷ ys)) (Several tys_tree (tys v) (x ∷ y ∷ ys)) (ty_forms x) (f.Mark (codes ",")) (parted (codes ",") ty_forms (y ∷ ys))
    (λ ts w us e q r. (q.0, r.0, r.1, tys_more w q.1 (mark e) r.2, more_tys q.2 r.3)) (whole_ty_at v x h.0) (tys_at v y ys h.1)

pub stars_at : (v : Bool) (x : Ty) (xs : List Ty) → Each (TyClaim v) (x ∷ xs) → At (Many tys_tree (stars v) (x ∷ xs)) (starred (map ty_part (x ∷ xs)))
stars_at v x [] h = nil_end (Many tys_tree (stars v) (x ∷ [])) (put_ty 2 x) (λ ts b. let q = alone_at v x h.0 ts b in (q.0, [], stars_one q.1, more_tys q.2 no_tys))
stars_at v x (y ∷ ys) h = bin (Of ty_tree (conty v) x) (Many tys_tree (stars v) (y ∷ ys)) (Many tys_tree (stars v) (x ∷ y ∷ ys)) (put_ty 2 x) (f.Name (codes "*")) (starred (map ty_part (y ∷ ys)))
    (λ ts w us e q r. (q.0, r.0 ∷ r.1, stars_more w q.1 (record { is = e }) r.2, more_tys q.2 r.3)) (alone_at v x h.0) (stars_at v y ys h.1)

pub con_several_claim : (v : Bool) (s : Span) (name : List ℕ) (x y : Ty) (ys : List Ty) → Each (TyClaim v) (x ∷ y ∷ ys) → TyClaim v (ty_at s (t.Con name (x ∷ y ∷ ys)))
con_several_claim v s name x y ys h = made v (ty_at s (t.Con name (x ∷ y ∷ ys))) _ (ty-Con s name (x ∷ y ∷ ys))
    (bin (λ us. (o : Token) × (rest : List Token) × (us ≡ o ∷ rest) × (o.form ≡ f.Mark (codes "(")) × Several tys_tree (tys v) (x ∷ y ∷ ys) rest) (λ us. (w : Token) × (us ≡ w ∷ []) × (w.form ≡ type_name name)) S (f.Mark (codes "(") ∷ parted (codes ",") (λ (t : Part). t.forms) (map ty_part (x ∷ y ∷ ys))) (f.Mark (codes ")")) (type_name name ∷ [])
    (λ ts c us g q r. subst (λ z. S (z ++ c ∷ us)) (sym q.2) (subst (λ z. S ((q.0 ∷ q.1) ++ c ∷ z)) (sym r.1)
    (ty_at (span_of q.0.span.from r.0.span.to) (t.Con name (q.4.0 ∷ q.4.1 ∷ q.4.2)), by_conty (conty_several q.0 c r.0 name (mark q.3) q.4.3 (mark g) (type_name_at name r.0 r.2)), same_con s (span_of q.0.span.from r.0.span.to) name q.4.4)))
    (word (Several tys_tree (tys v) (x ∷ y ∷ ys)) (λ us. (o : Token) × (rest : List Token) × (us ≡ o ∷ rest) × (o.form ≡ f.Mark (codes "(")) × Several tys_tree (tys v) (x ∷ y ∷ ys) rest) (f.Mark (codes "(")) (parted (codes ",") (λ (t : Part). t.forms) (map ty_part (x ∷ y ∷ ys))) (λ o ts e q. (o, ts, refl, e, q))
    (subst (At (Several tys_tree (tys v) (x ∷ y ∷ ys))) (sym (parted_map (codes ",") (λ (t : Part). t.forms) ty_part (x ∷ y ∷ ys))) (several_at v x y ys h)))
    (one (λ us. (w : Token) × (us ≡ w ∷ []) × (w.form ≡ type_name name)) (type_name name) (λ w h. (w, refl, h))))
  where
    S : List Token → Type 0
    S = TyLevelOf v 2 (ty_at s (t.Con name (x ∷ y ∷ ys)))

pub tuple_claim : (v : Bool) (s : Span) (x y : Ty) (ys : List Ty) → Each (TyClaim v) (x ∷ y ∷ ys) → TyClaim v (ty_at s (t.Tuple (x ∷ y ∷ ys)))
tuple_claim v s x y ys h = made v (ty_at s (t.Tuple (x ∷ y ∷ ys))) _ (ty-Tuple s (x ∷ y ∷ ys))
    (bin (Of ty_tree (conty v) x) (Many tys_tree (stars v) (y ∷ ys)) (TyLevelOf v 1 (ty_at s (t.Tuple (x ∷ y ∷ ys)))) (put_ty 2 x) (f.Name (codes "*")) (starred (map ty_part (y ∷ ys)))
    (λ ts w us e q r. (ty_at (extent (ts ++ w ∷ us)) (t.Tuple (q.0 ∷ r.0 ∷ r.1)), by_tupty (tupty_several (stars_more w q.1 (record { is = e }) r.2)), same_ty_tuple s (extent (ts ++ w ∷ us)) (more_tys q.2 r.3)))
    (alone_at v x h.0) (stars_at v y ys h.1))

pub arrow_claim : (v : Bool) (s : Span) (x y : Ty) → TyClaim v x → TyClaim v y → TyClaim v (ty_at s (t.Arrow x y))
arrow_claim v s x y a b = made v (ty_at s (t.Arrow x y)) _ (ty-Arrow s x y)
    (bin (Of ty_tree (tupty v) x) (Of ty_tree (ty v) y) (TyLevelOf v 0 (ty_at s (t.Arrow x y))) (put_ty 1 x) (f.Mark (codes "->")) (ty_forms y)
    (λ ts w us h q r. (ty_at (extent (ts ++ w ∷ us)) (t.Arrow q.0 r.0), by_ty (ty_arrow w q.1 (mark h) r.1), same_arrow s (extent (ts ++ w ∷ us)) q.2 r.2))
    (before_arrow_at v x a) (whole_ty_at v y b))

-- the variables before a type's name
pub more_vars_at : (name : List ℕ) (names : List (List ℕ)) → At (λ ts. Is more_vars ts (vars_tree (name ∷ names)) []) (parted (codes ",") (λ n. f.TyVar n ∷ []) (name ∷ names))
more_vars_at name [] = one (λ ts. Is more_vars ts (vars_tree (name ∷ [])) []) (f.TyVar name) (λ w h. more_vars_one w name (record { is = h }))
more_vars_at name (n ∷ ns) = bin (λ us. (w : Token) × (us ≡ w ∷ []) × (w.form ≡ f.TyVar name)) (λ ts. Is more_vars ts (vars_tree (n ∷ ns)) []) (λ ts. Is more_vars ts (vars_tree (name ∷ n ∷ ns)) []) (f.TyVar name ∷ []) (f.Mark (codes ",")) (parted (codes ",") (λ n. f.TyVar n ∷ []) (n ∷ ns))
    (λ ts w us h q r. subst (λ z. Is more_vars (z ++ w ∷ us) (vars_tree (name ∷ n ∷ ns)) []) (sym q.1) (more_vars_more q.0 w name (record { is = q.2 }) (mark h) r))
    (one (λ us. (w : Token) × (us ≡ w ∷ []) × (w.form ≡ f.TyVar name)) (f.TyVar name) (λ w h. (w, refl, h))) (more_vars_at n ns)

pub vars_at : (names : List (List ℕ)) → At (λ ts. Is ty_vars ts (vars_tree names) []) (vars_forms names)
vars_at [] = none (λ ts. Is ty_vars ts (vars_tree []) []) vars_none
vars_at (name ∷ []) = one (λ ts. Is ty_vars ts (vars_tree (name ∷ [])) []) (f.TyVar name) (λ w h. vars_one w name (record { is = h }))
vars_at (name ∷ n ∷ ns) = wrap (λ ts. Is more_vars ts (vars_tree (name ∷ n ∷ ns)) []) (λ ts. Is ty_vars ts (vars_tree (name ∷ n ∷ ns)) []) (f.Mark (codes "(")) (parted (codes ",") (λ n. f.TyVar n ∷ []) (name ∷ n ∷ ns)) (f.Mark (codes ")"))
    (λ o ts c h g q. vars_several o c (mark h) q (mark g)) (more_vars_at name (n ∷ ns))
