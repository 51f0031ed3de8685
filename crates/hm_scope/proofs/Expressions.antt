-- What has no binding in an expression, by its form.
use Rattle.std.proofs.Common.{◌+◌, ◌<◌, ◌++◌, take, length, get_or, ◌≡◌, ◌⊎◌, inl, inr, refl, sym, ◌∙◌, ap, subst, ℕ, List, [], ◌∷◌, Some, None}
use Rattle.sml_syntax.specs.declared.tree.Ty.{Ty}
use Rattle.sml_syntax.specs.declared.tree.Exp.{Exp, out-Exp}
use Rattle.sml_syntax.specs.declared.tree.Dec.{Dec}
use Rattle.sml_syntax.specs.declared.tree.Rule.{Rule}
use Rattle.sml_syntax.specs.declared.tree.Piece.{Piece}
use Rattle.sml_syntax.specs.declared.tree.DecForm.TheOpen.{ExpForm-F}
use Rattle.sml_syntax.specs.Layers.{form_of_exp}
use Rattle.typing_rules.specs.Scope.{Names, IsOneOf, first_one, other_one, exp_parts, exp_rules, exp_type, exp_start, antiquoted, status, inside, AddsAll, UnboundInType, UnboundInExp, UnboundInRule, UnboundInDecs, unbound_name, in_part, in_rule, in_constraint, in_let, in_let_body}
use Rattle.std.proofs.lemmas.List.{take_more}
use Rattle.sml_syntax.specs.declared.tree.Piece.{out-Piece}
use Rattle.sml_syntax.specs.declared.tree.DecForm.TheOpen.{Piece-F}
use Rattle.sml_syntax.specs.declared.tree.DecForm.{DecForm}
use Rattle.sml_syntax.specs.declared.tree.ExpForm.{ExpForm}
use Rattle.sml_syntax.specs.declared.tree.ExpForm.TheVariants as u
use Rattle.typing_rules.specs.Scope.{with_antiquoted}
use Rattle.hm_scope.specs.Least.{Seen, Sees, Some_of, InPiece}
use Rattle.hm_scope.proofs.Forms.{exp-tuple, exp-list, exp-seq, exp-app, exp-both, exp-either, exp-case, exp-handle}
use Rattle.hm_scope.proofs.Scopes.{InLet}
use Rattle.hm_scope.proofs.Leasts.{sees-to, sees-then, sees-nil, sees-two, sees-end, sees-lists, of-none}

abbrev pub ExpCases : Names → Exp → ℕ → Type 0
ExpCases n e place =
    ((name : List ℕ) × (form_of_exp e ≡ ExpForm-F.Name name) × (status name n.values ≡ None) × (place ≡ exp_start e))
    ⊎ Some_of (UnboundInExp n) (exp_parts (form_of_exp e)) place
    ⊎ Some_of (UnboundInRule n) (exp_rules (form_of_exp e)) place
    ⊎ ((t : Ty) × (exp_type (form_of_exp e) ≡ Some t) × UnboundInType n [] t place)
    ⊎ ((ds : List Dec) × (es : List Exp) × (form_of_exp e ≡ ExpForm-F.Let ds es) × UnboundInDecs n ds place)
    ⊎ ((ds : List Dec) × (es : List Exp) × (form_of_exp e ≡ ExpForm-F.Let ds es) × (more : Names) × AddsAll n ds more × Some_of (UnboundInExp (inside more n)) es place)

pub exp-cases : {n : Names} {e : Exp} {place : ℕ} → UnboundInExp n e place → ExpCases n e place
exp-cases (unbound_name {scope} {e} {name} f h) = inl (name, f, h, refl)
exp-cases (in_part {scope} {e} {d} {place} i h) = inr (inl (d, i, h))
exp-cases (in_rule {scope} {e} {r} {place} i h) = inr (inr (inl (r, i, h)))
exp-cases (in_constraint {scope} {e} {t} {place} k h) = inr (inr (inr (inl (t, k, h))))
exp-cases (in_let {scope} {e} {ds} {es} {place} f h) = inr (inr (inr (inr (inl (ds, es, f, h)))))
exp-cases (in_let_body {scope} {e} {d} {ds} {es} {more} {place} f g i h) = inr (inr (inr (inr (inr (ds, es, f, more, g, (d, i, h))))))

-- expressions and rules alone
pub sees-exp : (e : Exp) (es : List Exp) (rs : List Rule) (a b c : Seen) → exp_parts (form_of_exp e) ≡ es → exp_rules (form_of_exp e) ≡ rs → exp_type (form_of_exp e) ≡ None
    → ((name : List ℕ) → form_of_exp e ≡ ExpForm-F.Name name → status name a.names.values ≡ None → ⊥) → ((ds : List Dec) (xs : List Exp) → form_of_exp e ≡ ExpForm-F.Let ds xs → ⊥)
    → Sees (Some_of (UnboundInExp a.names) es) a b → Sees (Some_of (UnboundInRule b.names) rs) b c → Sees (UnboundInExp a.names e) a c
sees-exp e es rs a b c p r none no_name no_let s t = sees-to _ _ a c to from (sees-then (Some_of (UnboundInExp a.names) es) (λ n. Some_of (UnboundInRule n) rs) a b c s t)
  where
    to : (place : ℕ) → Some_of (UnboundInExp a.names) es place ⊎ Some_of (UnboundInRule a.names) rs place → UnboundInExp a.names e place
    to place (inl x) = let y = subst (λ l. Some_of (UnboundInExp a.names) l place) (sym p) x in in_part y.1 y.2
    to place (inr x) = let y = subst (λ l. Some_of (UnboundInRule a.names) l place) (sym r) x in in_rule y.1 y.2

    go : (place : ℕ) → ExpCases a.names e place → Some_of (UnboundInExp a.names) es place ⊎ Some_of (UnboundInRule a.names) rs place
    go place (inl (name, f, h, k)) = absurd (no_name name f h)
    go place (inr (inl x)) = inl (subst (λ l. Some_of (UnboundInExp a.names) l place) p x)
    go place (inr (inr (inl x))) = inr (subst (λ l. Some_of (UnboundInRule a.names) l place) r x)
    go place (inr (inr (inr (inl (u, k, h))))) = absurd cc
    go place (inr (inr (inr (inr (inl (ds, xs, f, h)))))) = absurd (no_let ds xs f)
    go place (inr (inr (inr (inr (inr (ds, xs, f, more, g, h)))))) = absurd (no_let ds xs f)

    from : (place : ℕ) → UnboundInExp a.names e place → Some_of (UnboundInExp a.names) es place ⊎ Some_of (UnboundInRule a.names) rs place
    from place x = go place (exp-cases x)

-- expressions alone
pub sees-exps : (e : Exp) (es : List Exp) (a b : Seen) → exp_parts (form_of_exp e) ≡ es → exp_rules (form_of_exp e) ≡ [] → exp_type (form_of_exp e) ≡ None
    → ((name : List ℕ) → form_of_exp e ≡ ExpForm-F.Name name → status name a.names.values ≡ None → ⊥) → ((ds : List Dec) (xs : List Exp) → form_of_exp e ≡ ExpForm-F.Let ds xs → ⊥)
    → Sees (Some_of (UnboundInExp a.names) es) a b → Sees (UnboundInExp a.names e) a b
sees-exps e es a b p r none no_name no_let s = sees-exp e es [] a b b p r none no_name no_let s (sees-nil (UnboundInRule b.names) b)

pub sees-one : {A : Type 0} (P : A → ℕ → Type 0) (x : A) (a b : Seen) → Sees (P x) a b → Sees (Some_of P (x ∷ [])) a b
sees-one P x a b s = sees-to _ _ a b to from s
  where
    to : (p : ℕ) → P x p → Some_of P (x ∷ []) p
    to p h = (x, first_one, h)

    from : (p : ℕ) → Some_of P (x ∷ []) p → P x p
    from p (y, first_one, h) = h
    from p (y, other_one i, h) = absurd (of-none i)

pub sees-tuple-exp : (e : Exp) (es : List Exp) (a b : Seen) → form_of_exp e ≡ ExpForm-F.Tuple es → Sees (Some_of (UnboundInExp a.names) es) a b → Sees (UnboundInExp a.names e) a b
sees-tuple-exp e es a b f s = sees-exps e es a b (ap exp_parts f) (ap exp_rules f) (ap exp_type f) (λ n g h. absurd cc) (λ ds xs g. absurd cc) s

pub sees-list-exp : (e : Exp) (es : List Exp) (a b : Seen) → form_of_exp e ≡ ExpForm-F.List es → Sees (Some_of (UnboundInExp a.names) es) a b → Sees (UnboundInExp a.names e) a b
sees-list-exp e es a b f s = sees-exps e es a b (ap exp_parts f) (ap exp_rules f) (ap exp_type f) (λ n g h. absurd cc) (λ ds xs g. absurd cc) s

pub sees-seq : (e : Exp) (es : List Exp) (a b : Seen) → form_of_exp e ≡ ExpForm-F.Seq es → Sees (Some_of (UnboundInExp a.names) es) a b → Sees (UnboundInExp a.names e) a b
sees-seq e es a b f s = sees-exps e es a b (ap exp_parts f) (ap exp_rules f) (ap exp_type f) (λ n g h. absurd cc) (λ ds xs g. absurd cc) s

pub sees-app : (e x y : Exp) (a b c : Seen) → form_of_exp e ≡ ExpForm-F.App x y → Sees (UnboundInExp a.names x) a b → Sees (UnboundInExp b.names y) b c → Sees (UnboundInExp a.names e) a c
sees-app e x y a b c f s t = sees-exps e (x ∷ y ∷ []) a c (ap exp_parts f) (ap exp_rules f) (ap exp_type f) (λ n g h. absurd cc) (λ ds xs g. absurd cc) (sees-two UnboundInExp x y a b c s t)

pub sees-both : (e x y : Exp) (a b c : Seen) → form_of_exp e ≡ ExpForm-F.Both x y → Sees (UnboundInExp a.names x) a b → Sees (UnboundInExp b.names y) b c → Sees (UnboundInExp a.names e) a c
sees-both e x y a b c f s t = sees-exps e (x ∷ y ∷ []) a c (ap exp_parts f) (ap exp_rules f) (ap exp_type f) (λ n g h. absurd cc) (λ ds xs g. absurd cc) (sees-two UnboundInExp x y a b c s t)

pub sees-either : (e x y : Exp) (a b c : Seen) → form_of_exp e ≡ ExpForm-F.Either x y → Sees (UnboundInExp a.names x) a b → Sees (UnboundInExp b.names y) b c → Sees (UnboundInExp a.names e) a c
sees-either e x y a b c f s t = sees-exps e (x ∷ y ∷ []) a c (ap exp_parts f) (ap exp_rules f) (ap exp_type f) (λ n g h. absurd cc) (λ ds xs g. absurd cc) (sees-two UnboundInExp x y a b c s t)

pub sees-raise : (e x : Exp) (a b : Seen) → form_of_exp e ≡ ExpForm-F.Raise x → Sees (UnboundInExp a.names x) a b → Sees (UnboundInExp a.names e) a b
sees-raise e x a b f s = sees-exps e (x ∷ []) a b (ap exp_parts f) (ap exp_rules f) (ap exp_type f) (λ n g h. absurd cc) (λ ds xs g. absurd cc) (sees-one (UnboundInExp a.names) x a b s)

pub sees-if : (e x y z : Exp) (a b c d : Seen) → form_of_exp e ≡ ExpForm-F.If x y z → Sees (UnboundInExp a.names x) a b → Sees (UnboundInExp b.names y) b c → Sees (UnboundInExp c.names z) c d
    → Sees (UnboundInExp a.names e) a d
sees-if e x y z a b c d f s t r =
    sees-exps e (x ∷ y ∷ z ∷ []) a d (ap exp_parts f) (ap exp_rules f) (ap exp_type f) (λ n g h. absurd cc) (λ ds xs g. absurd cc) (sees-end UnboundInExp z (x ∷ y ∷ []) a c d (sees-two UnboundInExp x y a b c s t) r)

pub sees-quote : (e : Exp) (pieces : List Piece) (a b : Seen) → form_of_exp e ≡ ExpForm-F.Quote pieces → Sees (Some_of (UnboundInExp a.names) (antiquoted pieces)) a b → Sees (UnboundInExp a.names e) a b
sees-quote e pieces a b f s = sees-exps e (antiquoted pieces) a b (ap exp_parts f) (ap exp_rules f) (ap exp_type f) (λ n g h. absurd cc) (λ ds xs g. absurd cc) s

pub sees-fn : (e : Exp) (rs : List Rule) (a b : Seen) → form_of_exp e ≡ ExpForm-F.Fn rs → Sees (Some_of (UnboundInRule a.names) rs) a b → Sees (UnboundInExp a.names e) a b
sees-fn e rs a b f s = sees-exp e [] rs a a b (ap exp_parts f) (ap exp_rules f) (ap exp_type f) (λ n g h. absurd cc) (λ ds xs g. absurd cc) (sees-nil (UnboundInExp a.names) a) s

pub sees-case : (e x : Exp) (rs : List Rule) (a b c : Seen) → form_of_exp e ≡ ExpForm-F.Case x rs → Sees (UnboundInExp a.names x) a b → Sees (Some_of (UnboundInRule b.names) rs) b c → Sees (UnboundInExp a.names e) a c
sees-case e x rs a b c f s t = sees-exp e (x ∷ []) rs a b c (ap exp_parts f) (ap exp_rules f) (ap exp_type f) (λ n g h. absurd cc) (λ ds xs g. absurd cc) (sees-one (UnboundInExp a.names) x a b s) t

pub sees-handle : (e x : Exp) (rs : List Rule) (a b c : Seen) → form_of_exp e ≡ ExpForm-F.Handle x rs → Sees (UnboundInExp a.names x) a b → Sees (Some_of (UnboundInRule b.names) rs) b c → Sees (UnboundInExp a.names e) a c
sees-handle e x rs a b c f s t = sees-exp e (x ∷ []) rs a b c (ap exp_parts f) (ap exp_rules f) (ap exp_type f) (λ n g h. absurd cc) (λ ds xs g. absurd cc) (sees-one (UnboundInExp a.names) x a b s) t

-- the forms that stand in one arm
pub sees-listed : (e : Exp) (es : List Exp) (a b : Seen) → (((out-Exp e).form ≡ u.Tuple es) ⊎ ((out-Exp e).form ≡ u.List es) ⊎ ((out-Exp e).form ≡ u.Seq es))
    → Sees (Some_of (UnboundInExp a.names) es) a b → Sees (UnboundInExp a.names e) a b
sees-listed e es a b (inl k) s = sees-tuple-exp e es a b (exp-tuple es k) s
sees-listed e es a b (inr (inl k)) s = sees-list-exp e es a b (exp-list es k) s
sees-listed e es a b (inr (inr k)) s = sees-seq e es a b (exp-seq es k) s

pub sees-paired : (e x y : Exp) (a b c : Seen) → (((out-Exp e).form ≡ u.App x y) ⊎ ((out-Exp e).form ≡ u.Both x y) ⊎ ((out-Exp e).form ≡ u.Either x y))
    → Sees (UnboundInExp a.names x) a b → Sees (UnboundInExp b.names y) b c → Sees (UnboundInExp a.names e) a c
sees-paired e x y a b c (inl k) s t = sees-app e x y a b c (exp-app x y k) s t
sees-paired e x y a b c (inr (inl k)) s t = sees-both e x y a b c (exp-both x y k) s t
sees-paired e x y a b c (inr (inr k)) s t = sees-either e x y a b c (exp-either x y k) s t

pub sees-matched : (e x : Exp) (rs : List Rule) (a b c : Seen) → (((out-Exp e).form ≡ u.Case x rs) ⊎ ((out-Exp e).form ≡ u.Handle x rs))
    → Sees (UnboundInExp a.names x) a b → Sees (Some_of (UnboundInRule b.names) rs) b c → Sees (UnboundInExp a.names e) a c
sees-matched e x rs a b c (inl k) s t = sees-case e x rs a b c (exp-case x rs k) s t
sees-matched e x rs a b c (inr k) s t = sees-handle e x rs a b c (exp-handle x rs k) s t

pub sees-name : (e : Exp) (name : List ℕ) (a : Seen) → form_of_exp e ≡ ExpForm-F.Name name → (status name a.names.values ≡ None → ⊥) → Sees (UnboundInExp a.names e) a a
sees-name e name a f bound =
    sees-exps e [] a a (ap exp_parts f) (ap exp_rules f) (ap exp_type f) (λ other g h. bound (let k : name ≡ other = cc in ap (λ z. status z a.names.values) k ∙ h)) (λ ds xs g. absurd cc) (sees-nil (UnboundInExp a.names) a)

pub sees-name-unbound : (e : Exp) (name : List ℕ) (a b : Seen) → form_of_exp e ≡ ExpForm-F.Name name → status name a.names.values ≡ None → Sees (λ place. place ≡ exp_start e) a b → Sees (UnboundInExp a.names e) a b
sees-name-unbound e name a b f h s = sees-to _ _ a b to from s
  where
    to : (place : ℕ) → place ≡ exp_start e → UnboundInExp a.names e place
    to place k = subst (UnboundInExp a.names e) (sym k) (unbound_name f h)

    go : (place : ℕ) → ExpCases a.names e place → place ≡ exp_start e
    go place (inl (other, g, x, k)) = k
    go place (inr (inl x)) = absurd (of-none (subst (λ l. Some_of (UnboundInExp a.names) (exp_parts l) place) f x).1)
    go place (inr (inr (inl x))) = absurd (of-none (subst (λ l. Some_of (UnboundInRule a.names) (exp_rules l) place) f x).1)
    go place (inr (inr (inr (inl (u, k, x))))) = absurd (no-type (sym (ap exp_type f) ∙ k))
      where
        no-type : {t : Ty} → None ≡ Some t → ⊥
        no-type e = absurd cc
    go place (inr (inr (inr (inr (inl (ds, xs, g, x)))))) = absurd cc
    go place (inr (inr (inr (inr (inr (ds, xs, g, more, i, x)))))) = absurd cc

    from : (place : ℕ) → UnboundInExp a.names e place → place ≡ exp_start e
    from place x = go place (exp-cases x)

pub sees-typed : (e x : Exp) (t : Ty) (a b c : Seen) → form_of_exp e ≡ ExpForm-F.Typed x t → Sees (UnboundInExp a.names x) a b → Sees (UnboundInType b.names [] t) b c → Sees (UnboundInExp a.names e) a c
sees-typed e x t a b c f s r = sees-to _ _ a c to from (sees-then (UnboundInExp a.names x) (λ n. UnboundInType n [] t) a b c s r)
  where
    to : (place : ℕ) → UnboundInExp a.names x place ⊎ UnboundInType a.names [] t place → UnboundInExp a.names e place
    to place (inl h) = in_part (subst (λ l. IsOneOf x (exp_parts l)) (sym f) first_one) h
    to place (inr h) = in_constraint (ap exp_type f) h

    part : (place : ℕ) → Some_of (UnboundInExp a.names) (x ∷ []) place → UnboundInExp a.names x place
    part place (y, first_one, h) = h
    part place (y, other_one i, h) = absurd (of-none i)

    go : (place : ℕ) → ExpCases a.names e place → UnboundInExp a.names x place ⊎ UnboundInType a.names [] t place
    go place (inl (other, g, y, k)) = absurd cc
    go place (inr (inl y)) = inl (part place (subst (λ l. Some_of (UnboundInExp a.names) (exp_parts l) place) f y))
    go place (inr (inr (inl y))) = absurd (of-none (subst (λ l. Some_of (UnboundInRule a.names) (exp_rules l) place) f y).1)
    go place (inr (inr (inr (inl (u, k, y))))) = inr (let same : u ≡ t = cc in subst (λ z. UnboundInType a.names [] z place) same y)
    go place (inr (inr (inr (inr (inl (ds, xs, g, y)))))) = absurd cc
    go place (inr (inr (inr (inr (inr (ds, xs, g, more, i, y)))))) = absurd cc

    from : (place : ℕ) → UnboundInExp a.names e place → UnboundInExp a.names x place ⊎ UnboundInType a.names [] t place
    from place h = go place (exp-cases h)

-- parts of a quotation
with-end : (q : Piece-F DecForm ExpForm Piece Dec Exp Rule) (es fs : List Exp) → with_antiquoted q (es ++ fs) ≡ with_antiquoted q es ++ fs
with-end (Piece-F.Plain text) es fs = refl
with-end (Piece-F.Anti e) es fs = refl

antiquoted-end : (ps : List Piece) (piece : Piece) → antiquoted (ps ++ piece ∷ []) ≡ antiquoted ps ++ antiquoted (piece ∷ [])
antiquoted-end [] piece = refl
antiquoted-end (p ∷ ps) piece = ap (with_antiquoted (out-Piece p)) (antiquoted-end ps piece) ∙ with-end (out-Piece p) (antiquoted ps) (antiquoted (piece ∷ []))

pub sees-pieces-next : (ps : List Piece) (i : ℕ) (d x : Piece) (a b c : Seen) → x ≡ get_or ps i d → i < length ps → Sees (Some_of (UnboundInExp a.names) (antiquoted (take i ps))) a b → Sees (InPiece b.names x) b c
    → Sees (Some_of (UnboundInExp a.names) (antiquoted (take (i + 1) ps))) a c
sees-pieces-next ps i d x a b c e h s t =
    subst (λ l. Sees (Some_of (UnboundInExp a.names) l) a c) (sym (antiquoted-end (take i ps) x) ∙ ap antiquoted (ap (λ y. take i ps ++ y ∷ []) e ∙ sym (take_more ps i d h)))
    (sees-lists UnboundInExp (antiquoted (take i ps)) (antiquoted (x ∷ [])) a b c s t)

pub sees-plain : (piece : Piece) (text : List ℕ) (a : Seen) → out-Piece piece ≡ Piece-F.Plain text → Sees (InPiece a.names piece) a a
sees-plain piece text a e = subst (λ q. Sees (Some_of (UnboundInExp a.names) (with_antiquoted q [])) a a) (sym e) (sees-nil (UnboundInExp a.names) a)

pub sees-anti : (piece : Piece) (x : Exp) (a b : Seen) → out-Piece piece ≡ Piece-F.Anti x → Sees (UnboundInExp a.names x) a b → Sees (InPiece a.names piece) a b
sees-anti piece x a b e s = subst (λ q. Sees (Some_of (UnboundInExp a.names) (with_antiquoted q [])) a b) (sym e) (sees-one (UnboundInExp a.names) x a b s)

-- `let`
pub sees-let : (e : Exp) (ds : List Dec) (es : List Exp) (a b : Seen) → form_of_exp e ≡ ExpForm-F.Let ds es → Sees (InLet a.names ds es) a b → Sees (UnboundInExp a.names e) a b
sees-let e ds es a b f s = sees-to _ _ a b to from s
  where
    to : (place : ℕ) → InLet a.names ds es place → UnboundInExp a.names e place
    to place (inl h) = in_let f h
    to place (inr (more, g, (x, i, h))) = in_let_body f g i h

    go : (place : ℕ) → ExpCases a.names e place → InLet a.names ds es place
    go place (inl (other, g, y, k)) = absurd cc
    go place (inr (inl y)) = absurd (of-none (subst (λ l. Some_of (UnboundInExp a.names) (exp_parts l) place) f y).1)
    go place (inr (inr (inl y))) = absurd (of-none (subst (λ l. Some_of (UnboundInRule a.names) (exp_rules l) place) f y).1)
    go place (inr (inr (inr (inl (u, k, y))))) = absurd (no-type (sym (ap exp_type f) ∙ k))
      where
        no-type : {t : Ty} → None ≡ Some t → ⊥
        no-type e = absurd cc
    go place (inr (inr (inr (inr (inl (xs, ys, g, y)))))) = inl (let same : xs ≡ ds = cc in subst (λ z. UnboundInDecs a.names z place) same y)
    go place (inr (inr (inr (inr (inr (xs, ys, g, more, h, y)))))) =
        let same : xs ≡ ds = cc in let alike : ys ≡ es = cc in
        inr (more, subst (λ z. AddsAll a.names z more) same h, subst (λ z. Some_of (UnboundInExp (inside more a.names)) z place) alike y)

    from : (place : ℕ) → UnboundInExp a.names e place → InLet a.names ds es place
    from place x = go place (exp-cases x)
