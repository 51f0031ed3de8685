-- What has no binding in a pattern, by its form.
use Rattle.std.proofs.Common.{◌≡◌, ◌⊎◌, inl, inr, refl, sym, ◌∙◌, ap, subst, ℕ, List, [], ◌∷◌, Some, None}
use Rattle.sml_syntax.specs.declared.tree.Ty.{Ty}
use Rattle.sml_syntax.specs.declared.tree.Pat.{Pat, out-Pat}
use Rattle.sml_syntax.specs.declared.tree.PatForm.TheVariants as w
use Rattle.sml_syntax.specs.declared.tree.PatForm.TheOpen.{PatForm-F}
use Rattle.sml_syntax.specs.Layers.{form_of_pat}
use Rattle.typing_rules.specs.Scope.{Names, IsOneOf, first_one, other_one, pat_parts, pat_type, pat_start, status, UnboundInType, UnboundInPat, unbound_constructor, in_pat_part, in_pat_type}
use Rattle.hm_scope.specs.Least.{Seen, Sees, Some_of}
use Rattle.hm_scope.proofs.Forms.{pat-tuple, pat-list}
use Rattle.hm_scope.proofs.Leasts.{sees-to, sees-then, sees-nil, of-none}

abbrev pub PatCases : Names → Pat → ℕ → Type 0
PatCases n p place =
    ((name : List ℕ) × (q : Pat) × (form_of_pat p ≡ PatForm-F.Con name q) × (status name n.values ≡ None) × (place ≡ pat_start p))
    ⊎ Some_of (UnboundInPat n) (pat_parts (form_of_pat p)) place
    ⊎ ((t : Ty) × (pat_type (form_of_pat p) ≡ Some t) × UnboundInType n [] t place)

pub pat-cases : {n : Names} {p : Pat} {place : ℕ} → UnboundInPat n p place → PatCases n p place
pat-cases (unbound_constructor {p} {q} {name} f h) = inl (name, q, f, h, refl)
pat-cases (in_pat_part {p} {q} {place} i h) = inr (inl (q, i, h))
pat-cases (in_pat_type {p} {t} {place} e h) = inr (inr (t, e, h))

pub sees-pats : (p : Pat) (ps : List Pat) (a b : Seen) → pat_parts (form_of_pat p) ≡ ps → pat_type (form_of_pat p) ≡ None
    → ((name : List ℕ) (q : Pat) → form_of_pat p ≡ PatForm-F.Con name q → status name a.names.values ≡ None → ⊥)
    → Sees (Some_of (UnboundInPat a.names) ps) a b → Sees (UnboundInPat a.names p) a b
sees-pats p ps a b e none no_con s = sees-to _ _ a b to from s
  where
    to : (place : ℕ) → Some_of (UnboundInPat a.names) ps place → UnboundInPat a.names p place
    to place x = let y = subst (λ l. Some_of (UnboundInPat a.names) l place) (sym e) x in in_pat_part y.1 y.2

    go : (place : ℕ) → PatCases a.names p place → Some_of (UnboundInPat a.names) ps place
    go place (inl (name, q, f, h, k)) = absurd (no_con name q f h)
    go place (inr (inl x)) = subst (λ l. Some_of (UnboundInPat a.names) l place) e x
    go place (inr (inr (t, f, h))) = absurd cc

    from : (place : ℕ) → UnboundInPat a.names p place → Some_of (UnboundInPat a.names) ps place
    from place x = go place (pat-cases x)

pub sees-pat-tuple : (p : Pat) (ps : List Pat) (a b : Seen) → form_of_pat p ≡ PatForm-F.Tuple ps → Sees (Some_of (UnboundInPat a.names) ps) a b → Sees (UnboundInPat a.names p) a b
sees-pat-tuple p ps a b f s = sees-pats p ps a b (ap pat_parts f) (ap pat_type f) (λ name q g h. absurd cc) s

pub sees-pat-list : (p : Pat) (ps : List Pat) (a b : Seen) → form_of_pat p ≡ PatForm-F.List ps → Sees (Some_of (UnboundInPat a.names) ps) a b → Sees (UnboundInPat a.names p) a b
sees-pat-list p ps a b f s = sees-pats p ps a b (ap pat_parts f) (ap pat_type f) (λ name q g h. absurd cc) s

pub sees-pat-listed : (p : Pat) (ps : List Pat) (a b : Seen) → (((out-Pat p).form ≡ w.Tuple ps) ⊎ ((out-Pat p).form ≡ w.List ps)) → Sees (Some_of (UnboundInPat a.names) ps) a b → Sees (UnboundInPat a.names p) a b
sees-pat-listed p ps a b (inl k) s = sees-pat-tuple p ps a b (pat-tuple ps k) s
sees-pat-listed p ps a b (inr k) s = sees-pat-list p ps a b (pat-list ps k) s

-- a constructor that has a binding, and one that has none
pub sees-pat-con : (p q : Pat) (name : List ℕ) (a b : Seen) → form_of_pat p ≡ PatForm-F.Con name q → (status name a.names.values ≡ None → ⊥) → Sees (UnboundInPat a.names q) a b → Sees (UnboundInPat a.names p) a b
sees-pat-con p q name a b f bound s = sees-to _ _ a b to from s
  where
    to : (place : ℕ) → UnboundInPat a.names q place → UnboundInPat a.names p place
    to place x = in_pat_part (subst (λ l. IsOneOf q (pat_parts l)) (sym f) first_one) x

    part : (place : ℕ) → Some_of (UnboundInPat a.names) (q ∷ []) place → UnboundInPat a.names q place
    part place (r, first_one, h) = h
    part place (r, other_one i, h) = absurd (of-none i)

    go : (place : ℕ) → PatCases a.names p place → UnboundInPat a.names q place
    go place (inl (other, r, g, h, k)) = absurd (bound (let e : name ≡ other = cc in ap (λ z. status z a.names.values) e ∙ h))
    go place (inr (inl x)) = part place (subst (λ l. Some_of (UnboundInPat a.names) (pat_parts l) place) f x)
    go place (inr (inr (t, e, h))) = absurd (none-typed (sym (ap pat_type f) ∙ e))
      where
        none-typed : {t : Ty} → None ≡ Some t → ⊥
        none-typed e = absurd cc

    from : (place : ℕ) → UnboundInPat a.names p place → UnboundInPat a.names q place
    from place x = go place (pat-cases x)

pub sees-pat-unbound : (p q : Pat) (name : List ℕ) (a b c : Seen) → form_of_pat p ≡ PatForm-F.Con name q → status name a.names.values ≡ None → Sees (λ place. place ≡ pat_start p) a b
    → Sees (UnboundInPat b.names q) b c → Sees (UnboundInPat a.names p) a c
sees-pat-unbound p q name a b c f h s r = sees-to _ _ a c to from (sees-then (λ place. place ≡ pat_start p) (λ n. UnboundInPat n q) a b c s r)
  where
    to : (place : ℕ) → (place ≡ pat_start p) ⊎ UnboundInPat a.names q place → UnboundInPat a.names p place
    to place (inl e) = subst (UnboundInPat a.names p) (sym e) (unbound_constructor f h)
    to place (inr x) = in_pat_part (subst (λ l. IsOneOf q (pat_parts l)) (sym f) first_one) x

    part : (place : ℕ) → Some_of (UnboundInPat a.names) (q ∷ []) place → UnboundInPat a.names q place
    part place (r, first_one, h) = h
    part place (r, other_one i, h) = absurd (of-none i)

    go : (place : ℕ) → PatCases a.names p place → (place ≡ pat_start p) ⊎ UnboundInPat a.names q place
    go place (inl (other, u, g, x, k)) = inl k
    go place (inr (inl x)) = inr (part place (subst (λ l. Some_of (UnboundInPat a.names) (pat_parts l) place) f x))
    go place (inr (inr (t, e, x))) = absurd cc

    from : (place : ℕ) → UnboundInPat a.names p place → (place ≡ pat_start p) ⊎ UnboundInPat a.names q place
    from place x = go place (pat-cases x)

pub sees-pat-typed : (p q : Pat) (t : Ty) (a b c : Seen) → form_of_pat p ≡ PatForm-F.Typed q t → Sees (UnboundInPat a.names q) a b → Sees (UnboundInType b.names [] t) b c → Sees (UnboundInPat a.names p) a c
sees-pat-typed p q t a b c f s r = sees-to _ _ a c to from (sees-then (UnboundInPat a.names q) (λ n. UnboundInType n [] t) a b c s r)
  where
    to : (place : ℕ) → UnboundInPat a.names q place ⊎ UnboundInType a.names [] t place → UnboundInPat a.names p place
    to place (inl x) = in_pat_part (subst (λ l. IsOneOf q (pat_parts l)) (sym f) first_one) x
    to place (inr x) = in_pat_type (ap pat_type f) x

    part : (place : ℕ) → Some_of (UnboundInPat a.names) (q ∷ []) place → UnboundInPat a.names q place
    part place (r, first_one, h) = h
    part place (r, other_one i, h) = absurd (of-none i)

    go : (place : ℕ) → PatCases a.names p place → UnboundInPat a.names q place ⊎ UnboundInType a.names [] t place
    go place (inl (other, u, g, x, k)) = absurd cc
    go place (inr (inl x)) = inl (part place (subst (λ l. Some_of (UnboundInPat a.names) (pat_parts l) place) f x))
    go place (inr (inr (u, e, x))) = inr (let same : u ≡ t = cc in subst (λ z. UnboundInType a.names [] z place) same x)

    from : (place : ℕ) → UnboundInPat a.names p place → UnboundInPat a.names q place ⊎ UnboundInType a.names [] t place
    from place x = go place (pat-cases x)

-- no parts
pub sees-pat-leaf : (p : Pat) (a : Seen) → pat_parts (form_of_pat p) ≡ [] → pat_type (form_of_pat p) ≡ None → ((name : List ℕ) (q : Pat) → form_of_pat p ≡ PatForm-F.Con name q → ⊥) → Sees (UnboundInPat a.names p) a a
sees-pat-leaf p a e none no_con = sees-pats p [] a a e none (λ name q f h. no_con name q f) (sees-nil (UnboundInPat a.names) a)
