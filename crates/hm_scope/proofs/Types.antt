-- What has no binding in a type, by its form.
use Rattle.std.proofs.Common.{◌≡◌, ◌⊎◌, inl, inr, refl, sym, ◌∙◌, ap, subst, ℕ, true, false, List, [], ◌∷◌}
use Rattle.sml_syntax.specs.declared.tree.Ty.{Ty}
use Rattle.sml_syntax.specs.declared.tree.TyForm.TheOpen.{TyForm-F}
use Rattle.typing_rules.specs.Scope.{Names, form_of_type, type_parts, type_start, type_name_place, has_name, UnboundInType, unbound_variable, unbound_type, in_type_part}
use Rattle.hm_scope.specs.Least.{Seen, Sees, Some_of}
use Rattle.hm_scope.proofs.Leasts.{sees-to, sees-then, sees-two, of-none}

abbrev pub TypeCases : Names → List (List ℕ) → Ty → ℕ → Type 0
TypeCases n vs t p =
    ((name : List ℕ) × (form_of_type t ≡ TyForm-F.Var name) × (has_name name vs ≡ false) × (p ≡ type_start t))
    ⊎ ((name : List ℕ) × (ts : List Ty) × (form_of_type t ≡ TyForm-F.Con name ts) × (has_name name n.types ≡ false) × (p ≡ type_name_place name t))
    ⊎ Some_of (UnboundInType n vs) (type_parts (form_of_type t)) p

pub type-cases : {n : Names} {vs : List (List ℕ)} {t : Ty} {p : ℕ} → UnboundInType n vs t p → TypeCases n vs t p
type-cases (unbound_variable {t} {name} f h) = inl (name, f, h, refl)
type-cases (unbound_type {t} {name} {arguments} f h) = inr (inl (name, arguments, f, h, refl))
type-cases (in_type_part {t} {u} {place} i h) = inr (inr (u, i, h))

-- what has parts alone
pub from-parts : (n : Names) (vs : List (List ℕ)) (t : Ty) → ((name : List ℕ) → form_of_type t ≡ TyForm-F.Var name → ⊥)
    → ((name : List ℕ) (ts : List Ty) → form_of_type t ≡ TyForm-F.Con name ts → has_name name n.types ≡ false → ⊥)
    → (p : ℕ) → UnboundInType n vs t p → Some_of (UnboundInType n vs) (type_parts (form_of_type t)) p
from-parts n vs t no_var no_con p h = go (type-cases h)
  where
    go : TypeCases n vs t p → Some_of (UnboundInType n vs) (type_parts (form_of_type t)) p
    go (inl (name, g, x, y)) = absurd (no_var name g)
    go (inr (inl (name, us, g, x, y))) = absurd (no_con name us g x)
    go (inr (inr s)) = s

pub to-parts : (n : Names) (vs : List (List ℕ)) (t : Ty) (p : ℕ) → Some_of (UnboundInType n vs) (type_parts (form_of_type t)) p → UnboundInType n vs t p
to-parts n vs t p (u, i, h) = in_type_part i h

pub sees-parts : (vs : List (List ℕ)) (t : Ty) (ts : List Ty) (a b : Seen) → type_parts (form_of_type t) ≡ ts → ((name : List ℕ) → form_of_type t ≡ TyForm-F.Var name → ⊥)
    → ((name : List ℕ) (us : List Ty) → form_of_type t ≡ TyForm-F.Con name us → has_name name a.names.types ≡ false → ⊥)
    → Sees (Some_of (UnboundInType a.names vs) ts) a b → Sees (UnboundInType a.names vs t) a b
sees-parts vs t ts a b e no_var no_con s =
    sees-to _ _ a b (λ p h. to-parts a.names vs t p (subst (λ l. Some_of (UnboundInType a.names vs) l p) (sym e) h))
    (λ p h. subst (λ l. Some_of (UnboundInType a.names vs) l p) e (from-parts a.names vs t no_var no_con p h)) s

pub sees-tuple : (vs : List (List ℕ)) (t : Ty) (ts : List Ty) (a b : Seen) → form_of_type t ≡ TyForm-F.Tuple ts → Sees (Some_of (UnboundInType a.names vs) ts) a b → Sees (UnboundInType a.names vs t) a b
sees-tuple vs t ts a b f s = sees-parts vs t ts a b (ap type_parts f) (λ name g. absurd cc) (λ name us g x. absurd cc) s

pub sees-arrow : (vs : List (List ℕ)) (t from to : Ty) (a b c : Seen) → form_of_type t ≡ TyForm-F.Arrow from to → Sees (UnboundInType a.names vs from) a b → Sees (UnboundInType b.names vs to) b c
    → Sees (UnboundInType a.names vs t) a c
sees-arrow vs t from to a b c f s r =
    sees-parts vs t (from ∷ to ∷ []) a c (ap type_parts f) (λ name g. absurd cc) (λ name us g x. absurd cc) (sees-two (λ n. UnboundInType n vs) from to a b c s r)

pub sees-con : (vs : List (List ℕ)) (t : Ty) (name : List ℕ) (ts : List Ty) (a b : Seen) → form_of_type t ≡ TyForm-F.Con name ts → has_name name a.names.types ≡ true
    → Sees (Some_of (UnboundInType a.names vs) ts) a b → Sees (UnboundInType a.names vs t) a b
sees-con vs t name ts a b f h s =
    sees-parts vs t ts a b (ap type_parts f) (λ other g. absurd cc) (λ other us g x. not-both (same other us g) x) s
  where
    same : (other : List ℕ) (us : List Ty) → form_of_type t ≡ TyForm-F.Con other us → name ≡ other
    same other us g = cc

    not-both : {other : List ℕ} → name ≡ other → has_name other a.names.types ≡ false → ⊥
    not-both e x = absurd cc

pub sees-con-unbound : (vs : List (List ℕ)) (t : Ty) (name : List ℕ) (ts : List Ty) (place : ℕ) (a b c : Seen) → form_of_type t ≡ TyForm-F.Con name ts → has_name name a.names.types ≡ false
    → place ≡ type_name_place name t → Sees (λ p. p ≡ place) a b → Sees (Some_of (UnboundInType b.names vs) ts) b c → Sees (UnboundInType a.names vs t) a c
sees-con-unbound vs t name ts place a b c f h e s r = sees-to _ _ a c to from (sees-then (λ p. p ≡ place) (λ n p. Some_of (UnboundInType n vs) ts p) a b c s r)
  where
    to : (p : ℕ) → (p ≡ place) ⊎ Some_of (UnboundInType a.names vs) ts p → UnboundInType a.names vs t p
    to p (inl g) = subst (UnboundInType a.names vs t) (sym (g ∙ e)) (unbound_type f h)
    to p (inr x) = to-parts a.names vs t p (subst (λ l. Some_of (UnboundInType a.names vs) (type_parts l) p) (sym f) x)

    go : (p : ℕ) → TypeCases a.names vs t p → (p ≡ place) ⊎ Some_of (UnboundInType a.names vs) ts p
    go p (inl (other, g, x, y)) = absurd cc
    go p (inr (inl (other, us, g, x, y))) = inl (let k : name ≡ other = cc in y ∙ ap (λ z. type_name_place z t) (sym k) ∙ sym e)
    go p (inr (inr x)) = inr (subst (λ l. Some_of (UnboundInType a.names vs) (type_parts l) p) f x)

    from : (p : ℕ) → UnboundInType a.names vs t p → (p ≡ place) ⊎ Some_of (UnboundInType a.names vs) ts p
    from p x = go p (type-cases x)

pub sees-var-unbound : (vs : List (List ℕ)) (t : Ty) (name : List ℕ) (a b : Seen) → form_of_type t ≡ TyForm-F.Var name → has_name name vs ≡ false → Sees (λ p. p ≡ type_start t) a b
    → Sees (UnboundInType a.names vs t) a b
sees-var-unbound vs t name a b f h s = sees-to _ _ a b to from s
  where
    to : (p : ℕ) → p ≡ type_start t → UnboundInType a.names vs t p
    to p g = subst (UnboundInType a.names vs t) (sym g) (unbound_variable f h)

    none : (p : ℕ) → Some_of (UnboundInType a.names vs) (type_parts (form_of_type t)) p → ⊥
    none p x = of-none (subst (λ l. Some_of (UnboundInType a.names vs) (type_parts l) p) f x).1

    go : (p : ℕ) → TypeCases a.names vs t p → p ≡ type_start t
    go p (inl (other, g, x, y)) = y
    go p (inr (inl (other, us, g, x, y))) = absurd cc
    go p (inr (inr x)) = absurd (none p x)

    from : (p : ℕ) → UnboundInType a.names vs t p → p ≡ type_start t
    from p x = go p (type-cases x)
