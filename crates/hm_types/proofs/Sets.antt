-- One step of the unifier keeps the assignments.
use Rattle.std.proofs.Common.{◌≡◌, ◌≢◌, ℕ, zero, suc, ◌+◌, ◌<◌, List, [], ◌∷◌, ◌++◌, length, Bool, true, false, refl, ap, sym, ◌∙◌, subst, arith, set, get_or-set_same, get_or-set_other, ◌⊎◌, inl, inr, nat_eq}
use Rattle.std.proofs.lemmas.Bool.{eqb-true, eqb-false}
use Rattle.type_terms.specs.TypeTerms.{terms}
use Rattle.hm_types.specs.declared.node.Node.{Node}
use Rattle.hm_types.specs.declared.node.Node.TheVariants.{Variable}
use Rattle.hm_types.specs.Classes.{Assign, at, terms_of, Holds, Respects}
use Rattle.hm_types.specs.Joining.{Fine, IsFine, Pairs, PairsIn, pairs_of, size_of, weight}

pub split : (a b : ℕ) → (a ≡ b) ⊎ (a ≢ b)
split a b = go (nat_eq a b) refl
  where
    go : (t : Bool) → nat_eq a b ≡ t → (a ≡ b) ⊎ (a ≢ b)
    go true q = inl (eqb-true a b q)
    go false q = inr (eqb-false a b q)

pub at-set : (T : List Node) (h : ℕ) (v : Node) → h < length T → at (set T h v) h ≡ v
at-set T h v l = get_or-set_same T h v Variable l

pub at-other : (T : List Node) (h c : ℕ) (v : Node) → c ≢ h → at (set T h v) c ≡ at T c
at-other T h c v n = get_or-set_other T h c v Variable n

pub respects-set : (pool : List ℕ) (T : List Node) (h : ℕ) (v : Node) (s : Assign) → h < length T → Respects pool T s → Holds pool s h v → Respects pool (set T h v) s
respects-set pool T h v s l r g c = go (split c h)
  where
    go : (c ≡ h) ⊎ (c ≢ h) → Holds pool s c (at (set T h v) c)
    go (inl q) = subst (λ z. Holds pool s z (at (set T h v) z)) (sym q) (subst (Holds pool s h) (sym (at-set T h v l)) g)
    go (inr n) = subst (Holds pool s c) (sym (at-other T h c v n)) (r c)

pub respects-unset : (pool : List ℕ) (T : List Node) (h : ℕ) (v : Node) (s : Assign) → Respects pool (set T h v) s → Holds pool s h (at T h) → Respects pool T s
respects-unset pool T h v s r g c = go (split c h)
  where
    go : (c ≡ h) ⊎ (c ≢ h) → Holds pool s c (at T c)
    go (inl q) = subst (λ z. Holds pool s z (at T z)) (sym q) g
    go (inr n) = subst (Holds pool s c) (at-other T h c v n) (r c)

pub respects-at : (pool : List ℕ) (T : List Node) (h : ℕ) (v : Node) (s : Assign) → h < length T → Respects pool (set T h v) s → Holds pool s h v
respects-at pool T h v s l r = subst (Holds pool s h) (at-set T h v l) (r h)

pub fine-set : (pool : List ℕ) (T : List Node) (h : ℕ) (v : Node) → h < length T → IsFine pool T → Fine pool h v → IsFine pool (set T h v)
fine-set pool T h v l r g c = go (split c h)
  where
    go : (c ≡ h) ⊎ (c ≢ h) → Fine pool c (at (set T h v) c)
    go (inl q) = subst (λ z. Fine pool z (at (set T h v) z)) (sym q) (subst (Fine pool h) (sym (at-set T h v l)) g)
    go (inr n) = subst (Fine pool c) (sym (at-other T h c v n)) (r c)

pub weight-set : (T : List Node) (h : ℕ) (v : Node) → h < length T → weight (set T h v) + size_of (at T h) ≡ weight T + size_of v
unfolding weight
weight-set [] h v l = absurd (omega arith)
weight-set (u ∷ T) zero v l = omega arith
weight-set (u ∷ T) (suc h) v l = let q = weight-set T h v (omega arith) in omega (arith, q)

pub pairs-append : (s : Assign) (w v : List (ℕ × ℕ)) → Pairs s w → Pairs s v → Pairs s (w ++ v)
unfolding Pairs
pairs-append s [] v h g = g
pairs-append s (p ∷ w) v (e, h) g = (e, pairs-append s w v h g)

pub pairs-left : (s : Assign) (w v : List (ℕ × ℕ)) → Pairs s (w ++ v) → Pairs s w
unfolding Pairs
pairs-left s [] v h = tt
pairs-left s (p ∷ w) v (e, h) = (e, pairs-left s w v h)

pub pairs-right : (s : Assign) (w v : List (ℕ × ℕ)) → Pairs s (w ++ v) → Pairs s v
unfolding Pairs
pairs-right s [] v h = h
pairs-right s (p ∷ w) v (e, h) = pairs-right s w v h

pub in-append : (n : ℕ) (w v : List (ℕ × ℕ)) → PairsIn n w → PairsIn n v → PairsIn n (w ++ v)
unfolding PairsIn
in-append n [] v h g = g
in-append n (p ∷ w) v (e, f, h) g = (e, f, in-append n w v h g)

pub in-left : (n : ℕ) (w v : List (ℕ × ℕ)) → PairsIn n (w ++ v) → PairsIn n w
unfolding PairsIn
in-left n [] v h = tt
in-left n (p ∷ w) v (e, f, h) = (e, f, in-left n w v h)

pub in-right : (n : ℕ) (w v : List (ℕ × ℕ)) → PairsIn n (w ++ v) → PairsIn n v
unfolding PairsIn
in-right n [] v h = h
in-right n (p ∷ w) v (e, f, h) = in-right n w v h

-- equal lists of terms are equal in pairs
pub pairs-terms : (s : Assign) (xs ys : List ℕ) → terms_of s xs ≡ terms_of s ys → Pairs s (pairs_of xs ys)
unfolding Pairs pairs_of terms_of
pairs-terms s [] ys q = tt
pairs-terms s (x ∷ xs) [] q = tt
pairs-terms s (x ∷ xs) (y ∷ ys) q = (cc, pairs-terms s xs ys (cc))

pub terms-pairs : (s : Assign) (xs ys : List ℕ) → length xs ≡ length ys → Pairs s (pairs_of xs ys) → terms_of s xs ≡ terms_of s ys
unfolding Pairs pairs_of terms_of
terms-pairs s [] [] l h = refl
terms-pairs s [] (y ∷ ys) l h = absurd (omega (arith, l))
terms-pairs s (x ∷ xs) [] l h = absurd (omega (arith, l))
terms-pairs s (x ∷ xs) (y ∷ ys) l (e, h) = ap (λ z. terms z (terms_of s xs)) e ∙ ap (terms (s y)) (terms-pairs s xs ys (omega (arith, l)) h)

pub terms-length : (s : Assign) (xs ys : List ℕ) → terms_of s xs ≡ terms_of s ys → length xs ≡ length ys
unfolding terms_of
terms-length s [] [] q = refl
terms-length s [] (y ∷ ys) q = absurd (cc)
terms-length s (x ∷ xs) [] q = absurd (cc)
terms-length s (x ∷ xs) (y ∷ ys) q = ap suc (terms-length s xs ys (cc))
