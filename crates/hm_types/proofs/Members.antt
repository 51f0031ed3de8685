-- Members of lists of classes.
use Rattle.std.proofs.Common.{◌≡◌, ◌≢◌, ℕ, zero, suc, ◌<◌, List, [], ◌∷◌, ◌++◌, length, refl, ap, sym, ◌∙◌, subst, arith, get_or, ◌⊎◌, inl, inr, IfOk, Result, Ok, Err}
use Rattle.hm_types.specs.declared.node.Node.{Node}
use Rattle.hm_types.specs.Classes.{at}
use Rattle.hm_types.specs.Joining.{IsIn, Within, Frame}
use Rattle.hm_types.proofs.Sets.{split}

pub all-ok : {A E : Type 0} (X : Type 0) (r : Result A E) → X → IfOk r (λ _. X)
all-ok X (Ok a) x = x
all-ok X (Err e) x = tt

pub head-in : (x : ℕ) (xs : List ℕ) → IsIn x (x ∷ xs)
head-in x xs = (0, (omega arith), refl)

pub tail-in : (c x : ℕ) (xs : List ℕ) → IsIn c xs → IsIn c (x ∷ xs)
tail-in c x xs (j, l, q) = (suc j, omega (arith, l), q)

pub in-front : (c : ℕ) (xs ys : List ℕ) → IsIn c xs → IsIn c (xs ++ ys)
in-front c [] ys (j, l, q) = absurd (omega (arith, l))
in-front c (x ∷ xs) ys (zero, l, q) = (0, (omega arith), q)
in-front c (x ∷ xs) ys (suc j, l, q) = tail-in c x (xs ++ ys) (in-front c xs ys (j, omega (arith, l), q))

pub in-back : (c : ℕ) (xs ys : List ℕ) → IsIn c ys → IsIn c (xs ++ ys)
in-back c [] ys i = i
in-back c (x ∷ xs) ys i = tail-in c x (xs ++ ys) (in-back c xs ys i)

pub last-in : (x : ℕ) (xs : List ℕ) → IsIn x (xs ++ x ∷ [])
last-in x xs = in-back x xs (x ∷ []) (head-in x [])

-- a member of a list with one item more is that item, or one of before
pub in-snoc : (c x : ℕ) (xs : List ℕ) → IsIn c (xs ++ x ∷ []) → (c ≡ x) ⊎ IsIn c xs
in-snoc c x [] (zero, l, q) = inl (sym q)
in-snoc c x [] (suc j, l, q) = absurd (omega (arith, l))
in-snoc c x (y ∷ xs) (zero, l, q) = inr (0, omega arith, q)
in-snoc c x (y ∷ xs) (suc j, l, q) = go (in-snoc c x xs (j, omega (arith, l), q))
  where
    go : (c ≡ x) ⊎ IsIn c xs → (c ≡ x) ⊎ IsIn c (y ∷ xs)
    go (inl e) = inl e
    go (inr i) = inr (tail-in c y xs i)

pub within-snoc : (n x : ℕ) (xs : List ℕ) → Within n xs → x < n → Within n (xs ++ x ∷ [])
within-snoc n x [] w l zero k = l
within-snoc n x [] w l (suc i) k = absurd (omega (arith, k))
within-snoc n x (y ∷ xs) w l zero k = w 0 (omega arith)
within-snoc n x (y ∷ xs) w l (suc i) k = within-snoc n x xs (λ j m. w (suc j) (omega (arith, m))) l i (omega (arith, k))

pub within-in : (n c : ℕ) (xs : List ℕ) → Within n xs → IsIn c xs → c < n
within-in n c xs w (j, l, q) = subst (λ z. z < n) q (w j l)

pub frame-same : (T : List Node) (before : List ℕ) → Frame T T before before
frame-same T before = record { kept = λ c i. i; same = λ c. inl refl; within = λ w. w }

pub frame-two : (old new : List Node) (before after : List ℕ) (p q : ℕ) → after ≡ (before ++ p ∷ []) ++ q ∷ [] → p < length old → q < length old
    → ((c : ℕ) → (c ≡ p → ⊥) → (c ≡ q → ⊥) → at new c ≡ at old c) → Frame old new before after
frame-two old new before after p q e lp lq h = record {
  kept = λ c i. subst (IsIn c) (sym e) (in-front c (before ++ p ∷ []) (q ∷ []) (in-front c before (p ∷ []) i));
  same = λ c. go c (split c p) (split c q);
  within = λ w. subst (Within (length old)) (sym e) (within-snoc (length old) q (before ++ p ∷ []) (within-snoc (length old) p before w lp) lq);
}
  where
    go : (c : ℕ) → (c ≡ p) ⊎ (c ≢ p) → (c ≡ q) ⊎ (c ≢ q) → (at new c ≡ at old c) ⊎ IsIn c after
    go c (inl a) b = inr (subst (IsIn c) (sym e) (subst (λ z. IsIn z ((before ++ p ∷ []) ++ q ∷ [])) (sym a) (in-front p (before ++ p ∷ []) (q ∷ []) (last-in p before))))
    go c (inr a) (inl b) = inr (subst (IsIn c) (sym e) (subst (λ z. IsIn z ((before ++ p ∷ []) ++ q ∷ [])) (sym b) (last-in q (before ++ p ∷ []))))
    go c (inr a) (inr b) = inl (h c a b)

pub frame-on : (T U V : List Node) (xs ys zs : List ℕ) → length U ≡ length T → Frame T U xs ys → Frame U V ys zs → Frame T V xs zs
frame-on T U V xs ys zs n F G = record {
  kept = λ c i. G.kept c (F.kept c i);
  same = λ c. go c (F.same c) (G.same c);
  within = λ w. subst (λ z. Within z zs) n (G.within (subst (λ z. Within z ys) (sym n) (F.within w)));
}
  where
    go : (c : ℕ) → (at U c ≡ at T c) ⊎ IsIn c ys → (at V c ≡ at U c) ⊎ IsIn c zs → (at V c ≡ at T c) ⊎ IsIn c zs
    go c (inl a) (inl b) = inl (b ∙ a)
    go c (inl a) (inr b) = inr b
    go c (inr a) b = inr (G.kept c a)

pub err-over : {A B E : Type 0} (x y : E) → ◌≡◌ {A = Result A E} (Err x) (Err y) → ◌≡◌ {A = Result B E} (Err x) (Err y)
err-over {A} {B} {E} x y q = let e : x ≡ y = cc in ap (λ z. Err z) e

pub at-front : (xs ys : List ℕ) (i : ℕ) → i < length xs → get_or (xs ++ ys) i 0 ≡ get_or xs i 0
at-front [] ys i l = absurd (omega (arith, l))
at-front (x ∷ xs) ys zero l = refl
at-front (x ∷ xs) ys (suc i) l = at-front xs ys i (omega (arith, l))
