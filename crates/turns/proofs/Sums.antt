-- Sums over lists that change at one place.
use Rattle.std.proofs.Common.{◌≡◌, ◌∙◌, ℕ, zero, suc, ◌+◌, ◌<◌, ◌≤◌, ◌≢◌, List, [], ◌∷◌, ◌++◌, length, map, set, refl, sym, ap, arith}
use mathlib.Core.Option.{some-injective, some-ne-none}
use lib.ListN.{get_elem?}
use Rattle.turns.specs.Turns.{total, At}

module _ {A : Type 0} where
  -- a seat's number is below that of all seats
  pub place : (l : List A) (i : ℕ) (a : A) → At l i a → i < length l
  place [] i a e = absurd (some-ne-none a (sym e))
  place (x ∷ xs) zero a e = omega arith
  place (x ∷ xs) (suc i) a e = omega (arith, place xs i a e)

  -- one seat is one way
  pub one_way : (l : List A) (i j : ℕ) (a b : A) → i ≡ j → At l i a → At l j b → a ≡ b
  one_way l i j a b same e f = some-injective a b (sym e ∙ ap (λ (k : ℕ). get_elem? l k) same ∙ f)

  module _ (g : A → ℕ) where
    pub total-append : (l m : List A) → total g (l ++ m) ≡ total g l + total g m
    total-append [] m = omega arith
    total-append (x ∷ xs) m = omega (arith, total-append xs m)

    pub total-set : (l : List A) (j : ℕ) (v w : A) → At l j v → total g (set l j w) + g v ≡ total g l + g w
    total-set [] j v w e = absurd (some-ne-none v (sym e))
    total-set (x ∷ xs) zero v w e = omega (arith, ap g (some-injective x v e))
    total-set (x ∷ xs) (suc j) v w e = omega (arith, total-set xs j v w e)

    -- one is at most all
    pub term_le : (l : List A) (j : ℕ) (v : A) → At l j v → g v ≤ total g l
    term_le [] j v e = absurd (some-ne-none v (sym e))
    term_le (x ∷ xs) zero v e = omega (arith, ap g (some-injective x v e))
    term_le (x ∷ xs) (suc j) v e = omega (arith, term_le xs j v e)

    -- two are at most all
    pub terms_le : (l : List A) (j k : ℕ) (v u : A) → k ≢ j → At l j v → At l k u → g v + g u ≤ total g l
    terms_le [] j k v u n e d = absurd (some-ne-none v (sym e))
    terms_le (x ∷ xs) zero zero v u n e d = absurd (n refl)
    terms_le (x ∷ xs) zero (suc k) v u n e d = omega (arith, ap g (some-injective x v e), term_le xs k u d)
    terms_le (x ∷ xs) (suc j) zero v u n e d = omega (arith, ap g (some-injective x u d), term_le xs j v e)
    terms_le (x ∷ xs) (suc j) (suc k) v u n e d = omega (arith, terms_le xs j k v u (λ h. n (ap suc h)) e d)

  -- where each is at most another number of it, so is the sum
  pub total_le : (g h : A → ℕ) (l : List A) → ((j : ℕ) (v : A) → At l j v → g v ≤ h v) → total g l ≤ total h l
  total_le g h [] f = omega arith
  total_le g h (v ∷ vs) f = omega (arith, f 0 v refl, total_le g h vs (λ j u e. f (suc j) u e))

  -- the sum over a list whose elements were changed first
  pub total-map : {B : Type 0} (f : A → B) (g : B → ℕ) (l : List A) → total g (map f l) ≡ total (λ a. g (f a)) l
  total-map f g [] = refl
  total-map f g (x ∷ xs) = omega (arith, total-map f g xs)
