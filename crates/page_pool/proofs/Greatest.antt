-- The greatest of a number of each, and sums, over lists that change.
use Rattle.std.proofs.Common.{◌≡◌, ◌∙◌, ℕ, zero, suc, ◌+◌, ◌*◌, ◌<◌, ◌≤◌, ◌≢◌, List, [], ◌∷◌, ◌++◌, set, sym, refl, ap, lt_of_not-le, arith}
use Rattle.std.proofs.Math.Nat.{mul-le-mul, mul-zero, mul-add, mul-one, add-mul, one-mul}
use mathlib.Core.Option.{some-injective, some-ne-none}
use mathlib.Core.Logic.{dite}
use native.Mathlib.Decide.{ℕ_discrete, dec_le}
use Rattle.atomic_table.proofs.Lists.{set_else, set_here, at_longer}
use Rattle.turns.specs.Turns.{At, total}
use Rattle.turns.proofs.Sums.{place, one_way, total_le}
use Rattle.page_pool.specs.Sharing.{greatest}

module _ {A : Type 0} (f : A → ℕ) where
  pub le_greatest : (l : List A) (j : ℕ) (v : A) → At l j v → f v ≤ greatest f l
  le_greatest [] j v e = absurd (some-ne-none v (sym e))
  le_greatest (x ∷ xs) zero v e = omega (arith, ap f (some-injective x v e))
  le_greatest (x ∷ xs) (suc j) v e = omega (arith, le_greatest xs j v e)

  pub greatest_le : (l : List A) (b : ℕ) → ((j : ℕ) (v : A) → At l j v → f v ≤ b) → greatest f l ≤ b
  greatest_le [] b h = omega arith
  greatest_le (x ∷ xs) b h = omega (arith, h 0 x refl, greatest_le xs b (λ j v e. h (suc j) v e))

  -- it doesn't fall where one rises
  pub greatest-set : (l : List A) (id : ℕ) (v w : A) → At l id v → f v ≤ f w → greatest f l ≤ greatest f (set l id w)
  greatest-set l id v w at up = greatest_le l (greatest f (set l id w)) (λ j u e. dite (ℕ_discrete j id)
      (λ here. let new = le_greatest (set l id w) id w (set_here l id w (place l id v at)) in omega (arith, up, new, ap f (one_way l j id u v here e at)))
      (λ apart. le_greatest (set l id w) j u (set_else l id j w apart ∙ e)))

  pub greatest-append : (l m : List A) → greatest f l ≤ greatest f (l ++ m)
  greatest-append l m = greatest_le l (greatest f (l ++ m)) (λ j u e. le_greatest (l ++ m) j u (at_longer l m j u e))

  -- where all others have none, the sum is that of the one
  pub total_alone : (l : List A) (id : ℕ) (v : A) → At l id v → ((j : ℕ) (u : A) → j ≢ id → At l j u → f u ≡ 0) → total f l ≡ f v
  total_alone [] id v at none = absurd (some-ne-none v (sym at))
  total_alone (x ∷ xs) zero v at none =
      let rest = total_none xs (λ j u e. none (suc j) u (λ h. omega arith) e) in
      omega (arith, rest, ap f (some-injective x v at))
    where
      total_none : (l : List A) → ((j : ℕ) (u : A) → At l j u → f u ≡ 0) → total f l ≡ 0
      total_none [] h = refl
      total_none (x ∷ xs) h = omega (arith, h 0 x refl, total_none xs (λ j u e. h (suc j) u e))
  total_alone (x ∷ xs) (suc id) v at none = omega (arith, none 0 x (λ h. omega arith) refl, total_alone xs id v at (λ j u apart e. none (suc j) u (λ h. apart (omega arith)) e))

  -- a number times each
  pub total-times : (n : ℕ) (l : List A) → total (λ v. n * f v) l ≡ n * total f l
  total-times n [] = sym (mul-zero n)
  total-times n (x ∷ xs) = ap (λ k. n * f x + k) (total-times n xs) ∙ sym (mul-add n (f x) (total f xs))

-- where each is at most another number of it, and one by so much less
pub total_le-but : {A : Type 0} (g h : A → ℕ) (l : List A) (id : ℕ) (v : A) → At l id v → ((j : ℕ) (u : A) → At l j u → g u ≤ h u) → total g l + h v ≤ total h l + g v
total_le-but g h [] id v at le = absurd (some-ne-none v (sym at))
total_le-but g h (x ∷ xs) zero v at le =
    let rest = total_le g h xs (λ j u e. le (suc j) u e) in
    omega (arith, rest, ap g (some-injective x v at), ap h (some-injective x v at))
total_le-but g h (x ∷ xs) (suc id) v at le = omega (arith, le 0 x refl, total_le-but g h xs id v at (λ j u e. le (suc j) u e))

-- what a larger number of shares comes to
pub more_shares : (made low : ℕ) {g g' a a' : ℕ} → g ≤ g' → a ≤ a' → ((low + 1) * a ≤ made → made < g * a) → (low + 1) * a' ≤ made → made < g' * a'
more_shares made low {g} {g'} {a} {a'} up more law fits =
    let less : (low + 1) * a ≤ (low + 1) * a' = mul-le-mul (omega arith) more in
    let was = law (omega (arith, less, fits)) in
    let now : g * a ≤ g' * a' = mul-le-mul up more in
    omega (arith, was, now)

-- Where all pages are held, each holder holds at most g for each of its askers, and one holds only `low`, some g above a share
pub short_share : (made low g a askers : ℕ) → 0 < a → a ≤ askers → low ≤ g → made + g * a ≤ g * askers + low → (low + 1) * askers ≤ made → made < g * askers
short_share made low g a askers asks within below held fits = by (dec_le (g * askers) made)
  where
    by : Dec (g * askers ≤ made) → made < g * askers
    by (no d) = lt_of_not-le d
    by (yes d) =
        let one : g * 1 ≤ g * a = mul-le-mul (omega arith) asks in
        let flat : g * 1 ≡ g = mul-one g in
        let all : low ≡ g = omega (arith, d, held, one, flat, below) in
        let more : (low + 1) * askers ≡ g * askers + askers = ap (λ (n : ℕ). (n + 1) * askers) all ∙ add-mul g 1 askers ∙ ap (λ n. g * askers + n) (one-mul askers) in
        absurd (omega (arith, more, fits, held, one, flat, all, asks, within))
