-- What each step keeps of the law of shares.
use Rattle.std.proofs.Common.{◌≡◌, ◌∙◌, ℕ, zero, suc, ◌+◌, ◌*◌, ◌<◌, ◌≤◌, ◌≢◌, ◌⊎◌, inl, inr, ⊎_elim, List, [], ◌∷◌, ◌++◌, length, set, sym, refl, ap, subst, lt_of_not-le, arith}
use Rattle.std.specs.Prelude.{Option, Some, None}
use Rattle.std.proofs.lemmas.List.{length-append}
use Rattle.std.proofs.Math.Nat.{le-div_iff_mul-le, div-lt_iff_lt-mul, mul-le-mul, mul-one}
use mathlib.Core.Option.{some-injective, some-ne-none}
use mathlib.Core.Logic.{dite}
use native.Mathlib.Decide.{ℕ_discrete, dec_le}
use Rattle.atomic_table.proofs.Lists.{at_set, at_snoc, set_else, set_here}
use Rattle.turns.specs.Turns.{At, total, all_parts}
use Rattle.turns.proofs.Sums.{place, one_way, total-set, total-append, term_le, terms_le}
use Rattle.page_pool.specs.Holding.{lesser}
use Rattle.page_pool.specs.Views.{gone, blank, lower, both_of_join}
use Rattle.page_pool.specs.Sharing.{AreFair, IsFair, greatest, held_by, askers_of, peak_of}
use Rattle.page_pool.specs.declared.view.View.{View}
use Rattle.page_pool.proofs.Greatest.{le_greatest, greatest_le, greatest-set, greatest-append, total_alone, total-times, total_le-but, more_shares, short_share}

abbrev value_of : Option ℕ → ℕ
value_of None = 0
value_of (Some n) = n

abbrev is_there : Option ℕ → ℕ
is_there None = 0
is_there (Some n) = 1

no_low : (low : ℕ) → None ≡ Some low → ⊥
no_low low e = let h = ap is_there e in omega (arith, h)

-- of two numbers the lesser is one of them
pub lesser_is : (low : Option ℕ) (m n : ℕ) → Some (lesser low m) ≡ Some n → (low ≡ Some n) ⊎ (m ≡ n)
lesser_is None m n e = inr (ap value_of e)
lesser_is (Some k) m n e = dite (dec_le k m)
    (λ le. inl (ap Some (let h = ap value_of e in omega arith)))
    (λ more. inr (let h = ap value_of e in let b = lt_of_not-le more in omega arith))

module _ {made : ℕ} {views : List View} (k : AreFair made views) (id : ℕ) (v : View) (at : At views id v) where
  -- a pass changes
  pub fair-set : (w : View) → 0 < v.parts → 0 < w.parts → w.made ≡ v.made → v.peak ≤ w.peak → w.peak ≤ made → length w.pages ≤ w.peak → v.askers ≤ w.askers → (0 < length w.pages → 0 < w.askers)
      → ((low : ℕ) → w.low ≡ Some low → (v.low ≡ Some low) ⊎ ((low + 1) * total askers_of (set views id w) ≤ made → made < greatest peak_of (set views id w) * total askers_of (set views id w)))
      → AreFair made (set views id w)
  fair-set w some_part some_left same up most within more asked low_is = record {
    same = λ j u e part. ⊎_elim (λ t. subst (λ (z : View). z.made ≡ made) t.1 (same ∙ k.same id v at some_part)) (λ t. k.same j u t.1 part) (at_set views id j w u e);
    spent = λ j u e none. ⊎_elim (λ t. absurd (let h = ap (λ (z : View). z.parts) t.1 in omega (arith, h, none, some_left))) (λ t. k.spent j u t.1 none) (at_set views id j w u e);
    peak = λ j u e. ⊎_elim (λ t. subst (λ (z : View). length z.pages ≤ z.peak) t.1 within) (λ t. k.peak j u t.1) (at_set views id j w u e);
    most = λ j u e. ⊎_elim (λ t. subst (λ (z : View). z.peak ≤ made) t.1 most) (λ t. k.most j u t.1) (at_set views id j w u e);
    asked = λ j u e. ⊎_elim (λ t. subst (λ (z : View). 0 < length z.pages → 0 < z.askers) t.1 asked) (λ t. k.asked j u t.1) (at_set views id j w u e);
    lows = λ j u low e is fits. ⊎_elim
        (λ t. ⊎_elim (λ old. later low (k.lows id v low at old) fits) (λ new. new fits) (low_is low (ap (λ (z : View). z.low) t.1 ∙ is)))
        (λ t. later low (k.lows j u low t.1 is) fits)
        (at_set views id j w u e);
  }
    where
      later : (low : ℕ) → ((low + 1) * total askers_of views ≤ made → made < greatest peak_of views * total askers_of views)
          → (low + 1) * total askers_of (set views id w) ≤ made → made < greatest peak_of (set views id w) * total askers_of (set views id w)
      later low law fits = more_shares made low (greatest-set peak_of views id v w at up) (let e = total-set askers_of views id v w at in omega (arith, e, more)) law fits

  -- when none is free and a pass holds fewer than a share, some pass held more than one
  pub fair-low : (w : View) → v.peak ≡ w.peak → length w.pages ≡ length v.pages → v.askers ≤ w.askers → 0 < w.askers → total held_by views ≡ made
      → (length w.pages + 1) * total askers_of (set views id w) ≤ made → made < greatest peak_of (set views id w) * total askers_of (set views id w)
  fair-low w peak pages more asks all fits =
      short_share made (length w.pages) g w.askers (total askers_of (set views id w)) asks
      (term_le askers_of (set views id w) id w here)
      (let p = k.peak id v at in let q = le_greatest peak_of (set views id w) id w here in omega (arith, p, q, peak, pages))
      (let b = total_le-but held_by (λ (z : View). g * z.askers) (set views id w) id w here each in
      let t = total-times askers_of g (set views id w) in
      let h = total-set held_by views id v w at in
      omega (arith, b, t, h, all, pages))
      fits
    where
      g : ℕ
      g = greatest peak_of (set views id w)

      here : At (set views id w) id w
      here = set_here views id w (place views id v at)

      bounded : (u : View) → length u.pages ≤ u.peak → u.peak ≤ g → (0 < length u.pages → 0 < u.askers) → length u.pages ≤ g * u.askers
      bounded u le below asked = by (length u.pages) refl
        where
          by : (n : ℕ) → length u.pages ≡ n → length u.pages ≤ g * u.askers
          by zero e = omega (arith, e)
          by (suc n) e =
              let asks = asked (omega (arith, e)) in
              let one : g * 1 ≤ g * u.askers = mul-le-mul (omega arith) asks in
              let flat : g * 1 ≡ g = mul-one g in
              omega (arith, one, flat, le, below)

      each : (j : ℕ) (u : View) → At (set views id w) j u → length u.pages ≤ g * u.askers
      each j u e = bounded u
          (⊎_elim (λ t. subst (λ (z : View). length z.pages ≤ z.peak) t.1 (let p = k.peak id v at in omega (arith, p, peak, pages))) (λ t. k.peak j u t.1) (at_set views id j w u e))
          (le_greatest peak_of (set views id w) j u e)
          (⊎_elim (λ t. subst (λ (z : View). 0 < length z.pages → 0 < z.askers) t.1 (λ _. asks)) (λ t. k.asked j u t.1) (at_set views id j w u e))

  -- one pass more, which did nothing yet
  pub fair-append : 0 < v.parts → AreFair made (views ++ blank v.made 1 ∷ [])
  fair-append some_part = record {
    same = λ j u e part. ⊎_elim (λ t. k.same j u t part) (λ t. subst (λ (z : View). z.made ≡ made) t (k.same id v at some_part)) (at_snoc views w u j e);
    spent = λ j u e none. ⊎_elim (λ t. k.spent j u t none) (λ t. absurd (let h = ap (λ (z : View). z.parts) t in omega (arith, h, none))) (at_snoc views w u j e);
    peak = λ j u e. ⊎_elim (λ t. k.peak j u t) (λ t. subst (λ (z : View). length z.pages ≤ z.peak) t (omega arith)) (at_snoc views w u j e);
    most = λ j u e. ⊎_elim (λ t. k.most j u t) (λ t. subst (λ (z : View). z.peak ≤ made) t (omega arith)) (at_snoc views w u j e);
    asked = λ j u e. ⊎_elim (λ t. k.asked j u t) (λ t. subst (λ (z : View). 0 < length z.pages → 0 < z.askers) t (λ h. absurd (omega (arith, h)))) (at_snoc views w u j e);
    lows = λ j u low e is fits. ⊎_elim
        (λ t. more_shares made low (greatest-append peak_of views (w ∷ [])) (let a = total-append askers_of views (w ∷ []) in omega (arith, a)) (k.lows j u low t is) fits)
        (λ t. absurd (no_low low (ap (λ (z : View). z.low) t ∙ is)))
        (at_snoc views w u j e);
  }
    where
      w : View
      w = blank v.made 1

  -- another pass goes to this one
  pub fair-join : (other : ℕ) (they : View) → other ≢ id → At views other they → 0 < v.parts → 0 < they.parts → total held_by views ≤ made
      → AreFair made (set (set views id (both_of_join v they)) other gone)
  fair-join other they apart there some_part some_there all = record {
    same = λ j u e part. cases j u e (λ (z : View). 0 < z.parts → z.made ≡ made) (λ h. absurd (omega (arith, h))) (λ _. k.same id v at some_part) (λ t. k.same j u t) part;
    spent = λ j u e none. cases j u e (λ (z : View). z.parts ≡ 0 → z ≡ gone) (λ _. refl) (λ h. absurd (omega (arith, h, some_part))) (λ t. k.spent j u t) none;
    peak = λ j u e. cases j u e (λ (z : View). length z.pages ≤ z.peak) (omega arith) (let a = length-append v.pages they.pages in omega (arith, a)) (λ t. k.peak j u t);
    most = λ j u e. cases j u e (λ (z : View). z.peak ≤ made) (omega arith)
        (let a = k.most id v at in let b = k.most other they there in let s = terms_le held_by views id other v they apart at there in omega (arith, a, b, s, all)) (λ t. k.most j u t);
    asked = λ j u e. cases j u e (λ (z : View). 0 < length z.pages → 0 < z.askers) (λ h. absurd (omega (arith, h)))
        (λ h. asks h) (λ t. k.asked j u t);
    lows = λ j u low e is fits. cases j u e (λ (z : View). z.low ≡ Some low → (low + 1) * total askers_of views' ≤ made → made < greatest peak_of views' * total askers_of views')
        (λ h. absurd (no_low low h))
        (λ h. ⊎_elim (λ one. later low (k.lows id v low at one)) (λ two. later low (k.lows other they low there two)) (lower_is v.low they.low low h))
        (λ t old. later low (k.lows j u low t old)) is fits;
  }
    where
      both : View
      both = both_of_join v they

      views' : List View
      views' = set (set views id both) other gone

      there' : At (set views id both) other they
      there' = set_else views id other both apart ∙ there

      cases : (j : ℕ) (u : View) → At views' j u → (P : View → Type 0) → P gone → P both → (At views j u → P u) → P u
      cases j u e P none mine old = ⊎_elim (λ t. subst P t.1 none) (λ t. ⊎_elim (λ r. subst P r.1 mine) (λ r. old r.1) (at_set views id j both u t.1)) (at_set (set views id both) other j gone u e)

      asks : 0 < length (v.pages ++ they.pages) → 0 < v.askers + they.askers
      asks h = by (length v.pages) refl
        where
          by : (n : ℕ) → length v.pages ≡ n → 0 < v.askers + they.askers
          by zero e = let b = k.asked other they there (omega (arith, h, length-append v.pages they.pages, e)) in omega (arith, b)
          by (suc n) e = let a = k.asked id v at (omega (arith, e)) in omega (arith, a)

      lower_is : (a b : Option ℕ) (n : ℕ) → lower a b ≡ Some n → (a ≡ Some n) ⊎ (b ≡ Some n)
      lower_is a None n e = inl e
      lower_is a (Some m) n e = ⊎_elim (λ t. inl t) (λ t. inr (ap Some t)) (lesser_is a m n e)

      sums : total askers_of views' ≡ total askers_of views
      sums = let a = total-set askers_of (set views id both) other they gone there' in let b = total-set askers_of views id v both at in omega (arith, a, b)

      here : At views' id both
      here = set_else (set views id both) other id gone (λ e. apart (sym e)) ∙ set_here views id both (place views id v at)

      rises : greatest peak_of views ≤ greatest peak_of views'
      rises = greatest_le peak_of views (greatest peak_of views') (λ j u e. dite (ℕ_discrete j id)
          (λ is. let h = le_greatest peak_of views' id both here in omega (arith, h, ap peak_of (one_way views j id u v is e at)))
          (λ no. dite (ℕ_discrete j other)
          (λ is. let h = le_greatest peak_of views' id both here in omega (arith, h, ap peak_of (one_way views j other u they is e there)))
          (λ not. le_greatest peak_of views' j u (set_else (set views id both) other j gone not ∙ set_else views id j both no ∙ e))))

      later : (low : ℕ) → ((low + 1) * total askers_of views ≤ made → made < greatest peak_of views * total askers_of views)
          → (low + 1) * total askers_of views' ≤ made → made < greatest peak_of views' * total askers_of views'
      later low law fits = more_shares made low rises (omega (arith, sums)) law fits

  -- where a pass has all parts, the others are gone
  pub alone : total (λ (z : View). z.parts) views ≡ all_parts → v.parts ≡ all_parts → (j : ℕ) (u : View) → j ≢ id → At views j u → u ≡ gone
  alone parts all j u apart e = k.spent j u e (let t = terms_le (λ (z : View). z.parts) views id j v u apart at e in omega (arith, t, parts, all))

  -- so the law is that of the pass
  pub fair-whole : total (λ (z : View). z.parts) views ≡ all_parts → v.parts ≡ all_parts → IsFair v
  fair-whole parts all = record {
    peak = omega (arith, k.most id v at, mine);
    low = λ low is asks below.
        let fits : (low + 1) * v.askers ≤ v.made = (le-div_iff_mul-le asks).0 (omega (arith, below)) in
        let law = k.lows id v low at is (omega (arith, mine, fits, ap (λ (n : ℕ). (low + 1) * n) askers)) in
        let less : v.made < v.peak * v.askers = omega (arith, mine, law, ap (λ (n : ℕ). greatest peak_of views * n) askers, ap (λ (n : ℕ). n * v.askers) peak) in
        (div-lt_iff_lt-mul asks).1 less;
  }
    where
      mine : v.made ≡ made
      mine = k.same id v at (omega (arith, all))

      askers : total askers_of views ≡ v.askers
      askers = total_alone askers_of views id v at (λ j u apart e. ap askers_of (alone parts all j u apart e))

      peak : greatest peak_of views ≡ v.peak
      peak = let up = le_greatest peak_of views id v at in
          let down = greatest_le peak_of views v.peak (λ j u e. dite (ℕ_discrete j id)
          (λ here. let h = ap peak_of (one_way views j id u v here e at) in omega (arith, h))
          (λ apart. let h = ap peak_of (alone parts all j u apart e) in omega (arith, h))) in
          omega (arith, up, down)

-- a pool at the start
pub fair-opens : (made : ℕ) → AreFair made (blank made all_parts ∷ [])
fair-opens made = record {
  same = λ j u e part. subst (λ (z : View). z.made ≡ made) (first_is j u e) refl;
  spent = λ j u e none. absurd (let h = ap (λ (z : View). z.parts) (first_is j u e) in omega (arith, h, none));
  peak = λ j u e. subst (λ (z : View). length z.pages ≤ z.peak) (first_is j u e) (omega arith);
  most = λ j u e. subst (λ (z : View). z.peak ≤ made) (first_is j u e) (omega arith);
  asked = λ j u e. subst (λ (z : View). 0 < length z.pages → 0 < z.askers) (first_is j u e) (λ h. absurd (omega (arith, h)));
  lows = λ j u low e is. absurd (no_low low (ap (λ (z : View). z.low) (first_is j u e) ∙ is));
}
  where
    first_is : (j : ℕ) (u : View) → At (blank made all_parts ∷ []) j u → blank made all_parts ≡ u
    first_is zero u e = some-injective (blank made all_parts) u e
    first_is (suc j) u e = absurd (some-ne-none u (sym e))
