-- Places in the order in which rows leave.
use Rattle.std.proofs.Common.{◌≡◌, ℕ, ◌<◌, ◌≤◌, ◌⊎◌, inl, inr, Bool, true, false, cond, nat_lt, ◌==◌, refl, arith, le_refl, le_of_eq}
use Rattle.std.specs.BTreeMap.{is_at}
use Rattle.std.specs.Ordering.{is_eq, is_gt, ordering_then, nat_cmp}
use Rattle.std.specs.declared.cmp.Ordering.{Ordering}
use Rattle.std.specs.declared.cmp.Ordering.TheVariants.{Less, Equal, Greater}
use Rattle.std.proofs.lemmas.Bool.{eqb-true, eq-eqb, le-ltb, ltb-true}
use Rattle.cache_rows.specs.Indexed.{by_place}

both-equal : (o r : Ordering) → is_eq (ordering_then o r) ≡ true → (o ≡ Equal) × (r ≡ Equal)
both-equal Equal Equal h = (refl, refl)
both-equal Equal Less h = absurd (cc)
both-equal Equal Greater h = absurd (cc)
both-equal Less r h = absurd (cc)
both-equal Greater r h = absurd (cc)

not-above : (o r : Ordering) → is_gt (ordering_then o r) ≡ false → (o ≡ Less) ⊎ ((o ≡ Equal) × (is_gt r ≡ false))
not-above Less r h = inl refl
not-above Equal r h = inr (refl, h)
not-above Greater r h = absurd (cc)

module _ (x y : ℕ) where
  cmp-equal : nat_cmp x y ≡ Equal → x ≡ y
  cmp-equal h = by (nat_lt x y) (x == y) (eqb-true x y) h
    where
      by : (t s : Bool) → (s ≡ true → x ≡ y) → cond t Less (cond s Equal Greater) ≡ Equal → x ≡ y
      by true s f h = absurd (cc)
      by false true f h = f refl
      by false false f h = absurd (cc)

  cmp-less : nat_cmp x y ≡ Less → x < y
  cmp-less h = by (nat_lt x y) (x == y) (ltb-true x y) h
    where
      by : (t s : Bool) → (t ≡ true → x < y) → cond t Less (cond s Equal Greater) ≡ Less → x < y
      by true s f h = f refl
      by false true f h = absurd (cc)
      by false false f h = absurd (cc)

  cmp-up : is_gt (nat_cmp x y) ≡ false → x ≤ y
  cmp-up h = by (nat_lt x y) (x == y) (ltb-true x y) (eqb-true x y) h
    where
      by : (t s : Bool) → (t ≡ true → x < y) → (s ≡ true → x ≡ y) → is_gt (cond t Less (cond s Equal Greater)) ≡ false → x ≤ y
      by true s f g h = let k = f refl in omega (arith, k)
      by false true f g h = le_of_eq (g refl)
      by false false f g h = absurd (cc)

cmp-self : (x : ℕ) → nat_cmp x x ≡ Equal
cmp-self x = let a = le-ltb x x (le_refl x) in let b = eq-eqb x x refl in λ i. cond (a i) Less (cond (b i) Equal Greater)

abbrev pub Place : Type 0
Place = ℕ × ℕ

pub place-same : (p q : Place) → is_at (by_place p) q ≡ true → p ≡ q
place-same p q h = let e = both-equal _ _ h in let a = cmp-equal p.0 q.0 e.0 in let b = cmp-equal p.1 q.1 e.1 in λ i. (a i, b i)

pub place-self : (p : Place) → is_at (by_place p) p ≡ true
place-self p = let a = cmp-self p.0 in let b = cmp-self p.1 in λ i. is_eq (ordering_then (a i) (b i))

pub place-other : (p q : Place) → (p ≡ q → ⊥) → is_at (by_place p) q ≡ false
place-other p q h = by (is_at (by_place p) q) (place-same p q)
  where
    by : (t : Bool) → (t ≡ true → p ≡ q) → t ≡ false
    by true f = absurd (h (f refl))
    by false f = refl

-- a place that isn't behind another has no greater stamp, and with that stamp no greater birth
pub place-first : (p q : Place) → is_gt (by_place p q) ≡ false → (p.0 < q.0) ⊎ ((p.0 ≡ q.0) × (p.1 ≤ q.1))
place-first p q h = by (not-above _ _ h)
  where
    by : (nat_cmp p.0 q.0 ≡ Less) ⊎ ((nat_cmp p.0 q.0 ≡ Equal) × (is_gt (nat_cmp p.1 q.1) ≡ false)) → (p.0 < q.0) ⊎ ((p.0 ≡ q.0) × (p.1 ≤ q.1))
    by (inl e) = inl (cmp-less p.0 q.0 e)
    by (inr e) = inr (cmp-equal p.0 q.0 e.0, cmp-up p.1 q.1 e.1)
