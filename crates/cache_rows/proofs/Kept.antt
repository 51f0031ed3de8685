-- The rows that are kept: those that leave first may be dropped one by one.
use Rattle.std.proofs.Common.{◌≡◌, ℕ, ◌+◌, ◌<◌, ◌≤◌, List, [], ◌∷◌, ◌++◌, filter, Bool, true, false, cond, nat_le, nat_lt, refl, ap, ◌∙◌, arith}
use Rattle.std.proofs.lemmas.Bool.{lt-leb, le-leb, lt-ltb, le-ltb}
use Rattle.std.specs.List.{AllByRecursion}
use Rattle.cache_rows.specs.declared.row.Row.{Row}
use Rattle.cache_rows.specs.RowMachine.{sizes, sizes_from, kept}
use Rattle.cache_rows.proofs.Lists.{if_so, if_not, all-weaker, filter-all, filter-without}

module _ {K V : Type 0} (size : K → V → ℕ) where
  pub sizes-append : (xs ys : List (Row K V)) → sizes size (xs ++ ys) ≡ sizes size xs + sizes size ys
  sizes-append [] ys = omega arith
  sizes-append (x ∷ xs) ys = let h = sizes-append xs ys in omega (arith, h)

  pub sizes-filter : (test : Row K V → Bool) (rows : List (Row K V)) → sizes size (filter test rows) ≤ sizes size rows
  sizes-filter test [] = omega arith
  sizes-filter test (r ∷ rows) = by (test r) (sizes-filter test rows)
    where
      by : (b : Bool) → sizes size (filter test rows) ≤ sizes size rows → sizes size (cond b (r ∷ filter test rows) (filter test rows)) ≤ size r.key r.value + sizes size rows
      by true h = omega (arith, h)
      by false h = omega (arith, h)

  -- of rows born before, what is kept depends on the sizes above each stamp alone
  above : ℕ → List (Row K V) → ℕ
  above stamp before = sizes size (filter (λ r. nat_lt stamp r.stamp) before)

  above-more : (stamp : ℕ) (r : Row K V) (b c : List (Row K V)) → above stamp b ≡ above stamp c → above stamp (r ∷ b) ≡ above stamp (r ∷ c)
  unfolding above
  above-more stamp r b c h = by (nat_lt stamp r.stamp)
    where
      by : (t : Bool) → sizes size (cond t (r ∷ filter (λ x. nat_lt stamp x.stamp) b) (filter (λ x. nat_lt stamp x.stamp) b)) ≡ sizes size (cond t (r ∷ filter (λ x. nat_lt stamp x.stamp) c) (filter (λ x. nat_lt stamp x.stamp) c))
      by true = ap (λ n. size r.key r.value + n) h
      by false = h

  kept-same : (most low : ℕ) (rows b c : List (Row K V)) → AllByRecursion (λ r. low ≤ r.stamp) rows → ((stamp : ℕ) → low ≤ stamp → above stamp b ≡ above stamp c) → kept size most b rows ≡ kept size most c rows
  unfolding above
  kept-same most low [] b c h e = refl
  kept-same most low (r ∷ rows) b c h e =
      let rest = kept-same most low rows (r ∷ b) (r ∷ c) h.1 (λ stamp g. above-more stamp r b c (e stamp g)) in
      let same = e r.stamp h.0 in
      λ i. cond (nat_le (same i + sizes size (filter (λ x. nat_le r.stamp x.stamp) (r ∷ rows))) most) (r ∷ rest i) (rest i)

  -- rows that have at most so many bytes are all kept
  pub kept-all : (most : ℕ) (before rows : List (Row K V)) → sizes size before + sizes size rows ≤ most → kept size most before rows ≡ rows
  kept-all most before [] h = refl
  kept-all most before (r ∷ rows) h =
      let a = sizes-filter (λ x. nat_lt r.stamp x.stamp) before in
      let b = sizes-filter (λ x. nat_le r.stamp x.stamp) (r ∷ rows) in
      if_so (nat_le (sizes_from size r.stamp before (r ∷ rows)) most) _ _ (le-leb _ _ (omega (arith, a, b, h)))
      ∙ ap (λ z. r ∷ z) (kept-all most (r ∷ before) rows (omega (arith, h)))

  -- where they have more, the one that leaves first isn't kept
  pub kept-drops : (most : ℕ) (before xs : List (Row K V)) (r : Row K V) (ys : List (Row K V)) → AllByRecursion (λ x. r.stamp < x.stamp) before → AllByRecursion (λ x. r.stamp < x.stamp) xs → AllByRecursion (λ x. r.stamp ≤ x.stamp) ys
      → most < sizes size before + sizes size (xs ++ r ∷ ys) → kept size most before (xs ++ r ∷ ys) ≡ kept size most before (xs ++ ys)
  unfolding above
  kept-drops most before [] r ys b a c h =
      let old : above r.stamp before ≡ sizes size before = ap (sizes size) (filter-all (λ x. nat_lt r.stamp x.stamp) before (all-weaker _ _ (λ x g. lt-ltb _ _ g) before b)) in
      let young : filter (λ x. nat_le r.stamp x.stamp) (r ∷ ys) ≡ r ∷ ys = filter-all (λ x. nat_le r.stamp x.stamp) (r ∷ ys) (le-leb _ _ (omega arith), all-weaker _ _ (λ x g. le-leb _ _ g) ys c) in
      let all : sizes_from size r.stamp before (r ∷ ys) ≡ sizes size before + sizes size (r ∷ ys) = λ i. old i + sizes size (young i) in
      if_not (nat_le (sizes_from size r.stamp before (r ∷ ys)) most) _ _ (lt-leb _ _ (omega (arith, all, h)))
      ∙ kept-same most r.stamp ys (r ∷ before) before c (λ stamp g. ap (sizes size) (if_not (nat_lt stamp r.stamp) _ _ (le-ltb _ _ g)))
  kept-drops most before (x ∷ xs) r ys b a c h =
      let rest = kept-drops most (x ∷ before) xs r ys (a.0, b) a.1 c (omega (arith, h)) in
      let same = filter-without (λ z. nat_le x.stamp z.stamp) (x ∷ xs) r ys (lt-leb _ _ a.0) in
      λ i. cond (nat_le (above x.stamp before + sizes size (same i)) most) (x ∷ rest i) (rest i)
