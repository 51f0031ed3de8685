-- Lists: what holds of each item, one item among the others, and filters.
use Rattle.std.proofs.Common.{◌≡◌, ℕ, zero, suc, List, [], ◌∷◌, ◌++◌, length, take, drop, filter, Bool, true, false, cond, Some, slice_get, refl, ap, sym, ◌∙◌}
use Rattle.std.specs.List.{AllByRecursion, slice_set}

pub if_so : {A : Type 0} (t : Bool) (x y : A) → t ≡ true → cond t x y ≡ x
if_so t x y h = ap (λ b. cond b x y) h

pub if_not : {A : Type 0} (t : Bool) (x y : A) → t ≡ false → cond t x y ≡ y
if_not t x y h = ap (λ b. cond b x y) h

module _ {X : Type 0} (P : X → Type 0) where
  pub all-append : (xs ys : List X) → AllByRecursion P xs → AllByRecursion P ys → AllByRecursion P (xs ++ ys)
  all-append [] ys h g = g
  all-append (x ∷ xs) ys h g = (h.0, all-append xs ys h.1 g)

  pub all-left : (xs ys : List X) → AllByRecursion P (xs ++ ys) → AllByRecursion P xs
  all-left [] ys h = tt
  all-left (x ∷ xs) ys h = (h.0, all-left xs ys h.1)

  pub all-right : (xs ys : List X) → AllByRecursion P (xs ++ ys) → AllByRecursion P ys
  all-right [] ys h = h
  all-right (x ∷ xs) ys h = all-right xs ys h.1

  pub all-weaker : (Q : X → Type 0) → ((x : X) → P x → Q x) → (xs : List X) → AllByRecursion P xs → AllByRecursion Q xs
  all-weaker Q f [] h = tt
  all-weaker Q f (x ∷ xs) h = (f x h.0, all-weaker Q f xs h.1)

  pub all-filter : (test : X → Bool) (xs : List X) → AllByRecursion P xs → AllByRecursion P (filter test xs)
  all-filter test [] h = tt
  all-filter test (x ∷ xs) h = by (test x) (all-filter test xs h.1)
    where
      by : (b : Bool) → AllByRecursion P (filter test xs) → AllByRecursion P (cond b (x ∷ filter test xs) (filter test xs))
      by true g = (h.0, g)
      by false g = g

module _ {X : Type 0} (test : X → Bool) where
  pub filter-append : (xs ys : List X) → filter test (xs ++ ys) ≡ filter test xs ++ filter test ys
  filter-append [] ys = refl
  filter-append (x ∷ xs) ys = by (test x) (filter-append xs ys)
    where
      by : (b : Bool) → filter test (xs ++ ys) ≡ filter test xs ++ filter test ys → cond b (x ∷ filter test (xs ++ ys)) (filter test (xs ++ ys)) ≡ cond b (x ∷ filter test xs) (filter test xs) ++ filter test ys
      by true g = ap (λ z. x ∷ z) g
      by false g = g

  pub filter-all : (xs : List X) → AllByRecursion (λ x. test x ≡ true) xs → filter test xs ≡ xs
  filter-all [] h = refl
  filter-all (x ∷ xs) h = if_so (test x) _ _ h.0 ∙ ap (λ z. x ∷ z) (filter-all xs h.1)

  pub filter-none : (xs : List X) → AllByRecursion (λ x. test x ≡ false) xs → filter test xs ≡ []
  filter-none [] h = refl
  filter-none (x ∷ xs) h = if_not (test x) _ _ h.0 ∙ filter-none xs h.1

  pub filter-with : (xs : List X) (x : X) (ys : List X) → test x ≡ true → filter test (xs ++ x ∷ ys) ≡ filter test xs ++ x ∷ filter test ys
  filter-with xs x ys h = filter-append xs (x ∷ ys) ∙ ap (λ z. filter test xs ++ z) (if_so (test x) _ _ h)

  pub filter-without : (xs : List X) (x : X) (ys : List X) → test x ≡ false → filter test (xs ++ x ∷ ys) ≡ filter test (xs ++ ys)
  filter-without xs x ys h = filter-append xs (x ∷ ys) ∙ (ap (λ z. filter test xs ++ z) (if_not (test x) _ _ h) ∙ sym (filter-append xs ys))

-- the item at a place, with those before it and behind it
pub record At {X : Type 0} (xs : List X) (i : ℕ) (x : X) : Type 0 where
  pub before : List X
  pub after : List X
  pub whole : xs ≡ before ++ x ∷ after
  pub without : take i xs ++ drop (suc i) xs ≡ before ++ after
  pub with : (y : X) → slice_set xs i y ≡ before ++ y ∷ after

pub at-place : {X : Type 0} (xs : List X) (i : ℕ) (x : X) → slice_get xs i ≡ Some x → At xs i x
at-place [] i x e = absurd (cc)
at-place (y ∷ xs) zero x e = let h : y ≡ x = cc in record { before = []; after = xs; whole = ap (λ z. z ∷ xs) h; without = refl; with = λ z. refl }
at-place (y ∷ xs) (suc i) x e =
    let rest = at-place xs i x e in
    record { before = y ∷ rest.before; after = rest.after; whole = ap (λ z. y ∷ z) rest.whole; without = ap (λ z. y ∷ z) rest.without; with = λ w. ap (λ z. y ∷ z) (rest.with w) }

-- a list without the item behind a front
pub seam : {X : Type 0} (before : List X) (x : X) (after : List X) → take (length before) (before ++ x ∷ after) ++ drop (suc (length before)) (before ++ x ∷ after) ≡ before ++ after
seam [] x after = refl
seam (b ∷ before) x after = ap (λ z. b ∷ z) (seam before x after)
