-- What the plain list's loops do.
use Rattle.std.proofs.Common.{◌-◌, ◌^◌, append_assoc, add-one, length-take, drop_of_length-le, ◌≡◌, ℕ, ◌+◌, ◌<◌, ◌≤◌, min, List, [], ◌∷◌, ◌++◌, length, take, drop, get_or, filter, Bool, true, false, cond, Option, Some, None, slice_get, slice_set, remove, refl, ap, sym, ◌∙◌, arith, subst}
use Rattle.std.proofs.Math.Seq.{take-suc}
use Rattle.std.proofs.Math.Nat.{min-eq_left}
use Rattle.std.proofs.lemmas.Bool.{ltb-true, lt-ltb}
use Rattle.std.specs.List.{AllByRecursion}
use Rattle.web_data.specs.declared.cache.Kind.{Kind}
use Rattle.cache_rows.specs.RowMachine.{PickleRow, NoneNamed, Finds, TakesOut, key_of, used, stays, current, sizes, pickle_size, kept}
use Rattle.cache_rows.specs.Indexed.{FirstToLeave}
use Rattle.cache_rows.proofs.Lists.{At, at-place, all-append, all-weaker, filter-all, filter-with, seam}
use Rattle.cache_rows.proofs.Kept.{kept-all, kept-drops}

-- the rows have none of the key's that stays
abbrev pub Lacks : Option ℕ → ℕ → List ℕ → List PickleRow → Type 0
Lacks time now key rows = NoneNamed key_of key (current time now rows)

first-new : (xs : List PickleRow) (f l : ℕ) (y : PickleRow) → FirstToLeave xs f l → y.stamp < l → FirstToLeave (xs ++ y ∷ []) (length xs) y.stamp
first-new xs f l y h g = record {
  before = xs;
  row = y;
  after = [];
  whole = refl;
  at_is = refl;
  least_is = refl;
  older = subst (AllByRecursion (λ r. y.stamp < r.stamp)) (sym h.whole)
      (let e = h.least_is in all-append _ h.before (h.row ∷ h.after) (all-weaker _ _ (λ x k. omega (arith, k, g, e)) h.before h.older) (omega (arith, g, e), all-weaker _ _ (λ x k. omega (arith, k, g, e)) h.after h.younger));
  younger = tt;
}

first-old : (xs : List PickleRow) (f l : ℕ) (y : PickleRow) → FirstToLeave xs f l → l ≤ y.stamp → FirstToLeave (xs ++ y ∷ []) f l
first-old xs f l y h g = record {
  before = h.before;
  row = h.row;
  after = h.after ++ y ∷ [];
  whole = ap (λ z. z ++ y ∷ []) h.whole ∙ append_assoc h.before (h.row ∷ h.after) (y ∷ []);
  at_is = h.at_is;
  least_is = h.least_is;
  older = h.older;
  younger = let e = h.least_is in all-append _ h.after (y ∷ []) h.younger (omega (arith, g, e), tt);
}

more : (rows : List PickleRow) (at : ℕ) (y : PickleRow) → at < length rows → y ≡ get_or rows at y → take (at + 1) rows ≡ take at rows ++ y ∷ []
more rows at y h e = ap (λ n. take n rows) (add-one at) ∙ (take-suc rows at y h ∙ ap (λ z. take at rows ++ z ∷ []) (sym e))

module _ (rows : List PickleRow) (at f l : ℕ) (y : PickleRow) (h : at < length rows) (e : y ≡ get_or rows at y) (so_far : FirstToLeave (take at rows) f l) where
  pub first-then : (g k : ℕ) → y.stamp < l → g ≡ at → k ≡ y.stamp → FirstToLeave (take (at + 1) rows) g k
  first-then g k less same least =
      let n : length (take at rows) ≡ at = length-take at rows ∙ min-eq_left (omega (arith, h)) in
      subst (λ z. FirstToLeave z g k) (sym (more rows at y h e))
      (subst (λ z. FirstToLeave (take at rows ++ y ∷ []) z k) (n ∙ sym same) (subst (λ z. FirstToLeave (take at rows ++ y ∷ []) (length (take at rows)) z) (sym least) (first-new (take at rows) f l y so_far less)))

  pub first-else : (g k : ℕ) → l ≤ y.stamp → g ≡ f → k ≡ l → FirstToLeave (take (at + 1) rows) g k
  first-else g k less same least =
      subst (λ z. FirstToLeave z g k) (sym (more rows at y h e))
      (subst (λ z. FirstToLeave (take at rows ++ y ∷ []) z k) (sym same) (subst (λ z. FirstToLeave (take at rows ++ y ∷ []) f z) (sym least) (first-old (take at rows) f l y so_far less)))

-- the row that leaves first goes where the rows have more bytes
pub shrinks : (most sum f l : ℕ) (rows rest : List PickleRow) → FirstToLeave rows f l → sum ≡ min (sizes pickle_size rows) (2 ^ 128 - 1) → most < sum → rest ≡ remove rows f → kept pickle_size most [] rest ≡ kept pickle_size most [] rows
shrinks most sum f l rows rest h s g e =
    let row = h.row in
    let w : rest ≡ h.before ++ h.after = e ∙ ((λ i. remove (h.whole i) (h.at_is i)) ∙ seam h.before row h.after) in
    let t : sizes pickle_size rows ≡ sizes pickle_size (h.before ++ row ∷ h.after) = ap (sizes pickle_size) h.whole in
    ap (kept pickle_size most []) w
    ∙ (sym (kept-drops pickle_size most [] h.before row h.after tt h.older h.younger (omega (arith, s, g, t)))
    ∙ ap (kept pickle_size most []) (sym h.whole))

pub all-fit : (most sum : ℕ) (rows : List PickleRow) → sum ≡ min (sizes pickle_size rows) (2 ^ 128 - 1) → sum ≤ most → most < 2 ^ 64 → kept pickle_size most [] rows ≡ rows
all-fit most sum rows s g b = kept-all pickle_size most [] rows (omega (arith, s, g, b))

pub none-left : (sum n : ℕ) (rows : List PickleRow) → length rows ≤ n → min (sum + sizes pickle_size (drop n rows)) (2 ^ 128 - 1) ≡ min (sizes pickle_size rows) (2 ^ 128 - 1) → sum ≤ 2 ^ 128 - 1 → sum ≡ min (sizes pickle_size rows) (2 ^ 128 - 1)
none-left sum n rows h e b = let z : sizes pickle_size (drop n rows) ≡ 0 = ap (sizes pickle_size) (drop_of_length-le rows h) in omega (arith, e, b, z)

pub taken : (key : List ℕ) (rows rest : List PickleRow) (at : ℕ) (row : PickleRow) → slice_get rows at ≡ Some row → row.key ≡ key → rest ≡ remove rows at → TakesOut key rows rest
taken key rows rest at row e k h =
    let place = at-place rows at row e in
    record { before = place.before; row = row; after = place.after; found = record { whole = place.whole; named = k }; rest_is = h ∙ place.without }

pub none-there : (key : List ℕ) (rows : List PickleRow) → NoneNamed key_of key (current None 0 rows) → NoneNamed key_of key rows
none-there key rows h = subst (NoneNamed key_of key) (filter-all (λ r. true) rows (all-true rows)) h
  where
    all-true : (xs : List PickleRow) → AllByRecursion (λ r. true ≡ true) xs
    all-true [] = tt
    all-true (x ∷ xs) = (refl, all-true xs)

-- a row that stays gets a stamp where the cache is `WhileUsed`, and the others that stay are as they were
module _ (kind : Kind) (now : ℕ) (key : List ℕ) (old new : List PickleRow) (at : ℕ) (row : PickleRow) (e : slice_get old at ≡ Some row) (alive : stays kind.time now row.stamp ≡ true) (k : row.key ≡ key) (value : List ℕ) (v : value ≡ row.value) where
  fresh-stays : (time : Option ℕ) (stamp : ℕ) → stays time now stamp ≡ true → stays time now now ≡ true
  fresh-stays None stamp h = refl
  fresh-stays (Some time) stamp h = let g = ltb-true _ _ h in lt-ltb _ _ (omega (arith, g))

  pub finds : (mid : List PickleRow) → mid ≡ cond kind.used (slice_set old at (record { key = row.key; value = row.value; stamp = now })) old → new ≡ current kind.time now mid → Finds kind now key old value new
  finds mid m n =
      let place = at-place old at row e in
      let test = λ (r : PickleRow). stays kind.time now r.stamp in
      record {
        before = filter test place.before;
        row = row;
        after = filter test place.after;
        found = record { whole = ap (filter test) place.whole ∙ filter-with test place.before row place.after alive; named = k };
        answer = v;
        rows = n ∙ (ap (filter test) (m ∙ by kind.used place) ∙ filter-with test place.before (used kind.used now row) place.after (still kind.used));
      }
    where
      by : (b : Bool) (place : At old at row) → cond b (slice_set old at (record { key = row.key; value = row.value; stamp = now })) old ≡ place.before ++ used b now row ∷ place.after
      by true place = place.with _
      by false place = place.whole

      still : (b : Bool) → stays kind.time now (used b now row).stamp ≡ true
      still true = fresh-stays kind.time row.stamp alive
      still false = alive
