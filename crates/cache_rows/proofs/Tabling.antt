-- What each call of a table leaves true of it, and what it makes of the rows.
use Rattle.std.proofs.Common.{◌≡◌, ℕ, ◌+◌, ◌-◌, ◌<◌, ◌≤◌, ◌^◌, ◌⊎◌, inl, inr, min, List, [], ◌∷◌, ◌++◌, length, filter, Bool, true, false, cond, Option, Some, None, IsSome, Result, Ok, Err, IsOk, OnOk, refl, ap, sym, ◌∙◌, subst, arith, append_assoc, append-nil, Vec, Global}
use Rattle.std.specs.List.{AllByRecursion, IsDistinct}
use Rattle.std.specs.Map.{keys_of, lookup, remove_entry, set_value}
use Rattle.std.specs.BTreeMap.{is_at}
use Rattle.std.specs.Ordering.{is_gt}
use Rattle.std.proofs.lemmas.Bool.{ltb-true, lt-ltb}
use Rattle.std.proofs.lemmas.Slice.Eq.{bytes_eq-Decides}
use Rattle.indexmap.specs.IndexMap.{insert_entry}
use Rattle.web_data.specs.declared.cache.Kind.{Kind}
use Rattle.cache_rows.specs.declared.table.Cell.{Cell}
use Rattle.cache_rows.specs.RowMachine.{PickleRow, NoneNamed, TakesOut, key_of, used, sizes, pickle_size, stays, current, new_row}
use Rattle.cache_rows.specs.Indexed.{Indexed, Entry, row_of, rows_of, place_of, placed, by_place, key_at, same_key, is_key, BirthsRise, LeavesFirst, Touches, Replaces}
use Rattle.cache_rows.proofs.Lists.{if_not, all-append, all-left, all-right, all-weaker, all-filter, filter-all, filter-without}
use Rattle.cache_rows.proofs.Kept.{sizes-filter}
use Rattle.cache_rows.proofs.Places.{Place, place-first}
use Rattle.cache_rows.proofs.Indexing.{Apart, Out, Order, Orders, out, no-entry, apart, there, none-named, rise-push, rise-out, rise-set, rise-filter, away-out, away-new, some-at, orders-in, orders-out, at-first, all-between, entry_stays, place_stays, orders-filter, rows-filter, rows-append}

pub on_ok : {A E : Type 0} (r : Result A E) (P : Type 0) → IsOk r → OnOk r P → P
on_ok (Ok a) P h g = g
on_ok (Err e) P h g = absurd (cc)

abbrev pub size_of : List Entry → ℕ
size_of es = sizes pickle_size (rows_of es)

size-in : (before : List Entry) (e : Entry) (after : List Entry) → size_of (before ++ e ∷ after) ≡ pickle_size e.0.items e.1.value + size_of (before ++ after)
size-in [] e after = refl
size-in (x ∷ before) e after = let h = size-in before e after in omega (arith, h)

rows-in : (before : List Entry) (e : Entry) (after : List Entry) → rows_of (before ++ e ∷ after) ≡ rows_of before ++ row_of e ∷ rows_of after
rows-in before e after = rows-append before (e ∷ after)

keys-in : (before : List Entry) (name : Vec ℕ Global) (c d : Cell) (after : List Entry) → keys_of (before ++ (name, c) ∷ after) ≡ keys_of (before ++ (name, d) ∷ after)
keys-in [] name c d after = refl
keys-in (x ∷ before) name c d after = ap (λ z. x.0 ∷ z) (keys-in before name c d after)

insert-last : (es : List Entry) (k : Vec ℕ Global) (c : Cell) → Apart k.items es → insert_entry same_key es k c ≡ es ++ (k, c) ∷ []
insert-last [] k c h = refl
insert-last (e ∷ es) k c h = if_not (same_key k e.0) _ _ (by (same_key k e.0) refl) ∙ ap (λ z. e ∷ z) (insert-last es k c h.1)
  where
    by : (t : Bool) → same_key k e.0 ≡ t → same_key k e.0 ≡ false
    by true g = absurd (h.0 (sym ((bytes_eq-Decides k.items e.0.items).0 g)))
    by false g = g

abbrev pub Leaves : Order → Place → Order → Type 0
Leaves os p ps = (q : Place) → key_at q ps ≡ cond (is_at (by_place p) q) None (key_at q os)

abbrev pub Joins : Order → Place → List ℕ → Order → Type 0
Joins os p key ps = (q : Place) → key_at q ps ≡ cond (is_at (by_place p) q) (Some key) (key_at q os)

module _ (es : List Entry) (os : Order) (births total : ℕ) (x : Indexed es os births total) (key : List ℕ) where
  -- no row has the key
  pub none-out : (rest : List Entry) → lookup (is_key key) es ≡ None → rest ≡ remove_entry (is_key key) es → NoneNamed key_of key (rows_of es) × (rest ≡ es)
  none-out rest h e = let n = no-entry key es h in (none-named key es n.0, e ∙ n.1)

  module _ (cell : Cell) (found : lookup (is_key key) es ≡ Some cell) where
    abbrev o : Out key es cell
    o = out key es cell found

    rise : BirthsRise 0 (o.before ++ (o.name, cell) ∷ o.after) births
    rise = subst (λ z. BirthsRise 0 z births) o.whole x.rise

    -- a row is taken out
    pub out-indexed : (rest : List Entry) (ps : Order) (less : ℕ) → rest ≡ remove_entry (is_key key) es → IsDistinct same_key (keys_of rest) → Leaves os (cell.stamp, cell.birth) ps → less ≡ total - pickle_size key cell.value → Indexed rest ps births less
    out-indexed rest ps less e d u s =
        let w : rest ≡ o.before ++ o.after = e ∙ o.removed in
        let t = x.total_is in
        let z : size_of es ≡ pickle_size o.name.items cell.value + size_of (o.before ++ o.after) = ap size_of o.whole ∙ size-in o.before (o.name, cell) o.after in
        let k : pickle_size o.name.items cell.value ≡ pickle_size key cell.value = ap (λ n. pickle_size n cell.value) o.key_is in
        let r : size_of rest ≡ size_of (o.before ++ o.after) = ap size_of w in
        record {
          rise = subst (λ z. BirthsRise 0 z births) (sym w) (rise-out 0 births o.before (o.name, cell) o.after rise).0;
          differ = d;
          ordered = subst (Orders ps) (sym w) (orders-out os ps o.before (o.name, cell) o.after (cell.stamp, cell.birth) (subst (Orders os) o.whole x.ordered) (away-out 0 births o.before (o.name, cell) o.after cell.stamp rise) refl u);
          total_is = omega (arith, s, t, z, k, r);
        }

    pub out-rows : (rest : List Entry) → rest ≡ remove_entry (is_key key) es → TakesOut key (rows_of es) (rows_of rest)
    out-rows rest e = record {
      before = rows_of o.before;
      row = row_of (o.name, cell);
      after = rows_of o.after;
      found = record { whole = ap rows_of o.whole ∙ rows-in o.before (o.name, cell) o.after; named = o.key_is };
      rest_is = ap rows_of (e ∙ o.removed) ∙ rows-append o.before o.after;
    }

    -- a row gets a stamp
    pub touched : (kind : Kind) (now : ℕ) (value : List ℕ) (new : List PickleRow) → stays kind.time now cell.stamp ≡ true → value ≡ cell.value → new ≡ rows_of o.before ++ used kind.used now (row_of (o.name, cell)) ∷ rows_of o.after → Touches kind now key (rows_of es) value new
    touched kind now value new alive v n = record {
      before = rows_of o.before;
      row = row_of (o.name, cell);
      after = rows_of o.after;
      found = record { whole = ap rows_of o.whole ∙ rows-in o.before (o.name, cell) o.after; named = o.key_is };
      alive = alive;
      answer = v;
      rows = n;
    }

    pub touched-not : (kind : Kind) (now : ℕ) (value : List ℕ) → stays kind.time now cell.stamp ≡ true → value ≡ cell.value → (kind.used ≡ false) ⊎ (cell.stamp ≡ now) → Touches kind now key (rows_of es) value (rows_of es)
    touched-not kind now value alive v s = touched kind now value (rows_of es) alive v (ap rows_of o.whole ∙ (rows-in o.before (o.name, cell) o.after ∙ ap (λ z. rows_of o.before ++ z ∷ rows_of o.after) (by kind.used s)))
      where
        by : (b : Bool) → (b ≡ false) ⊎ (cell.stamp ≡ now) → row_of (o.name, cell) ≡ used b now (row_of (o.name, cell))
        by true (inl h) = absurd (cc)
        by true (inr h) = λ i. record { key = o.name.items; value = cell.value; stamp = h i }
        by false h = refl

    module _ (now : ℕ) (moved : (cell.stamp ≡ now → ⊥)) (new : List Entry) (e : new ≡ set_value (is_key key) es (record { value = cell.value; stamp = now; birth = cell.birth })) where
      abbrev d : Cell
      d = record { value = cell.value; stamp = now; birth = cell.birth }

      pub touched-rows : (kind : Kind) (value : List ℕ) → stays kind.time now cell.stamp ≡ true → value ≡ cell.value → kind.used ≡ true → Touches kind now key (rows_of es) value (rows_of new)
      touched-rows kind value alive v s = touched kind now value (rows_of new) alive v (ap rows_of (e ∙ o.set d) ∙ (rows-in o.before (o.name, d) o.after ∙ ap (λ z. rows_of o.before ++ used z now (row_of (o.name, cell)) ∷ rows_of o.after) (sym s)))

      pub touched-indexed : (ps qs : Order) → Joins os (now, cell.birth) key ps → Leaves ps (cell.stamp, cell.birth) qs → Indexed new qs births total
      touched-indexed ps qs u v =
          let w : new ≡ o.before ++ (o.name, d) ∷ o.after = e ∙ o.set d in
          let a = away-out 0 births o.before (o.name, cell) o.after in
          let apart-at = λ (n : ℕ). a n rise in
          let both : Orders ps (o.before ++ (o.name, d) ∷ (o.name, cell) ∷ o.after) =
          orders-in os ps o.before (o.name, d) ((o.name, cell) ∷ o.after) (now, cell.birth) key (subst (Orders os) o.whole x.ordered)
          (all-append _ o.before ((o.name, cell) ∷ o.after) (all-left _ o.before o.after (apart-at now)) ((λ (s : place_of (o.name, cell) ≡ (now, cell.birth)). moved (ap (λ (p : Place). p.0) s)), all-right _ o.before o.after (apart-at now)))
          refl (sym o.key_is) u in
          let step : o.before ++ (o.name, d) ∷ (o.name, cell) ∷ o.after ≡ (o.before ++ (o.name, d) ∷ []) ++ (o.name, cell) ∷ o.after = sym (append_assoc o.before ((o.name, d) ∷ []) ((o.name, cell) ∷ o.after)) in
          let back : (o.before ++ (o.name, d) ∷ []) ++ o.after ≡ o.before ++ (o.name, d) ∷ o.after = append_assoc o.before ((o.name, d) ∷ []) o.after in
          let far = all-append _ (o.before ++ (o.name, d) ∷ []) o.after
          (all-append _ o.before ((o.name, d) ∷ []) (all-left _ o.before o.after (apart-at cell.stamp)) ((λ (s : place_of (o.name, d) ≡ (cell.stamp, cell.birth)). moved (sym (ap (λ (p : Place). p.0) s))), tt))
          (all-right _ o.before o.after (apart-at cell.stamp)) in
          let one = orders-out ps qs (o.before ++ (o.name, d) ∷ []) (o.name, cell) o.after (cell.stamp, cell.birth) (subst (Orders ps) step both) far refl v in
          record {
            rise = subst (λ z. BirthsRise 0 z births) (sym w) (rise-set 0 births o.before (o.name, cell) (o.name, d) o.after refl rise);
            differ = subst (IsDistinct same_key) (ap keys_of o.whole ∙ (keys-in o.before o.name cell d o.after ∙ ap keys_of (sym w))) x.differ;
            ordered = subst (Orders qs) (back ∙ sym w) one;
            total_is = x.total_is ∙ (ap size_of o.whole ∙ (size-in o.before (o.name, cell) o.after ∙ (sym (size-in o.before (o.name, d) o.after) ∙ ap size_of (sym w))));
          }

    -- a row is put in the place of the key's row
    module _ (now : ℕ) (value : List ℕ) (name : Vec ℕ Global) (n : name.items ≡ key) (rest new : List Entry) (e : rest ≡ remove_entry (is_key key) es) (f : new ≡ insert_entry same_key rest name (record { value = value; stamp = now; birth = births })) where
      abbrev w : Cell
      w = record { value = value; stamp = now; birth = births }

      alone : Apart key (o.before ++ o.after)
      alone = subst (λ z. Apart z (o.before ++ o.after)) o.key_is (apart o.before (o.name, cell) o.after (subst (λ z. IsDistinct same_key (keys_of z)) o.whole x.differ))

      rest-is : rest ≡ o.before ++ o.after
      rest-is = e ∙ o.removed

      new-is : new ≡ (o.before ++ o.after) ++ (name, w) ∷ []
      new-is = f ∙ ((λ i. insert_entry same_key (rest-is i) name w) ∙ insert-last (o.before ++ o.after) name w (subst (λ z. Apart z (o.before ++ o.after)) (sym n) alone))

      pub replaced-rows : Replaces now key value (rows_of es) (Some cell.stamp) (rows_of new)
      replaced-rows = record {
        rest = rows_of (o.before ++ o.after);
        left_out = record {
          before = rows_of o.before;
          row = row_of (o.name, cell);
          after = rows_of o.after;
          found = record { whole = ap rows_of o.whole ∙ rows-in o.before (o.name, cell) o.after; named = o.key_is };
          stamp_is = refl;
          rest_is = rows-append o.before o.after;
        };
        absent = none-named key (o.before ++ o.after) alone;
        rows = ap rows_of new-is ∙ (rows-append (o.before ++ o.after) ((name, w) ∷ []) ∙ ap (λ z. rows_of (o.before ++ o.after) ++ new_row z value now ∷ []) n);
      }

      pub replaced-indexed : (ps qs : Order) (more less : ℕ) → IsDistinct same_key (keys_of new) → Joins os (now, births) key ps → Leaves ps (cell.stamp, cell.birth) qs → more ≡ total + pickle_size key value → less ≡ more - pickle_size key cell.value → Indexed new qs (births + 1) less
      replaced-indexed ps qs more less d u v m s =
          let longer : Orders ps (es ++ (name, w) ∷ []) = orders-in os ps es (name, w) [] (now, births) key (subst (Orders os) (sym (append-nil es)) x.ordered) (subst (λ z. AllByRecursion (λ (q : Entry). place_of q ≡ (now, births) → ⊥) z) (sym (append-nil es)) (away-new 0 births now es x.rise)) refl (sym n) u in
          let whole : es ++ (name, w) ∷ [] ≡ o.before ++ (o.name, cell) ∷ (o.after ++ (name, w) ∷ []) = ap (λ z. z ++ (name, w) ∷ []) o.whole ∙ append_assoc o.before ((o.name, cell) ∷ o.after) ((name, w) ∷ []) in
          let up = subst (λ z. BirthsRise 0 z (births + 1)) whole (rise-push 0 births es (name, w) x.rise refl) in
          let same : o.before ++ (o.after ++ (name, w) ∷ []) ≡ new = sym (append_assoc o.before o.after ((name, w) ∷ [])) ∙ sym new-is in
          let k : pickle_size o.name.items cell.value ≡ pickle_size key cell.value = ap (λ z. pickle_size z cell.value) o.key_is in
          let z : size_of es ≡ pickle_size o.name.items cell.value + size_of (o.before ++ o.after) = ap size_of o.whole ∙ size-in o.before (o.name, cell) o.after in
          let y : size_of new ≡ pickle_size name.items value + size_of ((o.before ++ o.after) ++ []) = ap size_of new-is ∙ size-in (o.before ++ o.after) (name, w) [] in
          let l : pickle_size name.items value ≡ pickle_size key value = ap (λ z. pickle_size z value) n in
          let j : size_of ((o.before ++ o.after) ++ []) ≡ size_of (o.before ++ o.after) = ap size_of (append-nil (o.before ++ o.after)) in
          let t = x.total_is in
          record {
            rise = subst (λ z. BirthsRise 0 z (births + 1)) same (rise-out 0 (births + 1) o.before (o.name, cell) (o.after ++ (name, w) ∷ []) up).0;
            differ = d;
            ordered = subst (Orders qs) same (orders-out ps qs o.before (o.name, cell) (o.after ++ (name, w) ∷ []) (cell.stamp, cell.birth) (subst (Orders ps) whole longer) (away-out 0 (births + 1) o.before (o.name, cell) (o.after ++ (name, w) ∷ []) cell.stamp up) refl v);
            total_is = omega (arith, t, m, s, k, z, y, l, j);
          }

  -- a row is put in where the key has none
  module _ (none : lookup (is_key key) es ≡ None) (now : ℕ) (value : List ℕ) (name : Vec ℕ Global) (n : name.items ≡ key) (rest new : List Entry) (e : rest ≡ remove_entry (is_key key) es) (f : new ≡ insert_entry same_key rest name (record { value = value; stamp = now; birth = births })) where
    abbrev v : Cell
    v = record { value = value; stamp = now; birth = births }

    pushed : new ≡ es ++ (name, v) ∷ []
    pushed = let a = no-entry key es none in f ∙ ((λ i. insert_entry same_key ((e ∙ a.1) i) name v) ∙ insert-last es name v (subst (λ z. Apart z es) (sym n) a.0))

    pub added-rows : Replaces now key value (rows_of es) None (rows_of new)
    added-rows = record {
      rest = rows_of es;
      left_out = refl;
      absent = none-named key es (no-entry key es none).0;
      rows = ap rows_of pushed ∙ (rows-append es ((name, v) ∷ []) ∙ ap (λ z. rows_of es ++ new_row z value now ∷ []) n);
    }

    pub added-indexed : (ps : Order) (more : ℕ) → IsDistinct same_key (keys_of new) → Joins os (now, births) key ps → more ≡ total + pickle_size key value → Indexed new ps (births + 1) more
    added-indexed ps more d u m =
        let y : size_of new ≡ pickle_size name.items value + size_of (es ++ []) = ap size_of pushed ∙ size-in es (name, v) [] in
        let l : pickle_size name.items value ≡ pickle_size key value = ap (λ z. pickle_size z value) n in
        let j : size_of (es ++ []) ≡ size_of es = ap size_of (append-nil es) in
        let t = x.total_is in
        record {
          rise = subst (λ z. BirthsRise 0 z (births + 1)) (sym pushed) (rise-push 0 births es (name, v) x.rise refl);
          differ = d;
          ordered = subst (Orders ps) (sym pushed) (orders-in os ps es (name, v) [] (now, births) key (subst (Orders os) (sym (append-nil es)) x.ordered) (subst (λ z. AllByRecursion (λ (q : Entry). place_of q ≡ (now, births) → ⊥) z) (sym (append-nil es)) (away-new 0 births now es x.rise)) refl (sym n) u);
          total_is = omega (arith, t, m, y, l, j);
        }

-- the row that leaves first

all-both : {X : Type 0} (P Q : X → Type 0) (xs : List X) → AllByRecursion P xs → AllByRecursion Q xs → AllByRecursion (λ x. P x × Q x) xs
all-both P Q [] h g = tt
all-both P Q (x ∷ xs) h g = ((h.0, g.0), all-both P Q xs h.1 g.1)

all-rows : (P : PickleRow → Type 0) (es : List Entry) → AllByRecursion (λ e. P (row_of e)) es → AllByRecursion P (rows_of es)
all-rows P [] h = tt
all-rows P (e ∷ es) h = (h.0, all-rows P es h.1)

abbrev pub IsLeast : Order → Place → Type 0
IsLeast os p = (q : Place) → IsSome (key_at q os) → is_gt (by_place p q) ≡ false

abbrev NotBefore : Place → Entry → Type 0
NotBefore p e = (p.0 < e.1.stamp) ⊎ ((p.0 ≡ e.1.stamp) × (p.1 ≤ e.1.birth))

stamp-above : (p : Place) (e : Entry) → NotBefore p e → p.0 ≤ e.1.stamp
stamp-above p e (inl h) = omega (arith, h)
stamp-above p e (inr h) = let g = h.0 in omega (arith, g)

stamp-over : (p : Place) (e : Entry) → e.1.birth < p.1 → NotBefore p e → p.0 < e.1.stamp
stamp-over p e b (inl h) = h
stamp-over p e b (inr h) = let g = h.1 in absurd (omega (arith, g, b))

module _ (es : List Entry) (os : Order) (births total : ℕ) (x : Indexed es os births total) (p : Place) (least : IsLeast os p) where
  pub lower : AllByRecursion (NotBefore p) es
  lower = all-between (NotBefore p) [] es (λ before e after w. place-first p (place_of e) (least (place_of e) (subst IsSome (sym (x.ordered (place_of e) ∙ ap (λ z. key_at (place_of e) (placed z)) w)) (some-at before e after))))

  module _ (key : List ℕ) (value : key_at p os ≡ Some key) where
    found : (cell : Cell) × (lookup (is_key key) es ≡ Some cell) × (p ≡ (cell.stamp, cell.birth))
    found =
        let (before, e, after, w, r, k) = at-first p key es (sym (x.ordered p) ∙ value) in
        let lone = subst (λ z. Apart z (before ++ after)) k (apart before e after (subst (λ z. IsDistinct same_key (keys_of z)) w x.differ)) in
        (e.1, ap (lookup (is_key key)) w ∙ (there key before e after (all-left _ before after lone) k).0, r)

    pub first-found : lookup (is_key key) es ≡ None → ⊥
    first-found h = let (cell, f, r) = found in let g : Some cell ≡ None = sym f ∙ h in absurd (cc)

    pub first-place : (cell : Cell) → lookup (is_key key) es ≡ Some cell → p ≡ (cell.stamp, cell.birth)
    first-place cell h = let (other, f, r) = found in let g : Some other ≡ Some cell = sym f ∙ h in let s : other ≡ cell = cc in r ∙ ap (λ (c : Cell). (c.stamp, c.birth)) s

    pub first-leaves : (cell : Cell) → lookup (is_key key) es ≡ Some cell → (rest : List Entry) → rest ≡ remove_entry (is_key key) es → LeavesFirst (rows_of es) (rows_of rest)
    first-leaves cell h rest e =
        let o = out key es cell h in
        let at : p ≡ (cell.stamp, cell.birth) = first-place cell h in
        let s : p.0 ≡ cell.stamp = ap (λ (z : Place). z.0) at in
        let b : p.1 ≡ cell.birth = ap (λ (z : Place). z.1) at in
        let low = subst (AllByRecursion (NotBefore p)) o.whole lower in
        let rise = rise-out 0 births o.before (o.name, cell) o.after (subst (λ z. BirthsRise 0 z births) o.whole x.rise) in
        record {
          before = rows_of o.before;
          row = row_of (o.name, cell);
          after = rows_of o.after;
          whole = ap rows_of o.whole ∙ rows-append o.before ((o.name, cell) ∷ o.after);
          rest_is = ap rows_of (e ∙ o.removed) ∙ rows-append o.before o.after;
          older = all-rows _ o.before (all-weaker _ _ (λ y g. let k = stamp-over p y (let q = g.0 in omega (arith, q, b)) g.1 in omega (arith, k, s)) o.before (all-both _ _ o.before rise.1 (all-left _ o.before ((o.name, cell) ∷ o.after) low)));
          younger = all-rows _ o.after (all-weaker _ _ (λ y g. let k = stamp-above p y g in omega (arith, k, s)) o.after (all-right _ o.before ((o.name, cell) ∷ o.after) low).1);
        }

    pub first-indexed : (cell : Cell) → lookup (is_key key) es ≡ Some cell → (rest : List Entry) (ps : Order) (less : ℕ) → rest ≡ remove_entry (is_key key) es → IsDistinct same_key (keys_of rest) → Leaves os p ps → less ≡ total - pickle_size key cell.value → Indexed rest ps births less
    first-indexed cell h rest ps less e d u s = out-indexed es os births total x key cell h rest ps less e d (subst (λ z. Leaves os z ps) (first-place cell h) u) s

  later-stays : (time : Option ℕ) (now a b : ℕ) → stays time now a ≡ true → a ≤ b → stays time now b ≡ true
  later-stays None now a b h g = refl
  later-stays (Some time) now a b h g = let k = ltb-true _ _ h in lt-ltb _ _ (omega (arith, k, g))

  -- where the row that leaves first stays, all stay
  pub all-stay : (time : Option ℕ) (now : ℕ) → stays time now p.0 ≡ true → rows_of es ≡ current time now (rows_of es)
  all-stay time now h = sym (filter-all (λ (r : PickleRow). stays time now r.stamp) (rows_of es) (all-rows _ es (all-weaker _ _ (λ e g. later-stays time now p.0 e.1.stamp h (stamp-above p e g)) es lower)))

-- where the order is empty, there is no row
pub no-rows : (es : List Entry) (os : Order) (births total : ℕ) → Indexed es os births total → (0 < length os → ⊥) → es ≡ []
no-rows [] os births total x h = refl
no-rows (e ∷ es) [] births total x h = let g : IsSome (key_at (place_of e) []) = subst IsSome (sym (x.ordered (place_of e))) (some-at [] e es) in absurd (cc)
no-rows (e ∷ es) (p ∷ os) births total x h = absurd (h (omega arith))

-- the rows that stay
pub stay-indexed : (time : Option ℕ) (now : ℕ) (es rest : List Entry) (os ps : Order) (births total less : ℕ) → Indexed es os births total → rest ≡ filter (entry_stays time now) es → ps ≡ filter (place_stays time now) os → IsDistinct same_key (keys_of rest) → less ≡ min (size_of rest) (2 ^ 128 - 1) → total < 2 ^ 128 → Indexed rest ps births less
stay-indexed time now es rest os ps births total less x e f d s b =
    let t = x.total_is in
    let r : size_of rest ≡ sizes pickle_size (current time now (rows_of es)) = ap size_of e ∙ ap (sizes pickle_size) (rows-filter time now es) in
    let g = sizes-filter pickle_size (λ (z : PickleRow). stays time now z.stamp) (rows_of es) in
    record {
      rise = subst (λ z. BirthsRise 0 z births) (sym e) (rise-filter (entry_stays time now) 0 births es x.rise);
      differ = d;
      ordered = subst (Orders ps) (sym e) (subst (λ z. Orders z (filter (entry_stays time now) es)) (sym f) (orders-filter time now os es x.ordered));
      total_is = omega (arith, s, t, r, g, b);
    }

-- a look-up that finds no row that stays

module _ (es : List Entry) (os : Order) (births total : ℕ) (x : Indexed es os births total) (key : List ℕ) where
  pub none-current : (time : Option ℕ) (now : ℕ) → lookup (is_key key) es ≡ None → NoneNamed key_of key (current time now (rows_of es))
  none-current time now h = all-filter _ (λ (r : PickleRow). stays time now r.stamp) (rows_of es) (none-named key es (no-entry key es h).0)

  pub none-stays : (cell : Cell) → lookup (is_key key) es ≡ Some cell → (time : Option ℕ) (now : ℕ) → stays time now cell.stamp ≡ false → NoneNamed key_of key (current time now (rows_of es))
  none-stays cell h time now g =
      let o = out key es cell h in
      let test = λ (r : PickleRow). stays time now r.stamp in
      let alone = subst (λ z. Apart z (o.before ++ o.after)) o.key_is (apart o.before (o.name, cell) o.after (subst (λ z. IsDistinct same_key (keys_of z)) o.whole x.differ)) in
      let w : current time now (rows_of es) ≡ filter test (rows_of (o.before ++ o.after)) =
      ap (λ z. filter test (rows_of z)) o.whole ∙ (ap (filter test) (rows-in o.before (o.name, cell) o.after) ∙ (filter-without test (rows_of o.before) (row_of (o.name, cell)) (rows_of o.after) g ∙ ap (filter test) (sym (rows-append o.before o.after)))) in
      subst (NoneNamed key_of key) (sym w) (all-filter _ test (rows_of (o.before ++ o.after)) (none-named key (o.before ++ o.after) alone))

pub none-more : (sum : ℕ) (es rest : List Entry) → rest ≡ [] → min (sum + size_of rest) (2 ^ 128 - 1) ≡ min (size_of es) (2 ^ 128 - 1) → sum ≤ 2 ^ 128 - 1 → sum ≡ min (size_of es) (2 ^ 128 - 1)
none-more sum es rest h e b = let z : size_of rest ≡ 0 = ap size_of h in omega (arith, e, b, z)
