-- Entries and their places: what is looked up in a list without an entry, with another and filtered.
use Rattle.std.proofs.Common.{◌≡◌, ℕ, suc, ◌+◌, ◌<◌, ◌≤◌, List, [], ◌∷◌, ◌++◌, filter, Bool, true, false, cond, Option, Some, None, IsSome, refl, ap, sym, ◌∙◌, subst, arith, append_assoc, true≢false, Vec, Global}
use Rattle.std.specs.List.{AllByRecursion, IsDistinct}
use Rattle.std.specs.Map.{keys_of, lookup, remove_entry, set_value}
use Rattle.std.specs.BTreeMap.{is_at}
use Rattle.std.proofs.lemmas.Slice.Eq.{bytes_eq-Decides}
use Rattle.cache_rows.specs.declared.table.Cell.{Cell}
use Rattle.cache_rows.specs.RowMachine.{NoneNamed, key_of, stays, current}
use Rattle.cache_rows.specs.Indexed.{Entry, row_of, rows_of, place_of, placed, by_place, key_at, same_key, is_key, BirthsRise}
use Rattle.cache_rows.proofs.Lists.{if_so, if_not, all-append, all-left, all-right, all-weaker}
use Rattle.cache_rows.proofs.Places.{Place, place-same, place-self, place-other}

key-same : (key : List ℕ) (k : Vec ℕ Global) → is_key key k ≡ true → k.items ≡ key
key-same key k h = sym ((bytes_eq-Decides key k.items).0 h)

key-is : (key : List ℕ) (k : Vec ℕ Global) → k.items ≡ key → is_key key k ≡ true
key-is key k h = (bytes_eq-Decides key k.items).1 (sym h)

key-other : (key : List ℕ) (k : Vec ℕ Global) → (k.items ≡ key → ⊥) → is_key key k ≡ false
key-other key k h = by (is_key key k) (key-same key k)
  where
    by : (t : Bool) → (t ≡ true → k.items ≡ key) → t ≡ false
    by true f = absurd (h (f refl))
    by false f = refl

abbrev pub Apart : List ℕ → List Entry → Type 0
Apart key es = AllByRecursion (λ (e : Entry). e.0.items ≡ key → ⊥) es

-- the entry of a key, with those before it and behind it
pub record Out (key : List ℕ) (es : List Entry) (cell : Cell) : Type 0 where
  pub before : List Entry
  pub name : Vec ℕ Global
  pub after : List Entry
  pub whole : es ≡ before ++ (name, cell) ∷ after
  pub key_is : name.items ≡ key
  pub removed : remove_entry (is_key key) es ≡ before ++ after
  pub set : (w : Cell) → set_value (is_key key) es w ≡ before ++ (name, w) ∷ after

pub out : (key : List ℕ) (es : List Entry) (cell : Cell) → lookup (is_key key) es ≡ Some cell → Out key es cell
out key [] cell h = absurd (cc)
out key (e ∷ es) cell h = by (is_key key e.0) refl (out key es cell)
  where
    by : (t : Bool) → is_key key e.0 ≡ t → (lookup (is_key key) es ≡ Some cell → Out key es cell) → Out key (e ∷ es) cell
    by true s f =
        let c : e.1 ≡ cell = let g : Some e.1 ≡ Some cell = sym (if_so (is_key key e.0) (Some e.1) (lookup (is_key key) es) s) ∙ h in cc in
        record { before = []; name = e.0; after = es; whole = λ i. (e.0, c i) ∷ es; key_is = key-same key e.0 s; removed = if_so (is_key key e.0) _ _ s; set = λ w. if_so (is_key key e.0) _ _ s }
    by false s f =
        let rest = f (sym (if_not (is_key key e.0) (Some e.1) (lookup (is_key key) es) s) ∙ h) in
        record { before = e ∷ rest.before; name = rest.name; after = rest.after; whole = ap (λ z. e ∷ z) rest.whole; key_is = rest.key_is; removed = if_not (is_key key e.0) _ _ s ∙ ap (λ z. e ∷ z) rest.removed; set = λ w. if_not (is_key key e.0) _ _ s ∙ ap (λ z. e ∷ z) (rest.set w) }

pub no-entry : (key : List ℕ) (es : List Entry) → lookup (is_key key) es ≡ None → Apart key es × (remove_entry (is_key key) es ≡ es)
no-entry key [] h = (tt, refl)
no-entry key (e ∷ es) h = by (is_key key e.0) refl (no-entry key es)
  where
    by : (t : Bool) → is_key key e.0 ≡ t → (lookup (is_key key) es ≡ None → Apart key es × (remove_entry (is_key key) es ≡ es)) → Apart key (e ∷ es) × (remove_entry (is_key key) (e ∷ es) ≡ e ∷ es)
    by true s f = let g : Some e.1 ≡ None = sym (if_so (is_key key e.0) (Some e.1) (lookup (is_key key) es) s) ∙ h in absurd (cc)
    by false s f =
        let rest = f (sym (if_not (is_key key e.0) (Some e.1) (lookup (is_key key) es) s) ∙ h) in
        (((λ k. true≢false (sym (key-is key e.0 k) ∙ s)), rest.0), if_not (is_key key e.0) _ _ s ∙ ap (λ z. e ∷ z) rest.1)

-- an entry's key is that of no other
differ-all : (k : Vec ℕ Global) (es : List Entry) → AllByRecursion (λ y. same_key k y ≡ false) (keys_of es) → Apart k.items es
differ-all k [] h = tt
differ-all k (e ∷ es) h = ((λ s. true≢false (sym (key-is k.items e.0 s) ∙ h.0)), differ-all k es h.1)

pub apart : (before : List Entry) (e : Entry) (after : List Entry) → IsDistinct same_key (keys_of (before ++ e ∷ after)) → Apart e.0.items (before ++ after)
unfolding IsDistinct
apart [] e after h = differ-all e.0 after h.0
apart (x ∷ before) e after h =
    let others = differ-all x.0 (before ++ e ∷ after) h.0 in
    ((λ s. (all-right _ before (e ∷ after) others).0 (sym s)), apart before e after h.1)

-- a look-up and a removal by the key find the entry, which stands nowhere else
pub there : (key : List ℕ) (before : List Entry) (e : Entry) (after : List Entry) → Apart key before → e.0.items ≡ key → (lookup (is_key key) (before ++ e ∷ after) ≡ Some e.1) × (remove_entry (is_key key) (before ++ e ∷ after) ≡ before ++ after)
there key [] e after h k = (if_so (is_key key e.0) _ _ (key-is key e.0 k), if_so (is_key key e.0) _ _ (key-is key e.0 k))
there key (x ∷ before) e after h k =
    let rest = there key before e after h.1 k in
    let no = key-other key x.0 h.0 in
    (if_not (is_key key x.0) _ _ no ∙ rest.0, if_not (is_key key x.0) _ _ no ∙ ap (λ z. x ∷ z) rest.1)

pub none-named : (key : List ℕ) (es : List Entry) → Apart key es → NoneNamed key_of key (rows_of es)
none-named key [] h = tt
none-named key (e ∷ es) h = (h.0, none-named key es h.1)

-- births

pub below : (low high : ℕ) (es : List Entry) → BirthsRise low es high → AllByRecursion (λ (e : Entry). low ≤ e.1.birth) es × AllByRecursion (λ (e : Entry). e.1.birth < high) es × (low ≤ high)
below low high [] h = (tt, tt, h)
below low high (e ∷ es) h =
    let rest = below (suc e.1.birth) high es h.1 in
    let g = h.0 in let k = rest.2 in
    ((g, all-weaker _ _ (λ x q. omega (arith, g, q)) es rest.0), (omega (arith, k), rest.1), omega (arith, g, k))

pub rise-lower : (low less high : ℕ) (es : List Entry) → less ≤ low → BirthsRise low es high → BirthsRise less es high
rise-lower low less high [] g h = omega (arith, g, h)
rise-lower low less high (e ∷ es) g h = (let k = h.0 in omega (arith, g, k), h.1)

pub rise-push : (low high : ℕ) (es : List Entry) (e : Entry) → BirthsRise low es high → e.1.birth ≡ high → BirthsRise low (es ++ e ∷ []) (high + 1)
rise-push low high [] e h b = (omega (arith, h, b), omega (arith, b))
rise-push low high (x ∷ es) e h b = (h.0, rise-push (suc x.1.birth) high es e h.1 b)

pub rise-out : (low high : ℕ) (before : List Entry) (e : Entry) (after : List Entry) → BirthsRise low (before ++ e ∷ after) high → BirthsRise low (before ++ after) high × AllByRecursion (λ (x : Entry). x.1.birth < e.1.birth) before × AllByRecursion (λ (x : Entry). e.1.birth < x.1.birth) after
rise-out low high [] e after h = (rise-lower (suc e.1.birth) low high after (let g = h.0 in omega (arith, g)) h.1, tt, all-weaker _ _ (λ x q. omega (arith, q)) after (below (suc e.1.birth) high after h.1).0)
rise-out low high (x ∷ before) e after h =
    let rest = rise-out (suc x.1.birth) high before e after h.1 in
    let b = (all-right _ before (e ∷ after) (below (suc x.1.birth) high (before ++ e ∷ after) h.1).0).0 in
    ((h.0, rest.0), (omega (arith, b), rest.1), rest.2)

pub rise-filter : (test : Entry → Bool) (low high : ℕ) (es : List Entry) → BirthsRise low es high → BirthsRise low (filter test es) high
rise-filter test low high [] h = h
rise-filter test low high (e ∷ es) h = by (test e) (rise-filter test (suc e.1.birth) high es h.1)
  where
    by : (t : Bool) → BirthsRise (suc e.1.birth) (filter test es) high → BirthsRise low (cond t (e ∷ filter test es) (filter test es)) high
    by true g = (h.0, g)
    by false g = rise-lower (suc e.1.birth) low high (filter test es) (let k = h.0 in omega (arith, k)) g

pub rise-set : (low high : ℕ) (before : List Entry) (e f : Entry) (after : List Entry) → e.1.birth ≡ f.1.birth → BirthsRise low (before ++ e ∷ after) high → BirthsRise low (before ++ f ∷ after) high
rise-set low high [] e f after b h = (let k = h.0 in omega (arith, b, k), subst (λ n. BirthsRise (suc n) after high) b h.1)
rise-set low high (x ∷ before) e f after b h = (h.0, rise-set (suc x.1.birth) high before e f after b h.1)

-- places

abbrev pub Away : Place → List Entry → Type 0
Away p es = AllByRecursion (λ (e : Entry). place_of e ≡ p → ⊥) es

pub away : (p : Place) (es : List Entry) → AllByRecursion (λ (e : Entry). e.1.birth ≡ p.1 → ⊥) es → Away p es
away p es h = all-weaker _ _ (λ e f g. f (ap (λ (q : Place). q.1) g)) es h

pub away-out : (low high : ℕ) (before : List Entry) (e : Entry) (after : List Entry) (stamp : ℕ) → BirthsRise low (before ++ e ∷ after) high → Away (stamp, e.1.birth) (before ++ after)
away-out low high before e after stamp h =
    let r = rise-out low high before e after h in
    away (stamp, e.1.birth) (before ++ after) (all-append _ before after (all-weaker _ _ (λ x g b. omega (arith, g, b)) before r.1) (all-weaker _ _ (λ x g b. omega (arith, g, b)) after r.2))

pub away-new : (low high stamp : ℕ) (es : List Entry) → BirthsRise low es high → Away (stamp, high) es
away-new low high stamp es h = away (stamp, high) es (all-weaker _ _ (λ x g b. omega (arith, g, b)) es (below low high es h).1)

found-at : (before : List Entry) (e : Entry) (after : List Entry) → Away (place_of e) before → key_at (place_of e) (placed (before ++ e ∷ after)) ≡ Some e.0.items
found-at [] e after h = if_so _ _ _ (place-self (place_of e))
found-at (x ∷ before) e after h = if_not _ _ _ (place-other (place_of e) (place_of x) (λ s. h.0 (sym s))) ∙ found-at before e after h.1

none-at : (q : Place) (es : List Entry) → Away q es → key_at q (placed es) ≡ None
none-at q [] h = refl
none-at q (x ∷ es) h = if_not _ _ _ (place-other q (place_of x) (λ s. h.0 (sym s))) ∙ none-at q es h.1

skip-at : (q : Place) (before : List Entry) (e : Entry) (after : List Entry) → (q ≡ place_of e → ⊥) → key_at q (placed (before ++ e ∷ after)) ≡ key_at q (placed (before ++ after))
skip-at q [] e after h = if_not _ _ _ (place-other q (place_of e) h)
skip-at q (x ∷ before) e after h = ap (λ z. cond (is_at (by_place q) (place_of x)) (Some x.0.items) z) (skip-at q before e after h)

pub some-at : (before : List Entry) (e : Entry) (after : List Entry) → IsSome (key_at (place_of e) (placed (before ++ e ∷ after)))
some-at [] e after = subst IsSome (sym (if_so _ (Some e.0.items) (key_at (place_of e) (placed after)) (place-self (place_of e)))) refl
some-at (x ∷ before) e after = by (is_at (by_place (place_of e)) (place_of x)) (some-at before e after)
  where
    by : (t : Bool) → IsSome (key_at (place_of e) (placed (before ++ e ∷ after))) → IsSome (cond t (Some x.0.items) (key_at (place_of e) (placed (before ++ e ∷ after))))
    by true h = refl
    by false h = h

abbrev pub Order : Type 0
Order = List (Place × List ℕ)

-- the order has the places of the entries
abbrev pub Orders : Order → List Entry → Type 0
Orders os es = (q : Place) → key_at q os ≡ key_at q (placed es)

-- a new place in the order
pub orders-in : (os ps : Order) (before : List Entry) (e : Entry) (after : List Entry) (p : Place) (key : List ℕ) → Orders os (before ++ after) → Away p (before ++ after) → p ≡ place_of e → key ≡ e.0.items → ((q : Place) → key_at q ps ≡ cond (is_at (by_place p) q) (Some key) (key_at q os)) → Orders ps (before ++ e ∷ after)
orders-in os ps before e after p key h a s k u q = u q ∙ by (is_at (by_place p) q) refl
  where
    by : (t : Bool) → is_at (by_place p) q ≡ t → cond t (Some key) (key_at q os) ≡ key_at q (placed (before ++ e ∷ after))
    by true g =
        let same : place_of e ≡ q = sym s ∙ place-same p q g in
        ap Some k ∙ (sym (found-at before e after (subst (λ z. Away z before) s (all-left _ before after a))) ∙ ap (λ z. key_at z (placed (before ++ e ∷ after))) same)
    by false g = h q ∙ sym (skip-at q before e after (λ z. true≢false (sym (place-self p) ∙ (ap (is_at (by_place p)) (s ∙ sym z) ∙ g))))

-- a place is taken out of the order
pub orders-out : (os ps : Order) (before : List Entry) (e : Entry) (after : List Entry) (p : Place) → Orders os (before ++ e ∷ after) → Away p (before ++ after) → p ≡ place_of e → ((q : Place) → key_at q ps ≡ cond (is_at (by_place p) q) None (key_at q os)) → Orders ps (before ++ after)
orders-out os ps before e after p h a s u q = u q ∙ by (is_at (by_place p) q) refl
  where
    by : (t : Bool) → is_at (by_place p) q ≡ t → cond t None (key_at q os) ≡ key_at q (placed (before ++ after))
    by true g = sym (ap (λ z. key_at z (placed (before ++ after))) (sym (place-same p q g)) ∙ none-at p (before ++ after) a)
    by false g = h q ∙ skip-at q before e after (λ z. true≢false (sym (place-self p) ∙ (ap (is_at (by_place p)) (s ∙ sym z) ∙ g)))

-- the entry at a place
pub at-first : (p : Place) (key : List ℕ) (es : List Entry) → key_at p (placed es) ≡ Some key → (before : List Entry) × (e : Entry) × (after : List Entry) × (es ≡ before ++ e ∷ after) × (p ≡ place_of e) × (e.0.items ≡ key)
at-first p key [] h = absurd (cc)
at-first p key (x ∷ es) h = by (is_at (by_place p) (place_of x)) refl (at-first p key es)
  where
    by : (t : Bool) → is_at (by_place p) (place_of x) ≡ t → (key_at p (placed es) ≡ Some key → (before : List Entry) × (e : Entry) × (after : List Entry) × (es ≡ before ++ e ∷ after) × (p ≡ place_of e) × (e.0.items ≡ key))
        → (before : List Entry) × (e : Entry) × (after : List Entry) × (x ∷ es ≡ before ++ e ∷ after) × (p ≡ place_of e) × (e.0.items ≡ key)
    by true s f = let g : Some x.0.items ≡ Some key = sym (if_so _ _ (key_at p (placed es)) s) ∙ h in ([], x, es, refl, place-same p (place_of x) s, cc)
    by false s f = let (before, e, after, w, r, k) = f (sym (if_not _ (Some x.0.items) _ s) ∙ h) in (x ∷ before, e, after, ap (λ z. x ∷ z) w, r, k)

-- what holds of each entry that stands between others holds of all
pub all-between : (P : Entry → Type 0) (front es : List Entry) → ((before : List Entry) (e : Entry) (after : List Entry) → front ++ es ≡ before ++ e ∷ after → P e) → AllByRecursion P es
all-between P front [] f = tt
all-between P front (e ∷ es) f = (f front e es refl, all-between P (front ++ e ∷ []) es (λ before x after w. f before x after (sym (append_assoc front (e ∷ []) es) ∙ w)))

-- filters by stamps

module _ (time : Option ℕ) (now : ℕ) where
  abbrev pub entry_stays : Entry → Bool
  entry_stays e = stays time now e.1.stamp

  abbrev pub place_stays : Place × List ℕ → Bool
  place_stays p = stays time now p.0.0

  none-both : (t : Bool) → ◌≡◌ {A = Option (List ℕ)} None (cond t None None)
  none-both true = refl
  none-both false = refl

  filter-at : (q : Place) (os : Order) → key_at q (filter place_stays os) ≡ cond (stays time now q.0) (key_at q os) None
  filter-at q [] = none-both (stays time now q.0)
  filter-at q (p ∷ os) = by (is_at (by_place q) p.0) refl (place_stays p) refl (filter-at q os)
    where
      by : (t : Bool) → is_at (by_place q) p.0 ≡ t → (s : Bool) → place_stays p ≡ s → key_at q (filter place_stays os) ≡ cond (stays time now q.0) (key_at q os) None
          → key_at q (filter place_stays (p ∷ os)) ≡ cond (stays time now q.0) (key_at q (p ∷ os)) None
      by true t true s h =
          let e : stays time now q.0 ≡ true = ap (λ (z : Place). stays time now z.0) (place-same q p.0 t) ∙ s in
          ap (key_at q) (if_so (place_stays p) _ _ s)
          ∙ (if_so (is_at (by_place q) p.0) (Some p.1) (key_at q (filter place_stays os)) t
          ∙ (sym (if_so (is_at (by_place q) p.0) (Some p.1) (key_at q os) t) ∙ sym (if_so (stays time now q.0) (key_at q (p ∷ os)) None e)))
      by true t false s h =
          let e : stays time now q.0 ≡ false = ap (λ (z : Place). stays time now z.0) (place-same q p.0 t) ∙ s in
          ap (key_at q) (if_not (place_stays p) _ _ s) ∙ (h ∙ (if_not (stays time now q.0) _ _ e ∙ sym (if_not (stays time now q.0) _ _ e)))
      by false t true s h = ap (key_at q) (if_so (place_stays p) _ _ s) ∙ (if_not _ _ _ t ∙ (h ∙ ap (λ z. cond (stays time now q.0) z None) (sym (if_not _ (Some p.1) (key_at q os) t))))
      by false t false s h = ap (key_at q) (if_not (place_stays p) _ _ s) ∙ (h ∙ ap (λ z. cond (stays time now q.0) z None) (sym (if_not _ (Some p.1) (key_at q os) t)))

  placed-filter : (es : List Entry) → placed (filter entry_stays es) ≡ filter place_stays (placed es)
  placed-filter [] = refl
  placed-filter (e ∷ es) = by (entry_stays e) (placed-filter es)
    where
      by : (t : Bool) → placed (filter entry_stays es) ≡ filter place_stays (placed es) → placed (cond t (e ∷ filter entry_stays es) (filter entry_stays es)) ≡ cond t ((place_of e, e.0.items) ∷ filter place_stays (placed es)) (filter place_stays (placed es))
      by true h = ap (λ z. (place_of e, e.0.items) ∷ z) h
      by false h = h

  pub orders-filter : (os : Order) (es : List Entry) → Orders os es → Orders (filter place_stays os) (filter entry_stays es)
  orders-filter os es h q = filter-at q os ∙ (ap (λ z. cond (stays time now q.0) z None) (h q) ∙ (sym (filter-at q (placed es)) ∙ ap (key_at q) (sym (placed-filter es))))

  pub rows-filter : (es : List Entry) → rows_of (filter entry_stays es) ≡ current time now (rows_of es)
  rows-filter [] = refl
  rows-filter (e ∷ es) = by (entry_stays e) (rows-filter es)
    where
      by : (t : Bool) → rows_of (filter entry_stays es) ≡ current time now (rows_of es) → rows_of (cond t (e ∷ filter entry_stays es) (filter entry_stays es)) ≡ cond t (row_of e ∷ current time now (rows_of es)) (current time now (rows_of es))
      by true h = ap (λ z. row_of e ∷ z) h
      by false h = h

pub rows-append : (xs ys : List Entry) → rows_of (xs ++ ys) ≡ rows_of xs ++ rows_of ys
rows-append [] ys = refl
rows-append (x ∷ xs) ys = ap (λ z. row_of x ∷ z) (rows-append xs ys)
