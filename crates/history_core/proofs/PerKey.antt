-- Machines that are a list of cells, of which each entry changes one or none: they run exactly where each cell runs by itself.
use Rattle.std.proofs.Common.{◌≡◌, ◌⊎◌, inl, inr, ℕ, zero, suc, List, [], ◌∷◌, filter, Bool, true, false, cond, Some, slice_get, slice_set, refl, ap, sym, ◌∙◌, subst}
use Rattle.std.specs.List.{AllByRecursion}
use Rattle.history_core.specs.declared.entry.Entry.{Entry}
use Rattle.history_core.specs.ByObject.{Alone}

pub if_so : {A : Type 0} (t : Bool) (x y : A) → t ≡ true → cond t x y ≡ x
if_so t x y h = ap (λ b. cond b x y) h

pub if_not : {A : Type 0} (t : Bool) (x y : A) → t ≡ false → cond t x y ≡ y
if_not t x y h = ap (λ b. cond b x y) h

module _ {X : Type 0} where
  some-is : (x y : X) → Some x ≡ Some y → x ≡ y
  some-is x y e = cc

  pub one-there : (xs : List X) (i : ℕ) (x y : X) → slice_get xs i ≡ Some x → slice_get xs i ≡ Some y → x ≡ y
  one-there xs i x y h g = some-is x y (sym h ∙ g)

  -- what stands at a place that was written
  pub set-there : (xs : List X) (p : ℕ) (c d : X) → slice_get xs p ≡ Some c → slice_get (slice_set xs p d) p ≡ Some d
  set-there [] p c d h = absurd cc
  set-there (x ∷ xs) zero c d h = refl
  set-there (x ∷ xs) (suc p) c d h = set-there xs p c d h

  -- what stood at a place stands there still, unless the place was written
  pub set-other : (xs : List X) (p i : ℕ) (d x : X) → slice_get xs i ≡ Some x → (i ≡ p) ⊎ (slice_get (slice_set xs p d) i ≡ Some x)
  set-other [] p i d x h = absurd cc
  set-other (y ∷ xs) zero zero d x h = inl refl
  set-other (y ∷ xs) zero (suc i) d x h = inr h
  set-other (y ∷ xs) (suc p) zero d x h = inr h
  set-other (y ∷ xs) (suc p) (suc i) d x h = by (set-other xs p i d x h)
    where
      by : (i ≡ p) ⊎ (slice_get (slice_set xs p d) i ≡ Some x) → (suc i ≡ suc p) ⊎ (slice_get (slice_set (y ∷ xs) (suc p) d) (suc i) ≡ Some x)
      by (inl e) = inl (ap suc e)
      by (inr e) = inr e

  -- what stands at a place was written there, or stood there
  pub set-from : (xs : List X) (p i : ℕ) (d x : X) → slice_get (slice_set xs p d) i ≡ Some x → ((i ≡ p) × (x ≡ d)) ⊎ (slice_get xs i ≡ Some x)
  set-from [] p i d x h = absurd cc
  set-from (y ∷ xs) zero zero d x h = inl (refl, sym (some-is d x h))
  set-from (y ∷ xs) zero (suc i) d x h = inr h
  set-from (y ∷ xs) (suc p) zero d x h = inr h
  set-from (y ∷ xs) (suc p) (suc i) d x h = by (set-from xs p i d x h)
    where
      by : ((i ≡ p) × (x ≡ d)) ⊎ (slice_get xs i ≡ Some x) → ((suc i ≡ suc p) × (x ≡ d)) ⊎ (slice_get (y ∷ xs) (suc i) ≡ Some x)
      by (inl e) = inl (ap suc e.0, e.1)
      by (inr e) = inr e

module _ {X K : Type 0} (key : X → K) (on : K → Entry → Bool) (Local : X → Entry → X → Type 0) where
  -- one cell changes
  pub record Moves (xs : List X) (e : Entry) (ys : List X) : Type 0 where
    pub place : ℕ
    pub cell : X
    pub more : X
    pub there : slice_get xs place ≡ Some cell
    pub hit : on (key cell) e ≡ true
    pub change : Local cell e more
    pub key_is : key more ≡ key cell
    pub new_is : ys ≡ slice_set xs place more

  -- or none
  abbrev pub Steps : List X → Entry → List X → Type 0
  Steps xs e ys = Moves xs e ys ⊎ (((k : K) → on k e ≡ false) × (ys ≡ xs))

  abbrev pub Runs : List X → List Entry → List X → Type 0
  Runs xs [] ys = ys ≡ xs
  Runs xs (e ∷ es) ys = (m : List X) × Steps xs e m × Runs m es ys

  abbrev pub mine : X → List Entry → List Entry
  mine x es = filter (λ e. on (key x) e) es

  -- the entries on a cell, by itself
  abbrev pub AloneIn : X → List Entry → X → Type 0
  AloneIn x es y = Alone Local x (mine x es) y

  -- no entry is on two cells
  abbrev pub Differ : List X → Type 0
  Differ xs = (i j : ℕ) (x y : X) (e : Entry) → slice_get xs i ≡ Some x → slice_get xs j ≡ Some y → on (key x) e ≡ true → on (key y) e ≡ true → i ≡ j

  -- each entry is on no cell that may be, or on one that is there
  abbrev pub IsOn : List X → Entry → Type 0
  IsOn xs e = ((k : K) → on k e ≡ false) ⊎ ((i : ℕ) × (x : X) × (slice_get xs i ≡ Some x) × (on (key x) e ≡ true))

  module _ (xs : List X) (place : ℕ) (cell more : X) (there : slice_get xs place ≡ Some cell) (key_is : key more ≡ key cell) where
    -- the cell at a place before a write, with the same key
    pub before : (i : ℕ) (x : X) → slice_get (slice_set xs place more) i ≡ Some x → (y : X) × (slice_get xs i ≡ Some y) × (key x ≡ key y)
    before i x h = by (set-from xs place i more x h)
      where
        by : ((i ≡ place) × (x ≡ more)) ⊎ (slice_get xs i ≡ Some x) → (y : X) × (slice_get xs i ≡ Some y) × (key x ≡ key y)
        by (inl e) = (cell, ap (slice_get xs) e.0 ∙ there, ap key e.1 ∙ key_is)
        by (inr e) = (x, e, refl)

    after : (i : ℕ) (x : X) → slice_get xs i ≡ Some x → (y : X) × (slice_get (slice_set xs place more) i ≡ Some y) × (key y ≡ key x)
    after i x h = by (set-other xs place i more x h)
      where
        by : (i ≡ place) ⊎ (slice_get (slice_set xs place more) i ≡ Some x) → (y : X) × (slice_get (slice_set xs place more) i ≡ Some y) × (key y ≡ key x)
        by (inl e) = (more, ap (slice_get (slice_set xs place more)) e ∙ set-there xs place cell more there, key_is ∙ ap key (one-there xs place cell x there (ap (slice_get xs) (sym e) ∙ h)))
        by (inr e) = (x, e, refl)

    differ-after : Differ xs → Differ (slice_set xs place more)
    differ-after d i j x y e h g a b =
        let p = before i x h in
        let q = before j y g in
        d i j p.0 q.0 e p.1 q.1 (ap (λ k. on k e) (sym p.2) ∙ a) (ap (λ k. on k e) (sym q.2) ∙ b)

    is-on-after : (e : Entry) → IsOn xs e → IsOn (slice_set xs place more) e
    is-on-after e (inl none) = inl none
    is-on-after e (inr h) =
        let p = after h.0 h.1 h.2 in
        inr (h.0, p.0, p.1, ap (λ k. on k e) p.2 ∙ h.3)

    all-on-after : (es : List Entry) → AllByRecursion (IsOn xs) es → AllByRecursion (IsOn (slice_set xs place more)) es
    all-on-after [] h = tt
    all-on-after (e ∷ es) h = (is-on-after e h.0, all-on-after es h.1)

  module _ (e : Entry) (es : List Entry) (xs : List X) (d : Differ xs) where
    one-more : (x : X) → on (key x) e ≡ true → (y : X) × Alone Local x (e ∷ mine x es) y → (y : X) × AloneIn x (e ∷ es) y
    one-more x o h = subst (λ z. (y : X) × Alone Local x z y) (sym (if_so (on (key x) e) _ _ o)) h

    no-more : (x : X) → on (key x) e ≡ false → (y : X) × AloneIn x es y → (y : X) × AloneIn x (e ∷ es) y
    no-more x o h = subst (λ z. (y : X) × Alone Local x z y) (sym (if_not (on (key x) e) _ _ o)) h

    no-less : (x : X) → on (key x) e ≡ false → (y : X) × AloneIn x (e ∷ es) y → (y : X) × AloneIn x es y
    no-less x o h = subst (λ z. (y : X) × Alone Local x z y) (if_not (on (key x) e) _ _ o) h

    each-step : (m : List X) → Steps xs e m → (Differ m → (j : ℕ) (w : X) → slice_get m j ≡ Some w → (y : X) × AloneIn w es y) → (i : ℕ) (x : X) → slice_get xs i ≡ Some x → (y : X) × AloneIn x (e ∷ es) y
    each-step m (inr s) rest i x h = no-more x (s.0 (key x)) (rest (subst Differ (sym s.1) d) i x (ap (λ z. slice_get z i) s.1 ∙ h))
    each-step m (inl v) rest i x h = hit (on (key x) e) refl
      where
        later : (w : X) → slice_get (slice_set xs v.place v.more) i ≡ Some w → (y : X) × AloneIn w es y
        later w g = rest (subst Differ (sym v.new_is) (differ-after xs v.place v.cell v.more v.there v.key_is d)) i w (ap (λ z. slice_get z i) v.new_is ∙ g)

        stays : on (key x) e ≡ false → (i ≡ v.place) ⊎ (slice_get (slice_set xs v.place v.more) i ≡ Some x) → (y : X) × AloneIn x es y
        stays o (inl at) =
            let same = one-there xs v.place v.cell x v.there (ap (slice_get xs) (sym at) ∙ h) in
            let hit : on (key x) e ≡ true = ap (λ z. on (key z) e) (sym same) ∙ v.hit in
            absurd (cc)
        stays o (inr g) = later x g

        hit : (b : Bool) → on (key x) e ≡ b → (y : X) × AloneIn x (e ∷ es) y
        hit true o =
            let at = d i v.place x v.cell e h v.there o v.hit in
            let same = one-there xs v.place v.cell x v.there (ap (slice_get xs) (sym at) ∙ h) in
            let more = later v.more (ap (slice_get (slice_set xs v.place v.more)) at ∙ set-there xs v.place v.cell v.more v.there) in
            let mine_is = ap (λ k. filter (λ f. on k f) es) (v.key_is ∙ ap key same) in
            one-more x o (more.0, (v.more, subst (λ z. Local z e v.more) same v.change, subst (λ z. Alone Local v.more z more.0) mine_is more.1))
        hit false o = no-more x o (stays o (set-other xs v.place i v.more x h))

  -- a run of all is a run of each
  pub each : (es : List Entry) (xs ys : List X) → Runs xs es ys → Differ xs → (i : ℕ) (x : X) → slice_get xs i ≡ Some x → (y : X) × AloneIn x es y
  each [] xs ys r d i x h = (x, refl)
  each (e ∷ es) xs ys r d i x h = each-step e es xs d r.0 r.1 (λ c j w g. each es r.0 ys r.2 c j w g) i x h

  module _ (keeps : (x : X) (e : Entry) (y : X) → Local x e y → key y ≡ key x) where
    all-step : (e : Entry) (es : List Entry) (xs : List X) (d : Differ xs) → IsOn xs e → AllByRecursion (IsOn xs) es → ((i : ℕ) (x : X) → slice_get xs i ≡ Some x → (y : X) × AloneIn x (e ∷ es) y) →
        ((m : List X) → AllByRecursion (IsOn m) es → Differ m → ((i : ℕ) (x : X) → slice_get m i ≡ Some x → (y : X) × AloneIn x es y) → (ys : List X) × Runs m es ys) → (ys : List X) × Runs xs (e ∷ es) ys
    all-step e es xs d (inl none) o c next =
        let rest = next xs o d (λ i x h. no-less e es xs d x (none (key x)) (c i x h)) in
        (rest.0, (xs, inr (none, refl), rest.1))
    all-step e es xs d (inr p) o c next = (rest.0, (ys, inl moves, rest.1))
      where
        place : ℕ
        place = p.0

        cell : X
        cell = p.1

        there : slice_get xs place ≡ Some cell
        there = p.2

        hit : on (key cell) e ≡ true
        hit = p.3

        first : (y : X) × Alone Local cell (e ∷ mine cell es) y
        first = subst (λ z. (y : X) × Alone Local cell z y) (if_so (on (key cell) e) _ _ hit) (c place cell there)

        more : X
        more = first.1.0

        change : Local cell e more
        change = first.1.1

        key_is : key more ≡ key cell
        key_is = keeps cell e more change

        ys : List X
        ys = slice_set xs place more

        moves : Moves xs e ys
        moves = record { place = place; cell = cell; more = more; there = there; hit = hit; change = change; key_is = key_is; new_is = refl }

        here : (y : X) × AloneIn more es y
        here = (first.0, subst (λ z. Alone Local more z first.0) (ap (λ k. filter (λ f. on k f) es) (sym key_is)) first.1.2)

        old : (i : ℕ) (x : X) → slice_get ys i ≡ Some x → slice_get xs i ≡ Some x → (b : Bool) → on (key x) e ≡ b → (y : X) × AloneIn x es y
        old i x h g false n = no-less e es xs d x n (c i x g)
        old i x h g true n =
            let at = d i place x cell e g there n hit in
            subst (λ z. (y : X) × AloneIn z es y) (one-there ys place more x (set-there xs place cell more there) (ap (slice_get ys) (sym at) ∙ h)) here

        others : (i : ℕ) (x : X) → slice_get ys i ≡ Some x → ((i ≡ place) × (x ≡ more)) ⊎ (slice_get xs i ≡ Some x) → (y : X) × AloneIn x es y
        others i x h (inl g) = subst (λ z. (y : X) × AloneIn z es y) (sym g.1) here
        others i x h (inr g) = old i x h g (on (key x) e) refl

        rest : (zs : List X) × Runs ys es zs
        rest = next ys (all-on-after xs place cell more there key_is es o) (differ-after xs place cell more there key_is d) (λ i x h. others i x h (set-from xs place i more x h))

    -- runs of each are a run of all
    pub all : (es : List Entry) (xs : List X) → AllByRecursion (IsOn xs) es → Differ xs → ((i : ℕ) (x : X) → slice_get xs i ≡ Some x → (y : X) × AloneIn x es y) → (ys : List X) × Runs xs es ys
    all [] xs o d c = (xs, refl)
    all (e ∷ es) xs o d c = all-step e es xs d o.0 o.1 c (λ m n f g. all es m n f g)
