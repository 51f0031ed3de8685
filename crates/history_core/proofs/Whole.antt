-- What holds of the core at the start, and after each event.
use Rattle.std.proofs.Common.{◌≡◌, ◌⊎◌, inl, inr, ℕ, zero, suc, ◌+◌, ◌<◌, ◌≤◌, ◌==◌, ◌&&◌, ◌||◌, List, [], ◌∷◌, ◌++◌, map, filter, not, Bool, true, false, cond, Option, Some, None, slice_get, slice_set, refl, ap, sym, ◌∙◌, subst, arith}
use Rattle.std.proofs.lemmas.Bool.{cases_lt}
use Rattle.std.proofs.lemmas.Bool.Decides.{nat_tests}
use Rattle.std.specs.List.{AllByRecursion, list_any}
use Rattle.cache_rows.proofs.Lists.{all-append, all-filter, all-weaker}
use Rattle.history_core.specs.declared.entry.Entry.{Entry}
use Rattle.history_core.specs.LegalHistory.{Database, LegalHistory, start}
use Rattle.history_core.proofs.PerKey.{set-from}
use Rattle.history_core.specs.declared.event.Event.{Event}
use Rattle.history_core.specs.declared.event.Event.TheVariants as event
use Rattle.history_core.specs.declared.event.Owner.{Owner}
use Rattle.history_core.specs.Core.{Core, CoreStep, CoreRun, IsWhole, core_start, numbers, has, without, is_of, holds, times, pages_of}

-- lists of numbers

times-push : (n k : ℕ) (xs : List ℕ) → times n (xs ++ k ∷ []) ≡ times n xs + times n (k ∷ [])
times-push n k [] = omega arith
times-push n k (x ∷ xs) = let e = times-push n k xs in omega (arith, e)

times-out : (n : ℕ) (xs : List ℕ) → times n (without n xs) ≡ 0
times-out n [] = refl
times-out n (x ∷ xs) = by (x == n) refl (times-out n xs)
  where
    by : (b : Bool) → (x == n) ≡ b → times n (without n xs) ≡ 0 → times n (cond (not b) (x ∷ without n xs) (without n xs)) ≡ 0
    by true e h = h
    by false e h = grind (arith, nat_tests)

times-stay : (n k : ℕ) (xs : List ℕ) → (k == n) ≡ false → times n (without k xs) ≡ times n xs
times-stay n k [] g = refl
times-stay n k (x ∷ xs) g = by (x == k) refl (times-stay n k xs g)
  where
    by : (b : Bool) → (x == k) ≡ b → times n (without k xs) ≡ times n xs → times n (cond (not b) (x ∷ without k xs) (without k xs)) ≡ times n (x ∷ xs)
    by true e h = grind (arith, nat_tests)
    by false e h = grind (arith, nat_tests)

has-times : (n : ℕ) (xs : List ℕ) → has n xs ≡ true → 1 ≤ times n xs
has-times n [] h = absurd cc
has-times n (x ∷ xs) h = by (x == n) refl (has-times n xs) h
  where
    by : (b : Bool) → (x == n) ≡ b → (has n xs ≡ true → 1 ≤ times n xs) → (b || has n xs) ≡ true → 1 ≤ times n (x ∷ xs)
    by true e f g = grind (arith, nat_tests)
    by false e f g = let k = f g in grind (arith, nat_tests)

has-push : (n k : ℕ) (xs : List ℕ) → has n xs ≡ true → has n (xs ++ k ∷ []) ≡ true
has-push n k [] h = absurd cc
has-push n k (x ∷ xs) h = by (x == n) (has-push n k xs) h
  where
    by : (b : Bool) → (has n xs ≡ true → has n (xs ++ k ∷ []) ≡ true) → (b || has n xs) ≡ true → (b || has n (xs ++ k ∷ [])) ≡ true
    by true f g = refl
    by false f g = f g

has-stay : (n k : ℕ) (xs : List ℕ) → (n == k) ≡ false → has n xs ≡ true → has n (without k xs) ≡ true
has-stay n k [] e h = absurd cc
has-stay n k (x ∷ xs) e h = by (x == n) (x == k) refl refl (has-stay n k xs e) h
  where
    by : (b d : Bool) → (x == n) ≡ b → (x == k) ≡ d → (has n xs ≡ true → has n (without k xs) ≡ true) → (b || has n xs) ≡ true → has n (cond (not d) (x ∷ without k xs) (without k xs)) ≡ true
    by true true p q f g = absurd (grind (arith, nat_tests))
    by true false p q f g = ap (λ b. b || has n (without k xs)) p
    by false true p q f g = f g
    by false false p q f g = ap (λ b. b || has n (without k xs)) p ∙ f g

has-below : (n bound : ℕ) (xs : List ℕ) → has n xs ≡ true → AllByRecursion (λ r. r < bound) xs → n < bound
has-below n bound [] h a = absurd cc
has-below n bound (x ∷ xs) h a = by (x == n) refl (λ g. has-below n bound xs g a.1) h
  where
    by : (b : Bool) → (x == n) ≡ b → (has n xs ≡ true → n < bound) → (b || has n xs) ≡ true → n < bound
    by true e f g = let l = a.0 in grind (arith, nat_tests)
    by false e f g = f g

-- owners

pages-push : (n : ℕ) (xs : List Owner) (o : Owner) → times n (pages_of (xs ++ o ∷ [])) ≡ times n (pages_of xs) + times n (o.page ∷ [])
pages-push n [] o = omega arith
pages-push n (x ∷ xs) o = let e = pages-push n xs o in omega (arith, e)

is-page : (page request : ℕ) (o : Owner) → is_of page request o ≡ true → (o.page == page) ≡ true
is-page page request o h = by (o.page == page) (o.request == request) h
  where
    by : (a b : Bool) → (a && b) ≡ true → a ≡ true
    by true b h = refl
    by false b h = absurd cc

owns-times : (page request : ℕ) (xs : List Owner) → list_any (is_of page request) xs ≡ true → 1 ≤ times page (pages_of xs)
owns-times page request [] h = absurd cc
owns-times page request (x ∷ xs) h = by (is_of page request x) refl (owns-times page request xs) h
  where
    by : (b : Bool) → is_of page request x ≡ b → (list_any (is_of page request) xs ≡ true → 1 ≤ times page (pages_of xs)) → (b || list_any (is_of page request) xs) ≡ true → 1 ≤ times page (pages_of (x ∷ xs))
    by true e f g = let p = is-page page request x e in grind (arith, nat_tests)
    by false e f g = let k = f g in omega (arith, k)

abbrev others : ℕ → ℕ → List Owner → List Owner
others page request xs = filter (λ o. not (is_of page request o)) xs

-- no page of a number is there, so that nothing leaves
none-out : (page request n : ℕ) (xs : List Owner) → times page (pages_of xs) ≡ 0 → times n (pages_of (others page request xs)) ≡ times n (pages_of xs)
none-out page request n [] h = refl
none-out page request n (x ∷ xs) h = by (is_of page request x) refl (none-out page request n xs)
  where
    by : (b : Bool) → is_of page request x ≡ b → (times page (pages_of xs) ≡ 0 → times n (pages_of (others page request xs)) ≡ times n (pages_of xs)) → times n (pages_of (cond (not b) (x ∷ others page request xs) (others page request xs))) ≡ times n (pages_of (x ∷ xs))
    by true e f = let p = is-page page request x e in absurd (grind (arith, nat_tests))
    by false e f = let zero-rest : times page (pages_of xs) ≡ 0 = omega (arith, h) in let k = f zero-rest in omega (arith, k)

-- one page leaves
one-out : (page request n : ℕ) (xs : List Owner) → list_any (is_of page request) xs ≡ true → times page (pages_of xs) ≤ 1 → times n (pages_of (others page request xs)) + times n (page ∷ []) ≡ times n (pages_of xs)
one-out page request n [] h l = absurd cc
one-out page request n (x ∷ xs) h l = by (is_of page request x) refl (one-out page request n xs) h
  where
    by : (b : Bool) → is_of page request x ≡ b → (list_any (is_of page request) xs ≡ true → times page (pages_of xs) ≤ 1 → times n (pages_of (others page request xs)) + times n (page ∷ []) ≡ times n (pages_of xs)) →
        (b || list_any (is_of page request) xs) ≡ true → times n (pages_of (cond (not b) (x ∷ others page request xs) (others page request xs))) + times n (page ∷ []) ≡ times n (pages_of (x ∷ xs))
    by true e f g =
        let p = is-page page request x e in
        let rest : times page (pages_of xs) ≡ 0 = grind (arith, nat_tests) in
        let k = none-out page request n xs rest in
        grind (arith, nat_tests)
    by false e f g =
        let less : times page (pages_of xs) ≤ 1 = omega (arith, l) in
        let k = f g less in
        omega (arith, k)

-- pages at the start

start-none : (page n : ℕ) → n ≤ page → times page (numbers n) ≡ 0
start-none page zero h = refl
start-none page (suc n) h = let e = times-push page n (numbers n) in let k = start-none page n (omega (arith, h)) in grind (arith, nat_tests)

start-times : (page n : ℕ) → page < n → times page (numbers n) ≡ 1
start-times page zero h = absurd (omega (arith, h))
start-times page (suc n) h = by (n == page) refl (start-times page n)
  where
    e : times page (numbers n ++ n ∷ []) ≡ times page (numbers n) + times page (n ∷ [])
    e = times-push page n (numbers n)

    by : (b : Bool) → (n == page) ≡ b → (page < n → times page (numbers n) ≡ 1) → times page (numbers (suc n)) ≡ 1
    by true q f = let same : n ≤ page = grind (arith, nat_tests) in let k = start-none page n same in let d = e in grind (arith, nat_tests)
    by false q f = let less : page < n = grind (arith, nat_tests) in let k = f less in let d = e in grind (arith, nat_tests)

none-held : (ds : List Database) (i r : ℕ) → slice_get (map (λ d. None) ds) i ≡ Some (Some r) → ⊥
none-held [] i r h = absurd cc
none-held (d ∷ ds) zero r h = absurd cc
none-held (d ∷ ds) (suc i) r h = none-held ds i r h

pub start_whole : (pages : ℕ) (databases : List Database) → IsWhole pages (core_start pages databases)
start_whole pages databases = record {
  each_page = λ page h. (let k = start-times page pages h in omega (arith, k));
  no_other = λ page h. (let k = start-none page pages h in omega (arith, k));
  owners_run = tt;
  holders_run = λ i r h. absurd (none-held databases i r h);
  legal = (start databases, refl);
  begun = tt;
  running_begun = tt;
}

-- events

module _ (pages : ℕ) (old : Core) (w : IsWhole pages old) where
  abbrev total : Core → ℕ → ℕ
  total s n = times n s.free + times n (pages_of s.owned)

  some-page : (n : ℕ) → 1 ≤ total old n → total old n ≡ 1
  some-page n h = by (cases_lt n pages)
    where
      by : (n < pages) ⊎ (pages ≤ n) → total old n ≡ 1
      by (inl l) = w.each_page n l
      by (inr l) = let z = w.no_other n l in absurd (omega (arith, h, z))

  -- the sums stay
  each-stays : (new : Core) → ((n : ℕ) → total new n ≡ total old n) → (n : ℕ) → n < pages → total new n ≡ 1
  each-stays new e n l = e n ∙ w.each_page n l

  none-stays : (new : Core) → ((n : ℕ) → total new n ≡ total old n) → (n : ℕ) → pages ≤ n → total new n ≡ 0
  none-stays new e n l = e n ∙ w.no_other n l

  module _ (page request : ℕ) where
    taken : has page old.free ≡ true → (n : ℕ) → times n (without page old.free) + times n (pages_of (old.owned ++ record { page = page; request = request } ∷ [])) ≡ total old n
    taken h n =
        let one = has-times page old.free h in
        let all = some-page page (omega (arith, one)) in
        let push = pages-push n old.owned (record { page = page; request = request }) in
        by (page == n) refl push all one
      where
        by : (b : Bool) → (page == n) ≡ b → times n (pages_of (old.owned ++ record { page = page; request = request } ∷ [])) ≡ times n (pages_of old.owned) + times n (page ∷ []) → total old page ≡ 1 → 1 ≤ times page old.free → times n (without page old.free) + times n (pages_of (old.owned ++ record { page = page; request = request } ∷ [])) ≡ total old n
        by true e push all one =
            let same : page ≡ n = grind (arith, nat_tests) in
            let out : times n (without page old.free) ≡ 0 = subst (λ k. times n (without k old.free) ≡ 0) (sym same) (times-out n old.free) in
            let there : total old n ≡ 1 = subst (λ k. total old k ≡ 1) same all in
            let free : 1 ≤ times n old.free = subst (λ k. 1 ≤ times k old.free) same one in
            grind (arith, nat_tests)
        by false e push all one =
            let stay = times-stay n page old.free e in
            grind (arith, nat_tests)

    given : list_any (is_of page request) old.owned ≡ true → (n : ℕ) → times n (old.free ++ page ∷ []) + times n (pages_of (others page request old.owned)) ≡ total old n
    given h n =
        let one = owns-times page request old.owned h in
        let all = some-page page (omega (arith, one)) in
        let less : times page (pages_of old.owned) ≤ 1 = omega (arith, all) in
        let out = one-out page request n old.owned h less in
        let push = times-push n page old.free in
        omega (arith, out, push)

  entered : (e : Entry) → has e.request old.running ≡ true → AllByRecursion (λ (f : Entry). f.request < old.begun) (old.history ++ e ∷ [])
  entered e h = all-append (λ (f : Entry). f.request < old.begun) old.history (e ∷ []) w.begun (has-below e.request old.begun old.running h w.running_begun, tt)

  enters : (e : Entry) → has e.request old.running ≡ true → LegalHistory old.databases (old.history ++ e ∷ []) → IsWhole pages (record old { history = old.history ++ e ∷ [] })
  enters e h l = record {
    each_page = w.each_page;
    no_other = w.no_other;
    owners_run = w.owners_run;
    holders_run = w.holders_run;
    legal = l;
    begun = entered e h;
    running_begun = w.running_begun;
  }

  begins : (request : ℕ) → request ≡ old.begun → IsWhole pages (record old { running = old.running ++ request ∷ []; begun = old.begun + 1 })
  begins request h = record {
    each_page = w.each_page;
    no_other = w.no_other;
    owners_run = all-weaker (λ (o : Owner). has o.request old.running ≡ true) (λ (o : Owner). has o.request (old.running ++ request ∷ []) ≡ true) (λ o g. has-push o.request request old.running g) old.owned w.owners_run;
    holders_run = λ i r g. has-push r request old.running (w.holders_run i r g);
    legal = w.legal;
    begun = all-weaker (λ (e : Entry). e.request < old.begun) (λ (e : Entry). e.request < old.begun + 1) (λ e g. omega (arith, g)) old.history w.begun;
    running_begun = all-append (λ r. r < old.begun + 1) old.running (request ∷ []) (all-weaker (λ r. r < old.begun) (λ r. r < old.begun + 1) (λ r g. omega (arith, g)) old.running w.running_begun) (omega (arith, h), tt);
  }

  takes : (request page : ℕ) → has request old.running ≡ true → has page old.free ≡ true → IsWhole pages (record old { free = without page old.free; owned = old.owned ++ record { page = page; request = request } ∷ [] })
  takes request page r h =
      let new = record old { free = without page old.free; owned = old.owned ++ record { page = page; request = request } ∷ [] } in
      record {
        each_page = each-stays new (taken page request h);
        no_other = none-stays new (taken page request h);
        owners_run = all-append (λ (o : Owner). has o.request old.running ≡ true) old.owned (record { page = page; request = request } ∷ []) w.owners_run (r, tt);
        holders_run = w.holders_run;
        legal = w.legal;
        begun = w.begun;
        running_begun = w.running_begun;
      }

  gives : (request page : ℕ) → list_any (is_of page request) old.owned ≡ true → IsWhole pages (record old { free = old.free ++ page ∷ []; owned = others page request old.owned })
  gives request page h =
      let new = record old { free = old.free ++ page ∷ []; owned = others page request old.owned } in
      record {
        each_page = each-stays new (given page request h);
        no_other = none-stays new (given page request h);
        owners_run = all-filter (λ (o : Owner). has o.request old.running ≡ true) (λ o. not (is_of page request o)) old.owned w.owners_run;
        holders_run = w.holders_run;
        legal = w.legal;
        begun = w.begun;
        running_begun = w.running_begun;
      }

  holder : (database : ℕ) (h : Option ℕ) → ((r : ℕ) → h ≡ Some r → has r old.running ≡ true) → IsWhole pages (record old { holders = slice_set old.holders database h })
  holder database h f = record {
    each_page = w.each_page;
    no_other = w.no_other;
    owners_run = w.owners_run;
    holders_run = λ i r g. by i r (set-from old.holders database i h (Some r) g);
    legal = w.legal;
    begun = w.begun;
    running_begun = w.running_begun;
  }
    where
      by : (i r : ℕ) → ((i ≡ database) × (Some r ≡ h)) ⊎ (slice_get old.holders i ≡ Some (Some r)) → has r old.running ≡ true
      by i r (inl s) = f r (sym s.1)
      by i r (inr s) = w.holders_run i r s

  other-owners : (request : ℕ) (xs : List Owner) → AllByRecursion (λ (o : Owner). has o.request old.running ≡ true) xs → list_any (λ o. o.request == request) xs ≡ false → AllByRecursion (λ (o : Owner). has o.request (without request old.running) ≡ true) xs
  other-owners request [] a h = tt
  other-owners request (o ∷ xs) a h = by (o.request == request) refl (other-owners request xs a.1) h
    where
      by : (b : Bool) → (o.request == request) ≡ b → (list_any (λ p. p.request == request) xs ≡ false → AllByRecursion (λ (p : Owner). has p.request (without request old.running) ≡ true) xs) → (b || list_any (λ p. p.request == request) xs) ≡ false →
          (has o.request (without request old.running) ≡ true) × AllByRecursion (λ (p : Owner). has p.request (without request old.running) ≡ true) xs
      by true e f g = absurd cc
      by false e f g = (has-stay o.request request old.running e a.0, f g)

  not-held : (request : ℕ) (xs : List (Option ℕ)) (i r : ℕ) → list_any (holds request) xs ≡ false → slice_get xs i ≡ Some (Some r) → (r == request) ≡ false
  not-held request [] i r h g = absurd cc
  not-held request (x ∷ xs) zero r h g = let e : x ≡ Some r = cc in by (holds request x) (ap (holds request) e) h
    where
      by : (b : Bool) → b ≡ (r == request) → (b || list_any (holds request) xs) ≡ false → (r == request) ≡ false
      by true e h = absurd cc
      by false e h = sym e
  not-held request (x ∷ xs) (suc i) r h g = by (holds request x) h (λ k. not-held request xs i r k g)
    where
      by : (b : Bool) → (b || list_any (holds request) xs) ≡ false → (list_any (holds request) xs ≡ false → (r == request) ≡ false) → (r == request) ≡ false
      by true h f = absurd cc
      by false h f = f h

  ends : (request : ℕ) → list_any (λ o. o.request == request) old.owned ≡ false → list_any (holds request) old.holders ≡ false → IsWhole pages (record old { running = without request old.running })
  ends request h g = record {
    each_page = w.each_page;
    no_other = w.no_other;
    owners_run = other-owners request old.owned w.owners_run h;
    holders_run = λ i r k. has-stay r request old.running (not-held request old.holders i r g k) (w.holders_run i r k);
    legal = w.legal;
    begun = w.begun;
    running_begun = all-filter (λ r. r < old.begun) (λ k. not (k == request)) old.running w.running_begun;
  }

  pub event_whole : (e : Event) (new : Core) → CoreStep old e new → IsWhole pages new
  event_whole (event.Begin request) new s = subst (IsWhole pages) (sym s.new_is) (begins request s.next)
  event_whole (event.TakePage request page) new s = subst (IsWhole pages) (sym s.new_is) (takes request page s.runs s.is_free)
  event_whole (event.GivePage request page) new s = subst (IsWhole pages) (sym s.new_is) (gives request page s.owns)
  event_whole (event.CacheCall request c moment a) new s = subst (IsWhole pages) (sym s.1.new_is) (enters _ s.0 s.1.legal)
  event_whole (event.TakeHandle request database) new s =
      subst (IsWhole pages) (sym s.new_is) (holder database (Some request) (λ r e. (let same : request ≡ r = cc in subst (λ z. has z old.running ≡ true) same s.runs)))
  event_whole (event.DbCall request database c a) new s = subst (IsWhole pages) (sym s.3.new_is) (enters _ (w.holders_run database request s.0) s.3.legal)
  event_whole (event.GiveHandle request database) new s = subst (IsWhole pages) (sym s.new_is) (holder database None (λ r e. absurd cc))
  event_whole (event.End request) new s = subst (IsWhole pages) (sym s.new_is) (ends request s.owns_none s.holds_none)

-- after every list of events
later : (pages : ℕ) (events : List Event) (old new : Core) → IsWhole pages old → CoreRun old events new → IsWhole pages new
later pages [] old new w r = subst (IsWhole pages) (sym r) w
later pages (e ∷ events) old new w r = later pages events r.0 new (event_whole pages old w e r.0 r.1) r.2

pub run_whole : (pages : ℕ) (databases : List Database) (events : List Event) (s : Core) → CoreRun (core_start pages databases) events s → IsWhole pages s
run_whole pages databases events s r = later pages events (core_start pages databases) s (start_whole pages databases) r
