-- The rows after a new one.
use Rattle.std.proofs.Common.{◌≡◌, ℕ, zero, suc, ◌<◌, ◌≤◌, List, [], ◌∷◌, ◌++◌, filter, Bool, true, false, not, Option, Some, None, nat_le, refl, ap, sym, ◌∙◌, subst, arith}
use Rattle.std.specs.List.{AllByRecursion}
use Rattle.std.proofs.lemmas.Bool.{ltb-true, lt-ltb, le-leb, le-ltb, lt-leb}
use Rattle.web_data.specs.declared.cache.Kind.{Kind}
use Rattle.cache_rows.specs.RowMachine.{PickleRow, NoneNamed, Looks, Puts, LeavesOut, key_of, used, sizes, pickle_size, stays, current, kept, settled, new_row}
use Rattle.cache_rows.specs.Indexed.{LeavesFirst, Answers, Leaves, Replaces}
use Rattle.cache_rows.proofs.Lists.{if_so, if_not, all-filter, filter-append, filter-none, filter-with, filter-without}
use Rattle.cache_rows.proofs.Kept.{kept-all, kept-drops}

pub drops-first : (most sum : ℕ) (rows rest : List PickleRow) → LeavesFirst rows rest → sum ≡ sizes pickle_size rows → most < sum → kept pickle_size most [] rest ≡ kept pickle_size most [] rows
drops-first most sum rows rest h s g =
    let t : sizes pickle_size rows ≡ sizes pickle_size (h.before ++ h.row ∷ h.after) = ap (sizes pickle_size) h.whole in
    ap (kept pickle_size most []) h.rest_is
    ∙ (sym (kept-drops pickle_size most [] h.before h.row h.after tt h.older h.younger (omega (arith, s, g, t)))
    ∙ ap (kept pickle_size most []) (sym h.whole))

pub all-kept : (most sum : ℕ) (rows : List PickleRow) → sum ≡ sizes pickle_size rows → sum ≤ most → rows ≡ kept pickle_size most [] rows
all-kept most sum rows s g = sym (kept-all pickle_size most [] rows (omega (arith, s, g)))

-- no row stays where the time is none
all-gone : (moment : ℕ) (rows : List PickleRow) → current (Some 0) moment rows ≡ []
all-gone moment rows = filter-none (λ (r : PickleRow). stays (Some 0) moment r.stamp) rows (none-of rows)
  where
    none-of : (xs : List PickleRow) → AllByRecursion (λ (r : PickleRow). stays (Some 0) moment r.stamp ≡ false) xs
    none-of [] = tt
    none-of (x ∷ xs) = (le-ltb _ _ (omega arith), none-of xs)

abbrev pub Added : Option ℕ → ℕ → List ℕ → List ℕ → List PickleRow → Bool → List PickleRow → Type 0
Added time moment key value old fresh new = (rest : List PickleRow) × LeavesOut key (current time moment old) fresh rest × (new ≡ rest ++ new_row key value moment ∷ [])

-- a row put into an empty table
pub alone : (moment : ℕ) (key value : List ℕ) (old new none : List PickleRow) (stamp : Option ℕ) → Replaces moment key value none stamp new → none ≡ [] → Added (Some 0) moment key value old true new
alone moment key value old new none stamp h e = (current (Some 0) moment old, (subst (NoneNamed key_of key) (sym (all-gone moment old)) tt, refl), h.rows ∙ ap (λ z. z ++ new_row key value moment ∷ []) (by stamp h.left_out ∙ sym (all-gone moment old)))
  where
    no-split : (before : List PickleRow) (r : PickleRow) (after : List PickleRow) → [] ≡ before ++ r ∷ after → ⊥
    no-split [] r after w = absurd (cc)
    no-split (b ∷ before) r after w = absurd (cc)

    by : (s : Option ℕ) → Leaves key none s h.rest → h.rest ≡ []
    by None g = g ∙ e
    by (Some s) g = absurd (no-split g.before g.row g.after (sym e ∙ g.found.whole))

-- whether no row with this stamp stays
abbrev pub is_fresh : Option ℕ → ℕ → Option ℕ → Bool
is_fresh time moment None = true
is_fresh time moment (Some stamp) = not (stays time moment stamp)

module _ (time : Option ℕ) (moment : ℕ) (key : List ℕ) (old rest : List PickleRow) (absent : NoneNamed key_of key rest) where
  abbrev alive : PickleRow → Bool
  alive r = stays time moment r.stamp

  -- the key's row is left out of those that stay, if it is one of them
  left : (stamp : Option ℕ) → Leaves key old stamp rest → LeavesOut key (current time moment old) (is_fresh time moment stamp) (filter alive rest)
  left None g = (subst (λ z. NoneNamed key_of key (filter alive z)) g (all-filter _ alive rest absent), ap (filter alive) g)
  left (Some stamp) g = by (stays time moment stamp) refl
    where
      by : (t : Bool) → stays time moment stamp ≡ t → LeavesOut key (current time moment old) (not t) (filter alive rest)
      by true s = record {
        before = filter alive g.before;
        row = g.row;
        after = filter alive g.after;
        found = record { whole = ap (filter alive) g.found.whole ∙ filter-with alive g.before g.row g.after (ap (stays time moment) (sym g.stamp_is) ∙ s); named = g.found.named };
        rest_is = ap (filter alive) g.rest_is ∙ filter-append alive g.before g.after;
      }
      by false s =
          let same : current time moment old ≡ filter alive rest = ap (filter alive) g.found.whole ∙ (filter-without alive g.before g.row g.after (ap (stays time moment) (sym g.stamp_is) ∙ s) ∙ ap (filter alive) (sym g.rest_is)) in
          (subst (NoneNamed key_of key) (sym same) (all-filter _ alive rest absent), sym same)

-- a row put in the place of another
pub added : (time : Option ℕ) (moment : ℕ) (key value : List ℕ) (old mid new : List PickleRow) (stamp : Option ℕ) → Replaces moment key value old stamp mid → new ≡ current time moment mid → stays time moment moment ≡ true
    → Added time moment key value old (is_fresh time moment stamp) new
added time moment key value old mid new stamp h e now =
    let test = λ (r : PickleRow). stays time moment r.stamp in
    (filter test h.rest, left time moment key old h.rest h.absent stamp h.left_out, e ∙ (ap (filter test) h.rows ∙ filter-with test h.rest (new_row key value moment) [] now))

-- a row that is put in stays, unless the time is none
pub new-stays : (time : Option ℕ) (moment : ℕ) → (time ≡ Some 0 → ⊥) → stays time moment moment ≡ true
new-stays None moment h = refl
new-stays (Some zero) moment h = absurd (h refl)
new-stays (Some (suc time)) moment h = lt-ltb _ _ (omega arith)

-- a look-up, after those that don't stay are dropped
pub looked : (kind : Kind) (moment : ℕ) (key : List ℕ) (old mid new : List PickleRow) (answer : Option (List ℕ)) → Answers kind moment key old answer mid → new ≡ current kind.time moment mid → Looks kind moment key old answer new
looked kind moment key old mid new None h e = record { absent = h.0; rows = e ∙ ap (current kind.time moment) h.1 }
looked kind moment key old mid new (Some value) h e =
    let test = λ (r : PickleRow). stays kind.time moment r.stamp in
    record {
      before = filter test h.before;
      row = h.row;
      after = filter test h.after;
      found = record { whole = ap (filter test) h.found.whole ∙ filter-with test h.before h.row h.after h.alive; named = h.found.named };
      answer = h.answer;
      rows = e ∙ (ap (filter test) h.rows ∙ filter-with test h.before (used kind.used moment h.row) h.after (still kind.used));
    }
  where
    now-stays : (time : Option ℕ) (stamp : ℕ) → stays time moment stamp ≡ true → stays time moment moment ≡ true
    now-stays None stamp g = refl
    now-stays (Some time) stamp g = let k = ltb-true _ _ g in lt-ltb _ _ (omega (arith, k))

    still : (b : Bool) → stays kind.time moment (used b moment h.row).stamp ≡ true
    still true = now-stays kind.time h.row.stamp h.alive
    still false = h.alive

module _ (kind : Kind) (moment : ℕ) (key value : List ℕ) (old new mid : List PickleRow) (fresh : Bool) where
  pub put-any : kind.size ≡ None → Added kind.time moment key value old fresh new → Puts pickle_size kind moment key value old fresh new
  put-any s (rest, l, e) = record { rest = rest; left_out = l; rows = e ∙ ap (λ z. settled pickle_size z rest (new_row key value moment)) (sym s) }

  pub put-large : (most size : ℕ) → kind.size ≡ Some most → size ≡ pickle_size key value → most < size → mid ≡ current kind.time moment old → LeavesOut key mid fresh new → Puts pickle_size kind moment key value old fresh new
  put-large most size s z g e l = record {
    rest = new;
    left_out = subst (λ y. LeavesOut key y fresh new) e l;
    rows = sym (ap (λ y. settled pickle_size y new (new_row key value moment)) s ∙ if_not (nat_le (pickle_size key value) most) _ _ (lt-leb _ _ (omega (arith, z, g))));
  }

  pub put-small : (most size : ℕ) → kind.size ≡ Some most → size ≡ pickle_size key value → size ≤ most → Added kind.time moment key value old fresh mid → new ≡ kept pickle_size most [] mid → Puts pickle_size kind moment key value old fresh new
  put-small most size s z g (rest, l, e) k = record {
    rest = rest;
    left_out = l;
    rows = k ∙ (ap (kept pickle_size most []) e ∙ sym (ap (λ y. settled pickle_size y rest (new_row key value moment)) s ∙ if_so (nat_le (pickle_size key value) most) _ _ (le-leb _ _ (omega (arith, z, g)))));
  }
