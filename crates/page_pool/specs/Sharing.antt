-- What is always true of a pool that passes share, and what each step tells its pass.
use Rattle.std.specs.Prelude.{◌≡◌, ◌≢◌, ℕ, ◌+◌, ◌*◌, ◌/◌, ◌%◌, ◌^◌, ◌<◌, ◌≤◌, max, true, List, [], ◌∷◌, length, map, Some, vec_capacity}
use Rattle.std.specs.declared.alloc.Global.{Global}
use Rattle.std.specs.declared.vec.Vec.{Vec}
use Rattle.atomic_table.specs.Table.{State, Step, rest}
use Rattle.turns.specs.Turns.{AreTurns, At, total, all_parts}
use Rattle.turns.specs.Homes.{AreHome}
use Rattle.page_pool.specs.Holding.{times}
use Rattle.page_pool.specs.Lone.{numbers_of}
use Rattle.page_pool.specs.PageWords.{numbers}
use Rattle.page_pool.specs.Views.{stand_of, gone, queued, with_turn, took, missed, gave, last_of, carried, Slot, Seated}
use Rattle.page_pool.specs.declared.page.Page.{Page}
use Rattle.page_pool.specs.declared.view.View.{View}

-- the greatest of a number of each
abbrev pub greatest : {A : Type 0} → (A → ℕ) → List A → ℕ
greatest f [] = 0
greatest f (x ∷ xs) = max (f x) (greatest f xs)

abbrev pub held_by : View → ℕ
held_by v = length v.pages

abbrev pub askers_of : View → ℕ
askers_of v = v.askers

abbrev pub peak_of : View → ℕ
peak_of v = v.peak

-- The law of shares, over all passes. Where a pass held fewer pages than a share when none was free, some pass held more than one. A share is what each asker
-- gets of the pages, so `low` is below a share where `low + 1` pages for each asker are there
pub record AreFair (made : ℕ) (views : List View) : Type 0 where
  pub same : (j : ℕ) (v : View) → At views j v → 0 < v.parts → v.made ≡ made
  pub spent : (j : ℕ) (v : View) → At views j v → v.parts ≡ 0 → v ≡ gone
  pub peak : (j : ℕ) (v : View) → At views j v → length v.pages ≤ v.peak
  pub most : (j : ℕ) (v : View) → At views j v → v.peak ≤ made
  pub asked : (j : ℕ) (v : View) → At views j v → 0 < length v.pages → 0 < v.askers
  pub lows : (j : ℕ) (v : View) (low : ℕ) → At views j v → v.low ≡ Some low → (low + 1) * total askers_of views ≤ made → made < greatest peak_of views * total askers_of views

-- the free pages have these numbers, and there is room for all pages
abbrev pub Lies : ℕ → List ℕ → ℕ → Slot → Type 0
Lies made free object slot = (y : Vec Page Global) × (slot ≡ Some y) × (numbers y.items ≡ free) × (made ≤ vec_capacity y)

-- Each page is free or with one pass. Who has the turn knows which are free
pub record AreShared (made : ℕ) (s : State Slot View) : Type 0 where
  -- the numbers of the free pages
  pub free : List ℕ
  pub turns : AreTurns 0 1 s.words (map stand_of s.views)
  pub homes : AreHome 1 (Lies made free) (map stand_of s.views) s.homes
  pub found : (j : ℕ) (v : View) → At s.views j v → v.turn ≡ true → v.found ≡ free
  pub each : (k : ℕ) → times k free + total (λ (v : View). times k v.pages) s.views ≡ times k (numbers_of made)
  pub count : length free + total held_by s.views ≡ made
  pub fair : AreFair made s.views
  pub few : made < 2 ^ 32

-- a ticket was drawn
abbrev pub drew : Step Slot → Seated → ℕ → Seated → Type 0
drew st m r n = (n.1 ≡ m.1) × ((t : ℕ) × (r ≡ t % 2 ^ 64) × (n.0 ≡ queued t m.0))

-- the free list is out with the seat that has the turn
pub record HasList (m : Seated) (y : Vec Page Global) (n : Seated) : Type 0 where
  pub view : n.0 ≡ with_turn (numbers y.items) m.0
  pub slots : n.1 ≡ (0, Some y) ∷ m.1
  pub fits : length y.items + length m.0.pages ≤ m.0.made
  pub room : m.0.made ≤ vec_capacity y

-- where the serving word says the ticket the turn has come, and else nothing has
abbrev pub saw : Step Slot → Seated → ℕ → Seated → Type 0
saw st m r n =
    (r ≡ m.0.ticket % 2 ^ 64 → (y : Vec Page Global) × HasList m y n)
    × (r ≢ m.0.ticket % 2 ^ 64 → (n.0 ≡ m.0) × (n.1 ≡ m.1))

-- the turn ended: with the last free page, which the pass didn't hold
abbrev pub took_page : Step Slot → Seated → ℕ → Seated → Type 0
took_page st m r n = (n.0 ≡ took m.0) × (n.1 ≡ rest m.1) × (times (last_of m.0.found) m.0.pages ≡ 0)

-- without one
abbrev pub missed_page : Step Slot → Seated → ℕ → Seated → Type 0
missed_page st m r n = (n.0 ≡ missed m.0) × (n.1 ≡ rest m.1)

-- with the last of the pages that lie in the slot given back
abbrev pub gave_page : Step Slot → Seated → ℕ → Seated → Type 0
gave_page st m r n = (n.0 ≡ gave (last_of (carried m.1)) m.0) × (n.1 ≡ rest m.1)

-- What a pass tells of itself when it has all parts: the law of shares, and where the pages are
pub record IsFair (v : View) : Type 0 where
  pub peak : v.peak ≤ v.made
  pub low : (low : ℕ) → v.low ≡ Some low → 0 < v.askers → low < v.made / v.askers → v.made / v.askers < v.peak

abbrev pub weighed : Step Slot → Seated → ℕ → Seated → Type 0
weighed st m r n = (n.0 ≡ m.0) × (n.1 ≡ m.1) × (m.0.parts ≡ all_parts → IsFair m.0)
