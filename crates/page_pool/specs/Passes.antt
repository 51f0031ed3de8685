-- What contracts see of a shared pool and of its passes.
--     PassState, state_of     what a pass has and met
--     IsPassOf                it is a pass of that pool
--     Takes, FindsDry, Gives  a page came, there was none, a page went back
--     Joins                   two passes became one
use Rattle.std.specs.Prelude.{◌≡◌, ℕ, ◌+◌, ◌/◌, ◌<◌, ◌≤◌, max, List, [], ◌∷◌, ◌++◌, length, Option, Some, None}
use Rattle.atomic_table.specs.Seated.{TableId}
use Rattle.page_pool.specs.Holding.{times, lesser}
use Rattle.page_pool.specs.Lone.{without}
use Rattle.page_pool.specs.Views.{lower}
use Rattle.page_pool.specs.declared.view.View.{View}
use Rattle.page_pool.specs.declared.pass.PoolPass.{PoolPass}
use Rattle.page_pool.specs.declared.pool.Pool.{Pool}

-- what a pass of a pool has, and what it met
pub record PassState : Type 0 where
  -- its pool, and how many pages that has
  pub pool : TableId
  pub made : ℕ
  -- its parts of the right to wait; all passes of a pool have 2^32 together
  pub parts : ℕ
  -- the numbers of the free pages as they were in its last turn
  pub found : List ℕ
  -- the numbers of the pages that it holds
  pub pages : List ℕ
  -- the most pages that it held
  pub peak : ℕ
  -- the fewest pages that it held when none was free, if that came
  pub low : Option ℕ
  -- 1 from its first request for a page on; passes that are joined add theirs
  pub askers : ℕ

-- what a view of a pool's table says of its pass
abbrev pub state : TableId → View → PassState
state pool v = record { pool = pool; made = v.made; parts = v.parts; found = v.found; pages = v.pages; peak = v.peak; low = v.low; askers = v.askers }

abbrev pub state_of : PoolPass → PassState
state_of p = state p.seat.table_id p.seat.me.0

abbrev pub pool_id : Pool → TableId
pool_id p = p.table.shared.table_id

-- the pass is one of the pool
abbrev pub IsPassOf : Pool → PoolPass → Type 0
IsPassOf pool pass = (state_of pass).pool ≡ pool_id pool

-- a pass with so many parts that did nothing yet
abbrev pub new_pass : TableId → ℕ → ℕ → PassState
new_pass pool made parts = record { pool = pool; made = made; parts = parts; found = []; pages = []; peak = 0; low = None; askers = 0 }

-- page n came, which was free and which the pass didn't hold
pub record Takes (old : PassState) (n : ℕ) (new : PassState) : Type 0 where
  pub found : (others : List ℕ) × (new.found ≡ others ++ n ∷ [])
  pub fresh : times n old.pages ≡ 0
  pub is : new ≡ record old { found = new.found; pages = n ∷ old.pages; peak = max old.peak (length old.pages + 1); askers = max 1 old.askers }

-- no page was free
pub record FindsDry (old new : PassState) : Type 0 where
  pub is : new ≡ record old { found = []; low = Some (lesser old.low (length old.pages)); askers = max 1 old.askers }

-- page n went back
pub record Gives (old : PassState) (n : ℕ) (new : PassState) : Type 0 where
  pub is : new ≡ record old { found = new.found; pages = without n old.pages }

-- two passes became one: their pages, parts and askers together, the lesser low, and the greatest of both peaks and the pages now held
abbrev pub joined : PassState → PassState → PassState
joined p q = record p {
  parts = p.parts + q.parts;
  pages = p.pages ++ q.pages;
  peak = max (max p.peak q.peak) (length p.pages + length q.pages);
  low = lower p.low q.low;
  askers = p.askers + q.askers;
}

-- The law of shares, as a pass with all parts tells it. A share is what each asker gets of the pages, rounded down. Where a pass held fewer pages than a share
-- when none was free, some pass held more than one; and none ever held more pages than there are
pub record SharesFairly (p : PassState) : Type 0 where
  pub peak : p.peak ≤ p.made
  pub low : (low : ℕ) → p.low ≡ Some low → 0 < p.askers → low < p.made / p.askers → p.made / p.askers < p.peak
