-- What appending words to a region leaves.
use Rattle.std.specs.Prelude.{◌≡◌, ℕ, ◌+◌, ◌*◌, ◌^◌, ◌<◌, ◌≤◌, max, List, Some}
use Rattle.page_pool.specs.Holding.{lesser, raised}
use Rattle.kam_store.specs.Store.{StoreState, with_live, appended, length_at, load_of}

-- the peak doesn't fall, and rises at most to the load of the store with the words written
pub record PeaksWithin {M : Type 0} (old : StoreState M) (serial : ℕ) (words : List ℕ) (new : StoreState M) : Type 0 where
  pub kept : old.peak ≤ new.peak
  pub most : new.peak ≤ max old.peak (load_of (with_live old (appended serial words old.live)))

-- the words stand at the end of the region, behind the pointer
pub record Writes {M : Type 0} (old : StoreState M) (serial : ℕ) (words : List ℕ) (pointer : ℕ) (new : StoreState M) : Type 0 where
  pub place : pointer ≡ serial * 2 ^ 32 + length_at serial old.live
  pub peak : PeaksWithin old serial words new
  pub rest : new ≡ record old { live = appended serial words old.live; peak = new.peak }

-- no page was to be had when fewer were out than the words need, and the pages taken were given back
pub record LacksPage {M : Type 0} (old : StoreState M) (serial : ℕ) (words : List ℕ) (new : StoreState M) : Type 0 where
  -- how many pages were out then
  pub found : ℕ
  pub below : found < load_of (with_live old (appended serial words old.live))
  pub peak : PeaksWithin old serial words new
  pub rest : new ≡ record old { peak = new.peak; low = Some (lesser old.low found); dries = raised old.dries }

-- memory was wanting, and the pages taken were given back
pub record LacksMemory {M : Type 0} (old : StoreState M) (serial : ℕ) (words : List ℕ) (new : StoreState M) : Type 0 where
  pub peak : PeaksWithin old serial words new
  pub rest : new ≡ record old { peak = new.peak }
