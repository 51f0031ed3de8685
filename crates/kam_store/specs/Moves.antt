-- Pages that come to a taker or go back, in the words of what it holds.
use Rattle.std.specs.Prelude.{◌≡◌, ℕ, ◌+◌, ◌<◌, ◌≤◌, max, List, length, Some}
use Rattle.page_pool.specs.Holding.{Holding, times, lesser, raised}

-- pages with these numbers are out
pub record AreOut {M : Type 0} (h : Holding M) (ns : List ℕ) : Type 0 where
  pub each : (k : ℕ) → times k ns ≤ times k h.out

-- what is out changes as a list of pages did, from one to the other
pub record MovesPages {M : Type 0} (old : Holding M) (before : List ℕ) (new : Holding M) (after : List ℕ) : Type 0 where
  pub each : (k : ℕ) → times k new.out + times k before ≡ times k old.out + times k after
  pub longer : length new.out + length before ≡ length old.out + length after
  pub mark : new.mark ≡ old.mark

-- the peak doesn't fall, and rises at most to so many pages more than were out
pub record PeakWithin {M : Type 0} (old : Holding M) (more : ℕ) (new : Holding M) : Type 0 where
  pub kept : old.peak ≤ new.peak
  pub most : new.peak ≤ max old.peak (length old.out + more)

-- there was a page each time
pub record IsUnmet {M : Type 0} (old new : Holding M) : Type 0 where
  pub low : new.low ≡ old.low
  pub dries : new.dries ≡ old.dries

-- once there was none, when fewer than so many pages more were out
pub record MeetsNone {M : Type 0} (old : Holding M) (more : ℕ) (new : Holding M) : Type 0 where
  pub found : ℕ
  pub below : found < length old.out + more
  pub low : new.low ≡ Some (lesser old.low found)
  pub dries : new.dries ≡ raised old.dries
