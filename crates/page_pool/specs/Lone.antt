-- A pool that one taker has to itself.
use Rattle.std.specs.Prelude.{◌≡◌, ℕ, ◌+◌, ◌≤◌, List, [], ◌∷◌, Option, Some, if◌then◌else◌, ◌==◌}
use Rattle.std.specs.List.{range_with_len}
use Rattle.page_pool.specs.Holding.{Holding, times}

-- its free pages' numbers, how many pages it has, and what its taker met
pub record LonePages : Type 0 where
  pub free : List ℕ
  pub made : ℕ
  pub peak : ℕ
  pub low : Option ℕ
  pub dries : ℕ

-- a list with one n less
abbrev pub without : ℕ → List ℕ → List ℕ
without n [] = []
without n (x ∷ xs) = if x == n then xs else x ∷ without n xs

-- what is left of a list without those of another
abbrev pub left_of : List ℕ → List ℕ → List ℕ
left_of xs [] = xs
left_of xs (n ∷ ns) = left_of (without n xs) ns

-- all numbers of a pool's pages
abbrev pub numbers_of : ℕ → List ℕ
numbers_of made = range_with_len 0 made

-- the numbers that aren't in the pool are out; the mark is how many pages it has
abbrev pub lone_holding : LonePages → Holding ℕ
lone_holding p = record { out = left_of (numbers_of p.made) p.free; peak = p.peak; low = p.low; dries = p.dries; mark = p.made }

-- each of a pool's numbers is in the pool or with its taker, and there is no other
abbrev pub HasEachOnce : LonePages → Type 0
HasEachOnce p = (k : ℕ) → times k p.free + times k (lone_holding p).out ≡ times k (numbers_of p.made)

-- where none was to be had, all of its pages were out
abbrev pub HasFullLow : LonePages → Type 0
HasFullLow p = (n : ℕ) → p.low ≡ Some n → n ≡ p.made

-- no number stands twice, and each is one of a pool's
pub record AreOnce (made : ℕ) (ns : List ℕ) : Type 0 where
  pub once : (k : ℕ) → times k ns ≤ times k (numbers_of made)
