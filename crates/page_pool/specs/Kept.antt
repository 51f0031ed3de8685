-- What a lone pool keeps true of its fields.
use Rattle.std.specs.Prelude.{◌≡◌, ℕ, ◌≤◌, Some, vec_capacity}
use Rattle.page_pool.specs.Lone.{AreOnce}
use Rattle.page_pool.specs.PageWords.{numbers}
use Rattle.page_pool.specs.declared.lone_pool.LonePool.TheInside.{Inside}

-- each free page is one of the pool's, there is none twice, and there is room for all; the low, if there is one, is the number of pages
pub record IsLone (p : Inside) : Type 0 where
  pub once : AreOnce p.made (numbers p.free.items)
  pub room : p.made ≤ vec_capacity p.free
  pub full : (n : ℕ) → p.low ≡ Some n → n ≡ p.made
