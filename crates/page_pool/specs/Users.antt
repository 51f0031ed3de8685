-- A pass of a shared pool as one taker of pages.
use Rattle.std.specs.Prelude.{ℕ, max}
use Rattle.page_pool.specs.Holding.{Holding}
use Rattle.page_pool.specs.Passes.{PassState}
use Rattle.page_pool.specs.declared.pool_user.PoolMark.{PoolMark}

-- where its pages come from
abbrev pub mark_of : PassState → PoolMark
mark_of p = record { pool = p.pool; made = p.made; parts = p.parts; askers = max 1 p.askers }

-- what it holds and met; how often it found none is counted by its user
abbrev pub user_holding : PassState → ℕ → Holding PoolMark
user_holding p dries = record { out = p.pages; peak = p.peak; low = p.low; dries = dries; mark = mark_of p }
