-- What a call on a pass leaves of a taker.
use Rattle.std.proofs.Common.{◌≡◌, ℕ, ◌<◌, max, sym, refl, ap, subst, arith}
use Rattle.page_pool.specs.Holding.{times, TakesPage, FindsNone, GivesPage, raised}
use Rattle.page_pool.specs.Passes.{PassState, Takes, FindsDry, Gives}
use Rattle.page_pool.specs.Users.{user_holding}
use Rattle.page_pool.specs.declared.pool_user.PoolMark.{PoolMark}
use Rattle.page_pool.proofs.Times.{times-without, length-without, times-one}

-- a mark with other askers
abbrev marks : PassState → ℕ → PoolMark
marks p n = record { pool = p.pool; made = p.made; parts = p.parts; askers = n }

pub takes_holding : (old new : PassState) (n dries : ℕ) → Takes old n new → TakesPage (user_holding old dries) n (user_holding new dries)
takes_holding old new n dries t = subst (λ (p : PassState). TakesPage (user_holding old dries) n (user_holding p dries)) (sym t.is) (record {
  fresh = t.fresh;
  out = record { each = λ k. refl; one_longer = omega arith };
  peak = ap (λ (m : ℕ). max old.peak m) (omega arith);
  low = refl;
  dries = refl;
  mark = ap (λ (m : ℕ). marks old m) (omega arith);
})

pub misses_holding : (old new : PassState) (dries dries' : ℕ) → FindsDry old new → dries' ≡ raised dries → FindsNone (user_holding old dries) (user_holding new dries')
misses_holding old new dries dries' t more = subst (λ (p : PassState). FindsNone (user_holding old dries) (user_holding p dries')) (sym t.is) (record {
  out = refl;
  peak = refl;
  low = refl;
  dries = more;
  mark = ap (λ (m : ℕ). marks old m) (omega arith);
})

pub gives_holding : (old new : PassState) (n dries : ℕ) → 0 < times n old.pages → Gives old n new → GivesPage (user_holding old dries) n (user_holding new dries)
gives_holding old new n dries held t = subst (λ (p : PassState). GivesPage (user_holding old dries) n (user_holding p dries)) (sym t.is) (record {
  out = record {
    each = λ k. let a = times-without k n old.pages in let b = times-one k n old.pages held in omega (arith, a, b);
    one_longer = let a = length-without n old.pages held in omega (arith, a);
  };
  peak = refl;
  low = refl;
  dries = refl;
  mark = refl;
})
