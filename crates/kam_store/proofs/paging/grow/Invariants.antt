use Rattle.std.proofs.Common.{◌≡◌, ◌-◌, take, vec_len}
use Rattle.kam_store.specs.Joined.{numbers}
use Rattle.kam_store.specs.Moves.{MovesPages, PeakWithin, IsUnmet}
use Rattle.kam_store.proofs.paging.grow.Given as goal

-- the pages so far are the old ones and those that came
abbrev pub invariant-loop-count : goal.invariant-loop-count
invariant-loop-count g l =
    let h = g.P.Pages.holding in
    record {
      count : vec_len l.pages ≡ l.count;
      front : take l.kept l.pages.items ≡ l.initial.pages.items;
      moved : MovesPages (h l.initial.pool) (numbers l.initial.pages.items) (h l.pool) (numbers l.pages.items);
      peak : PeakWithin (h l.initial.pool) (l.wanted - l.kept) (h l.pool);
      unmet : IsUnmet (h l.initial.pool) (h l.pool);
    }
