use Rattle.std.proofs.Common.{◌≡◌, take, drop, vec_len}
use Rattle.kam_store.specs.Joined.{numbers}
use Rattle.kam_store.specs.Moves.{MovesPages, AreOut, IsUnmet}
use Rattle.kam_store.proofs.paging.shrink.Given as goal

-- the pages that stay are there, and the others are out
abbrev pub invariant-loop-pages : goal.invariant-loop-pages
invariant-loop-pages g l =
    let h = g.P.Pages.holding in
    record {
      front : take l.kept l.pages.items ≡ take l.kept l.initial.pages.items;
      out : AreOut (h l.pool) (numbers (drop l.kept l.pages.items));
      moved : MovesPages (h l.initial.pool) (numbers l.initial.pages.items) (h l.pool) (numbers l.pages.items);
      unmet : IsUnmet (h l.initial.pool) (h l.pool);
      peak : (h l.pool).peak ≡ (h l.initial.pool).peak;
    }

abbrev pub decreases-loop-pages : goal.decreases-loop-pages
decreases-loop-pages g l = vec_len l.pages
