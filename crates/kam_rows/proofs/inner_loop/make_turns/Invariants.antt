use Rattle.std.proofs.Common.{◌≡◌, ◌+◌, ◌≤◌, length}
use Rattle.kam_store.specs.Store.{words_in}
use Rattle.kam_rows.specs.declared.row.Row.TheVariants as row
use Rattle.kam_rows.proofs.inner_loop.make_turns.Given as goal

abbrev pub invariant-turn : goal.invariant-turn
invariant-turn g l =
    let s = g.R.RegionStore.store l.store in
    record {
      top : l.r.top ≤ length l.stack;
      slots : length l.stack ≡ length l.initial.stack;
      row : l.row ≡ row.Budget;
      left : l.r.left ≤ l.initial.r.left;
      words : words_in s.live + l.r.left ≤ 1000000000;
      made : s.made + l.r.left ≤ 1000000001;
    }

abbrev pub decreases-turn : goal.decreases-turn
decreases-turn g l = l.r.left
