use Rattle.std.proofs.Common.{◌*◌, ◌≤◌}
use Rattle.kam_store.specs.Store.{words_in}
use Rattle.workbench.proofs.region_store.sum_of.Given as goal

-- at most one region and two words a turn
abbrev pub invariant-loop-index : goal.invariant-loop-index
invariant-loop-index g l =
    let s = g.S.RegionStore.store l.store in
    record { made : s.made ≤ l.index; words : words_in s.live ≤ 2 * l.index }
