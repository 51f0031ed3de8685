use Rattle.std.proofs.Common.{arith}
use Rattle.kam_store.proofs.Bounds.{after_region}
use Rattle.workbench.proofs.region_store.next_region.Goals as goal

pub returns-clause-words : goal.returns-clause-words
returns-clause-words g c =
    let n = after_region (g.S.RegionStore.store c.close_highest.new.store) (g.S.RegionStore.store c.region_new.new.self) c.region_new.result c.region_new.ensures.made c.region_new.ensures.err in
    omega (arith, n.words_in, c.close_highest.ensures.words)
