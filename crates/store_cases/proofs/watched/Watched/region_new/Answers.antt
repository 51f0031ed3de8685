use Rattle.std.proofs.Common.{arith}
use Rattle.kam_store.proofs.Bounds.{after_region}
use Rattle.store_cases.proofs.watched.Watched.region_new.Goals as goal

pub invariant_of-self : goal.invariant_of-self
invariant_of-self g c =
    let s = c.args.self.now in
    let n = after_region (g.S.RegionStore.store s.store) (g.S.RegionStore.store c.region_new.new.self) c.region_new.result c.region_new.ensures.made c.region_new.ensures.err in
    record { few = omega (arith, n.made, s.few); small = omega (arith, n.words_in, s.small) }
