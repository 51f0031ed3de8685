use Rattle.std.proofs.Common.{arith}
use Rattle.kam_store.proofs.Bounds.{after_close}
use Rattle.store_cases.proofs.watched.Watched.close_to.Goals as goal

pub invariant_of-self : goal.invariant_of-self
invariant_of-self g c =
    let s = c.args.self.now in
    let n = after_close (g.S.RegionStore.store s.store) (g.S.RegionStore.store c.close_to.new.self) _ c.close_to.ensures in
    record { few = omega (arith, n.made, s.few); small = omega (arith, n.words_in, s.small) }
