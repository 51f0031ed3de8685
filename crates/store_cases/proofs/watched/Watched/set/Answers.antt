use Rattle.std.proofs.Common.{arith}
use Rattle.kam_store.proofs.Bounds.{after_set}
use Rattle.store_cases.proofs.watched.Watched.set.Goals as goal

pub invariant_of-self : goal.invariant_of-self
invariant_of-self g c =
    let s = c.args.self.now in
    let n = after_set (g.S.RegionStore.store s.store) (g.S.RegionStore.store c.set.new.self) c.args.pointer c.args.field c.args.word c.set.result c.set.ensures.written c.set.ensures.err in
    record { few = omega (arith, n.made, s.few); small = omega (arith, n.words_in, s.small) }
