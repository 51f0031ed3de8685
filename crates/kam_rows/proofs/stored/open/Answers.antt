use Rattle.std.proofs.Common.{arith}
use Rattle.kam_store.proofs.Bounds.{after_region}
use Rattle.kam_rows.proofs.stored.open.Goals as goal

pub returns-clause-made : goal.returns-clause-made
returns-clause-made g c =
    let n = after_region (g.R.RegionStore.store c.args.store.now) (g.R.RegionStore.store c.region_new.new.self) c.region_new.result c.region_new.ensures.made c.region_new.ensures.err in
    omega (arith, n.made)

pub returns-clause-words : goal.returns-clause-words
returns-clause-words g c =
    let n = after_region (g.R.RegionStore.store c.args.store.now) (g.R.RegionStore.store c.region_new.new.self) c.region_new.result c.region_new.ensures.made c.region_new.ensures.err in
    omega (arith, n.words_in)
