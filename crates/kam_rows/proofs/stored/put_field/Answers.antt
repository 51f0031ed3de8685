use Rattle.std.proofs.Common.{arith}
use Rattle.kam_store.proofs.Bounds.{after_set}
use Rattle.kam_rows.proofs.stored.put_field.Goals as goal

pub returns-clause-made : goal.returns-clause-made
returns-clause-made g c =
    let n = after_set (g.R.RegionStore.store c.args.store.now) (g.R.RegionStore.store c.set.new.self) c.args.pointer c.args.field c.args.word c.set.result c.set.ensures.written c.set.ensures.err in
    omega (arith, n.made)

pub returns-clause-words : goal.returns-clause-words
returns-clause-words g c =
    let n = after_set (g.R.RegionStore.store c.args.store.now) (g.R.RegionStore.store c.set.new.self) c.args.pointer c.args.field c.args.word c.set.result c.set.ensures.written c.set.ensures.err in
    omega (arith, n.words_in)
