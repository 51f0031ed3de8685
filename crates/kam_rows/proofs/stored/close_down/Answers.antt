use Rattle.std.proofs.Common.{arith}
use Rattle.kam_store.proofs.Bounds.{after_close}
use Rattle.kam_rows.proofs.stored.close_down.Goals as goal

pub returns-then-height-clause-words : goal.returns-then-height-clause-words
returns-then-height-clause-words g c =
    let s = g.R.RegionStore.store c.args.store.now in
    let n = after_close s (g.R.RegionStore.store c.close_to.new.self) c.args.height c.close_to.ensures in
    omega (arith, n.words_in)
