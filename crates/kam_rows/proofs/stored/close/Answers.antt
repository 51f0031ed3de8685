use Rattle.std.proofs.Common.{◌-◌, length, arith}
use Rattle.kam_store.proofs.Bounds.{after_close}
use Rattle.kam_rows.proofs.stored.close.Goals as goal

pub returns-clause-words : goal.returns-clause-words
returns-clause-words g c =
    let s = g.R.RegionStore.store c.args.store.now in
    let n = after_close s (g.R.RegionStore.store c.close_top.new.self) (length s.live - 1) c.close_top.ensures in
    omega (arith, n.words_in)
