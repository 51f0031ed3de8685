use Rattle.std.proofs.Common.{arith}
use Rattle.kam_store.proofs.Bounds.{after_close}
use Rattle.workbench.proofs.region_store.close_highest.Goals as goal

pub returns-then-height-gt0-clause-words : goal.returns-then-height-gt0-clause-words
returns-then-height-gt0-clause-words g c =
    let n = after_close (g.S.RegionStore.store c.args.store.now) (g.S.RegionStore.store c.close_top.new.self) _ c.close_top.ensures in
    omega (arith, n.words_in)
