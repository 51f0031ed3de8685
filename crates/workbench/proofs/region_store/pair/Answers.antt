use Rattle.std.proofs.Common.{arith}
use Rattle.kam_store.proofs.Bounds.{length_at-le, after_write}
use Rattle.workbench.proofs.region_store.pair.Goals as goal

pub alloc_words-requires : goal.alloc_words-requires
alloc_words-requires g c =
    let l = length_at-le c.args.serial (g.S.RegionStore.store c.args.store.now).live in omega (arith, l, c.requires)

pub returns-in-Ok-clause-words : goal.returns-in-Ok-clause-words
returns-in-Ok-clause-words g c =
    let e = c.alloc_words.ensures in
    let n = after_write (g.S.RegionStore.store c.args.store.now) (g.S.RegionStore.store c.alloc_words.new.self) c.args.serial _ c.alloc_words.result e.written e.no_page e.unchanged e.no_memory in
    omega (arith, n.words_in)
