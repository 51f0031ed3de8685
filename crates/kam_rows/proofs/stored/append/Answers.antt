use Rattle.std.proofs.Common.{arith}
use Rattle.kam_store.proofs.Bounds.{length_at-le, after_write}
use Rattle.kam_rows.proofs.Refusals.{after_refusal}
use Rattle.kam_rows.proofs.stored.append.Goals as goal

pub alloc_words-requires : goal.alloc_words-requires
alloc_words-requires g c =
    let l = length_at-le c.args.serial (g.R.RegionStore.store c.args.store.now).live in omega (arith, l, c.requires)

pub returns-clause-made : goal.returns-clause-made
returns-clause-made g c =
    let e = c.alloc_words.ensures in
    let n = after_write (g.R.RegionStore.store c.args.store.now) (g.R.RegionStore.store c.alloc_words.new.self) c.args.serial c.args.words.now c.alloc_words.result e.written e.no_page e.unchanged e.no_memory in
    omega (arith, n.made)

pub returns-clause-words : goal.returns-clause-words
returns-clause-words g c =
    let e = c.alloc_words.ensures in
    let n = after_write (g.R.RegionStore.store c.args.store.now) (g.R.RegionStore.store c.alloc_words.new.self) c.args.serial c.args.words.now c.alloc_words.result e.written e.no_page e.unchanged e.no_memory in
    omega (arith, n.words_in)

pub returns-clause-kept : goal.returns-clause-kept
returns-clause-kept g c =
    let e = c.alloc_words.ensures in
    after_refusal (g.R.RegionStore.store c.args.store.now) (g.R.RegionStore.store c.alloc_words.new.self) c.args.serial c.args.words.now c.alloc_words.result e.no_page e.unchanged e.no_memory
