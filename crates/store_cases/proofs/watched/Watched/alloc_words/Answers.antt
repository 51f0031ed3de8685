use Rattle.std.proofs.Common.{arith}
use Rattle.kam_store.proofs.Bounds.{length_at-le, after_write}
use Rattle.store_cases.proofs.watched.Watched.alloc_words.Goals as goal

pub alloc_words-requires : goal.alloc_words-requires
alloc_words-requires g c =
    let s = c.args.self.now in
    let l = length_at-le c.args.serial (g.S.RegionStore.store s.store).live in
    omega (arith, l, s.small, c.if-self-ge-MOST.false, c.if-words-ge-MOST.false)

pub invariant_of-self : goal.invariant_of-self
invariant_of-self g c =
    let s = c.args.self.now in
    let e = c.alloc_words.ensures in
    let n = after_write (g.S.RegionStore.store s.store) (g.S.RegionStore.store c.alloc_words.new.self) c.args.serial c.args.words.now c.alloc_words.result e.written e.no_page e.unchanged e.no_memory in
    record { few = omega (arith, n.made, s.few); small = omega (arith, n.words_in, s.small) }
