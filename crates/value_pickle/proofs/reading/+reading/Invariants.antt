use Rattle.std.proofs.Common.{length}
use Rattle.value_pickle.proofs.Wholes.{ItemsRead}
use Rattle.value_pickle.proofs.reading.+reading.Given as goal

abbrev pub invariant-read_items-loop-more : goal.invariant-read_items-loop-more
invariant-read_items-loop-more l = ItemsRead l.desc l.bytes l.items.items l.more l.rest

abbrev pub decreases-read_items-loop-more : goal.decreases-read_items-loop-more
decreases-read_items-loop-more l = length l.rest
