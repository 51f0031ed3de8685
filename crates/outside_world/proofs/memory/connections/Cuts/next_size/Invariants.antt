use Rattle.std.proofs.Common.{◌≡◌, ◌-◌, length, drop}
use Rattle.outside_world.specs.Stored.{piece_size, sizes_after}
use Rattle.outside_world.proofs.memory.connections.Cuts.next_size.Given as goal

abbrev pub invariant-loop-self : goal.invariant-loop-self
invariant-loop-self l = record {
  size : piece_size (drop l.self-inside.at l.self-inside.sizes.items) l.room ≡ piece_size l.fn.self l.room;
  sizes : sizes_after (drop l.self-inside.at l.self-inside.sizes.items) ≡ sizes_after l.fn.self;
}

abbrev pub decreases-loop-self : goal.decreases-loop-self
decreases-loop-self l = length l.self-inside.sizes.items - l.self-inside.at
