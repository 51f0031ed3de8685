use Rattle.std.proofs.Common.{length, ◌-◌, ◌≡◌, ◌≤◌, take}
use Rattle.outside_world.specs.Told.{grown}
use Rattle.outside_world.proofs.stream.write_all.Given as goal

abbrev pub invariant-loop-at : goal.invariant-loop-at
invariant-loop-at g l = record {
  within : l.at ≤ length l.bytes;
  written : g.K.Sink.written l.sink ≡ grown (g.K.Sink.written l.initial.sink) (take l.at l.bytes);
  count : g.K.Sink.write_count l.initial.sink ≤ g.K.Sink.write_count l.sink;
  keeps : g.K.Sink.kept l.sink ≡ g.K.Sink.kept l.initial.sink;
}

abbrev pub decreases-loop-at : goal.decreases-loop-at
decreases-loop-at g l = length l.bytes - l.at
