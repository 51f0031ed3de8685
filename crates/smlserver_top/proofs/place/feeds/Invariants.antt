use Rattle.std.proofs.Common.{◌≡◌, ◌≤◌, ◌+◌, drop}
use Rattle.smlserver_top.specs.Places.{feeds}
use Rattle.smlserver_top.proofs.place.feeds.Given as goal

abbrev pub invariant-loop-b : goal.invariant-loop-b
invariant-loop-b l = record {
  few : l.count ≤ l.b-index;
  same : feeds l.text ≡ l.count + feeds (drop l.b-index l.text);
}
