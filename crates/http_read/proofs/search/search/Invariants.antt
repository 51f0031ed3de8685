use Rattle.std.proofs.Common.{length, ◌-◌}
use Rattle.http_read.specs.Reader.{IsSearched}
use Rattle.http_read.proofs.search.search.Given as goal

abbrev pub invariant-loop-at : goal.invariant-loop-at
invariant-loop-at l = IsSearched l.held l.at l.count

abbrev pub decreases-loop-at : goal.decreases-loop-at
decreases-loop-at l = length l.held - l.at
