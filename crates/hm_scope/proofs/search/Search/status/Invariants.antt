use Rattle.std.proofs.Common.{◌≡◌, ◌≤◌, take, reverse, length}
use Rattle.typing_rules.specs.Scope.{status}
use Rattle.hm_scope.proofs.search.Search.status.Given as goal

abbrev pub invariant-loop-left : goal.invariant-loop-left
invariant-loop-left l = (status l.name (reverse l.self-inside.values.items) ≡ status l.name (reverse (take l.left l.self-inside.values.items)))
    × (l.left ≤ length l.self-inside.values.items)

abbrev pub decreases-loop-left : goal.decreases-loop-left
decreases-loop-left l = l.left
