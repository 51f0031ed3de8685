use Rattle.std.proofs.Common.{◌≡◌, ◌≤◌, take, reverse, length}
use Rattle.typing_rules.specs.Scope.{has_name}
use Rattle.hm_scope.proofs.search.Search.has_type.Given as goal

abbrev pub invariant-loop-left : goal.invariant-loop-left
invariant-loop-left l = (has_name l.name (reverse l.self-inside.types.items) ≡ has_name l.name (reverse (take l.left l.self-inside.types.items)))
    × (l.left ≤ length l.self-inside.types.items)

abbrev pub decreases-loop-left : goal.decreases-loop-left
decreases-loop-left l = l.left
