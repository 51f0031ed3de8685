use Rattle.std.proofs.Common.{◌≡◌, ◌++◌, ◌≤◌, drop, length, reverse}
use Rattle.hm_scope.proofs.search.Search.add_types.Given as goal

abbrev pub invariant-loop-left : goal.invariant-loop-left
invariant-loop-left l = (reverse l.self-inside.types.items ≡ drop l.left l.names ++ l.fn.self.names.types)
    × (reverse l.self-inside.values.items ≡ l.fn.self.names.values) × (l.self-inside.first ≡ l.fn.self.first) × (l.left ≤ length l.names)

abbrev pub decreases-loop-left : goal.decreases-loop-left
decreases-loop-left l = l.left
