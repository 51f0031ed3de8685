use Rattle.std.proofs.Common.{◌≡◌, ℕ, ◌+◌, ◌-◌, get_or, length, None}
use Rattle.hm_scheme.proofs.scope.make_room.Given as goal

abbrev pub invariant-loop-innermost : goal.invariant-loop-innermost
invariant-loop-innermost l = (n : ℕ) → get_or l.innermost.items n None ≡ get_or l.initial.innermost.items n None

abbrev pub decreases-loop-innermost : goal.decreases-loop-innermost
decreases-loop-innermost l = l.name + 1 - length l.innermost.items
