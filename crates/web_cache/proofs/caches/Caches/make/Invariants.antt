use Rattle.std.proofs.Common.{◌≡◌}
use Rattle.web_cache.specs.CacheMachine.{new_groups}
use Rattle.web_cache.proofs.caches.Caches.make.Given as goal

-- the groups of the numbers so far
abbrev pub invariant-loop-group : goal.invariant-loop-group
invariant-loop-group l = l.groups.items ≡ new_groups l.group
