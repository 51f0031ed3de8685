use Rattle.std.proofs.Common.{◌≡◌, ◌+◌, ◌%◌, drop, sum}
use Rattle.web_cache.specs.CacheMachine.{group_number}
use Rattle.web_cache.proofs.group.group_of.Given as goal

-- the sum so far with that of the bytes to come
abbrev pub invariant-loop-byte : goal.invariant-loop-byte
invariant-loop-byte l = (l.sum + sum (drop l.byte-index l.bytes)) % 16 ≡ group_number l.bytes
