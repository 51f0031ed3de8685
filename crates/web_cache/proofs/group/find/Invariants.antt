use Rattle.std.proofs.Common.{map, drop}
use Rattle.cache_rows.specs.RowMachine.{NoneNamed}
use Rattle.web_cache.specs.CacheMachine.{id_of}
use Rattle.web_cache.specs.Shown.{standing_of}
use Rattle.web_cache.proofs.group.find.Given as goal

-- where none of the caches from here on is that one, none at all is
abbrev pub invariant-loop-at : goal.invariant-loop-at
invariant-loop-at l = NoneNamed id_of l.id (map standing_of (drop l.at l.caches)) → NoneNamed id_of l.id (map standing_of l.caches)
