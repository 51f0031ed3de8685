-- Caches whose values have the description of their cache.
use Rattle.std.specs.Prelude.{◌≡◌, List, true}
use Rattle.std.specs.List.{AllByRecursion}
use Rattle.web_data.specs.declared.cache.CacheId.{CacheId}
use Rattle.web_data.specs.Data.{has_desc}
use Rattle.web_cache.specs.CacheMachine.{DataRow, Standing, Group}

abbrev pub IsFitting : CacheId → DataRow → Type 0
IsFitting id r = has_desc id.value r.value ≡ true

abbrev pub RowsFit : CacheId → List DataRow → Type 0
RowsFit id rows = AllByRecursion (IsFitting id) rows

abbrev pub CachesFit : List Standing → Type 0
CachesFit caches = AllByRecursion (λ c. RowsFit c.id c.rows) caches

abbrev pub AreFitting : List Group → Type 0
AreFitting groups = AllByRecursion (λ g. CachesFit g.caches) groups
