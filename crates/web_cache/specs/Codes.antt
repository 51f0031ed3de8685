-- How the logic stores caches and groups.
use Rattle.std.specs.Prelude.{ℕ, List, refl}
use Rattle.std.specs.Coded.{Coded, code_by, coded×, coded_list, coded_ℕ}
use Rattle.web_data.specs.declared.datum.Datum.{Datum}
use Rattle.web_data.specs.declared.cache.CacheId.{CacheId}
use Rattle.web_data.specs.contracts.datum.Datum as datum
use Rattle.web_data.specs.contracts.cache.CacheId as id
use Rattle.web_cache.specs.CacheMachine.{DataRow, Standing, Group}
use Rattle.web_cache.specs.Shown.{Kept}

abbrev pub row_code : Coded DataRow
row_code = code_by (Datum × (Datum × ℕ)) (coded× datum.the_row.coded (coded× datum.the_row.coded coded_ℕ)) (λ r. (r.key, (r.value, r.stamp))) (λ t. record { key = t.0; value = t.1.0; stamp = t.1.1 }) (λ _. refl)

abbrev pub standing_code : Coded Standing
standing_code = code_by (CacheId × List DataRow) (coded× id.the_row.coded (coded_list row_code)) (λ c. (c.id, c.rows)) (λ t. record { id = t.0; rows = t.1 }) (λ _. refl)

abbrev pub group_code : Coded Group
group_code = code_by (ℕ × (ℕ × List Standing)) (coded× coded_ℕ (coded× coded_ℕ (coded_list standing_code))) (λ g. (g.number, (g.last, g.caches))) (λ t. record { number = t.0; last = t.1.0; caches = t.1.1 }) (λ _. refl)

abbrev pub kept_code : Coded Kept
kept_code = code_by (CacheId × (List DataRow × ℕ)) (coded× id.the_row.coded (coded× (coded_list row_code) coded_ℕ)) (λ c. (c.id, (c.rows, c.last))) (λ t. record { id = t.0; rows = t.1.0; last = t.1.1 }) (λ _. refl)
