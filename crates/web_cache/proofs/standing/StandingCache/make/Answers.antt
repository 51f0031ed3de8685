use Rattle.std.proofs.Common.{rules, ap}
use Rattle.cache_rows.specs.RowMachine.{CacheRows}
use Rattle.web_cache.specs.Shown.{Shown}
use Rattle.web_cache.proofs.Showing.{made}
use Rattle.web_cache.proofs.standing.StandingCache.make.Goals as goal

pub returns : goal.returns
returns c =
    let s : Shown c.in_ok-try_copy.field-0 c.in_ok-make.field-0.rows = search rules in
    made c.in_ok-try_copy.field-0 c.args.id.now c.in_ok-make.field-0 s c.in_ok-try_copy.ensures (ap (λ (r : CacheRows). r.rows) c.in_ok-make.ensures) (ap (λ (r : CacheRows). r.last) c.in_ok-make.ensures)
