use Rattle.cache_rows.proofs.Settling.{looked}
use Rattle.cache_rows.proofs.rows.look_up.Goals as goal

pub returns-clause-ok : goal.returns-clause-ok
returns-clause-ok c = looked c.args.kind c.args.now c.args.key.now c.args.table.now c.look.new.self c.expire.new.self c.in_ok-value.value c.in_ok-value.ensures.ok c.expire.ensures
