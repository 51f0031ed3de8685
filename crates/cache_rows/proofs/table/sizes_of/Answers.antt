use Rattle.cache_rows.proofs.Tabling.{none-more}
use Rattle.cache_rows.proofs.table.sizes_of.Goals as goal

pub returns : goal.returns
returns c = none-more c.loop-key.sum c.args.rows.now.entries c.loop-key.key-iterator c.in-None.ensures.steps.0 c.loop-key.invariant.0 c.loop-key.invariant.1
