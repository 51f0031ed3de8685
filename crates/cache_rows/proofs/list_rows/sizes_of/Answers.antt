use Rattle.cache_rows.proofs.Listing.{none-left}
use Rattle.cache_rows.proofs.list_rows.sizes_of.Goals as goal

pub returns : goal.returns
returns c = none-left c.loop-row.sum c.loop-row.row-index c.args.rows.now c.loop-row-test.false c.loop-row.invariant.0 c.loop-row.invariant.1
