use Rattle.std.proofs.Common.{◌∙◌}
use Rattle.cache_rows.proofs.Settling.{drops-first, all-kept}
use Rattle.cache_rows.proofs.rows.shrink.Goals as goal

pub loop-table-preserved : goal.loop-table-preserved
loop-table-preserved c = drops-first c.args.most c.sizes.result c.loop-table.table c.drop_first.new.self (c.drop_first.ensures.some c.if-not-drop_first.false) c.sizes.ensures c.loop-table-test.true ∙ c.loop-table.invariant

pub returns-after-loop-table : goal.returns-after-loop-table
returns-after-loop-table c = all-kept c.args.most c.sizes.result c.loop-table.table c.sizes.ensures c.loop-table-test.false ∙ c.loop-table.invariant
