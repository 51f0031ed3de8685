use Rattle.std.proofs.Common.{◌∙◌, sym, rules}
use Rattle.cache_rows.proofs.Listing.{shrinks, all-fit}
use Rattle.cache_rows.proofs.list_rows.shrink.Goals as goal

pub loop-rows-preserved : goal.loop-rows-preserved
loop-rows-preserved c =
    let (least, first) = c.first_to_leave-first.ensures in
    shrinks c.args.most c.sizes_of.result c.first_to_leave-first.result least c.loop-rows.rows.items _ (search rules) (search rules) c.if-sizes_of-most.true c.remove.ensures.items ∙ c.loop-rows.invariant

pub returns-else-sizes_of-most : goal.returns-else-sizes_of-most
returns-else-sizes_of-most c = sym (all-fit c.args.most c.sizes_of.result c.loop-rows.rows.items (search rules) c.if-sizes_of-most.false (search rules)) ∙ c.loop-rows.invariant
