use Rattle.std.proofs.Common.{◌<◌, ◌≤◌, ap, sym, subst, ◌∙◌}
use Rattle.cache_rows.proofs.Listing.{first-then, first-else}
use Rattle.cache_rows.proofs.list_rows.first_to_leave.Goals as goal
use Rattle.cache_rows.proofs.list_rows.first_to_leave.Goals.{then-stamp-least, else-stamp-least}

pub loop-at-preserved : goal.loop-at-preserved
loop-at-preserved c =
    let at = c.index-rows-at.is in
    let same = ap (λ r. r.stamp) at in
    elim c.if-stamp-least.branch [
      | then-stamp-least w ↦ first-then c.args.rows.now c.loop-at.at c.loop-at.first c.loop-at.least c.index-rows-at.result c.loop-at-test.true at c.loop-at.invariant _ _ (subst (λ n. n < c.loop-at.least) (sym same) w.if-stamp-least.true) w.first-is (w.least-is ∙ sym same)
      | else-stamp-least w ↦ first-else c.args.rows.now c.loop-at.at c.loop-at.first c.loop-at.least c.index-rows-at.result c.loop-at-test.true at c.loop-at.invariant _ _ (subst (λ n. c.loop-at.least ≤ n) (sym same) w.if-stamp-least.false) w.first-is w.least-is
    ]
