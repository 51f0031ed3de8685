use Rattle.std.proofs.Common.{◌+◌, refl}
use Rattle.kam_rows.proofs.Stacked.{put_local_row}
use Rattle.kam_rows.proofs.stack_rows.put_local.Goals as goal

pub returns-clause-row : goal.returns-clause-row
returns-clause-row c = (put_local_row (c.args.r.now.base + c.args.i) c.in-Some.at c.args.r.now.top c.args.stack.now c.in-Some.ensures.1 c.if-at-r.false c.requires, refl)
