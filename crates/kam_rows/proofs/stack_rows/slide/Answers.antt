use Rattle.std.proofs.Common.{refl}
use Rattle.kam_rows.proofs.Stacked.{slide_row}
use Rattle.kam_rows.proofs.stack_rows.slide.Goals as goal

pub returns-clause-row : goal.returns-clause-row
returns-clause-row c = (slide_row c.args.n c.args.r.now.top c.args.stack.now c.if-n-r.false c.requires, refl)
