use Rattle.std.proofs.Common.{refl}
use Rattle.kam_rows.proofs.Stacked.{pop_gives}
use Rattle.kam_rows.proofs.stack_rows.pop.Goals as goal

pub returns-clause-row : goal.returns-clause-row
returns-clause-row c = λ slots h. (pop_gives c.args.n c.args.r.now.top slots c.if-n-r.false h, refl)
