use Rattle.history_check.proofs.Alike.{rows-same}
use Rattle.history_check.proofs.same.same_rows.Goals as goal

pub returns-clause-yes : goal.returns-clause-yes
returns-clause-yes c = (rows-same c.args.a.now c.args.b.now c.eq.result c.eq.ensures).0

pub returns-clause-no : goal.returns-clause-no
returns-clause-no c = (rows-same c.args.a.now c.args.b.now c.eq.result c.eq.ensures).1
