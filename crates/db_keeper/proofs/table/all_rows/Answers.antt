use Rattle.db_keeper.proofs.Maps.{ascend}
use Rattle.db_keeper.proofs.table.all_rows.Goals as goal

pub returns-clause-ascend : goal.returns-clause-ascend
returns-clause-ascend c = ascend (λ value. value) c.args.table.now.entries c.iter-key-items.ensures.ordered
