use Rattle.std.proofs.Common.{ap, sym, ◌∙◌}
use Rattle.web_data.specs.declared.database.DbAns.TheVariants as ans
use Rattle.db_keeper.specs.DatabaseMachine.{effect}
use Rattle.db_keeper.proofs.Maps.{looked}
use Rattle.db_keeper.proofs.Commands.{no_table, at_table}
use Rattle.db_keeper.proofs.tables.Tables.one.Goals as goal

pub returns-in_ok-value_row-in-Some-clause-ok : goal.returns-in_ok-value_row-in-Some-clause-ok
returns-in_ok-value_row-in-Some-clause-ok c =
    at_table c.args.name.now c.args.self.now c.self.inside.tables (sym c.self.view_is) _ c.in-Some.table.now (c.in-Some.ensures.value ∙ looked c.self.inside.tables _ _ c.as_bytes.ensures)
    ∙ ap (λ rows. effect (ans.Rows rows) c.args.self.now) (sym c.in_ok-value_row-in-Some.ensures)

pub returns-in-None-clause-ok : goal.returns-in-None-clause-ok
returns-in-None-clause-ok c = no_table c.args.name.now c.args.self.now c.self.inside.tables (sym c.self.view_is) _ (c.in-None.ensures.value ∙ looked c.self.inside.tables _ _ c.as_bytes.ensures)
