use Rattle.std.proofs.Common.{ap, sym, ◌∙◌, true, false}
use Rattle.web_data.specs.declared.database.DbAns.TheVariants as ans
use Rattle.db_keeper.specs.DatabaseMachine.{effect}
use Rattle.db_keeper.proofs.Maps.{asked, table-stands, table-new, if_so, if_not}
use Rattle.db_keeper.proofs.tables.Tables.create.Goals as goal

pub returns-then-contains_key-clause-ok : goal.returns-then-contains_key-clause-ok
returns-then-contains_key-clause-ok c =
    if_so _ _ _ (table-stands c.args.name.now c.args.self.now c.self.inside.tables (sym c.self.view_is) c.contains_key.result true (c.contains_key.ensures ∙ asked c.self.inside.tables _ _ c.as_bytes.ensures) c.if-contains_key.true)

pub returns-clause-ok : goal.returns-clause-ok
returns-clause-ok c =
    if_not _ _ _ (table-stands c.args.name.now c.args.self.now c.self.inside.tables (sym c.self.view_is) c.contains_key.result false (c.contains_key.ensures ∙ asked c.self.inside.tables _ _ c.as_bytes.ensures) c.if-contains_key.false)
    ∙ ap (effect ans.Done) (sym (table-new c.args.name.now c.args.self.now c.self.inside.tables (sym c.self.view_is) c.in_ok-name.name c.new.result c.insert.new.self c.in_ok-insert.ensures.entries (c.in_ok-name.ensures.items ∙ c.as_bytes-2.ensures) c.new.ensures.empty))
