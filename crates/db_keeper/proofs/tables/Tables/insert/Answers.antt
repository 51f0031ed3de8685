use Rattle.std.proofs.Common.{ap, sym, ◌∙◌}
use Rattle.std.specs.Option.{option_copied_mut}
use Rattle.web_data.specs.declared.database.DbAns.TheVariants as ans
use Rattle.db_keeper.specs.DatabaseMachine.{effect}
use Rattle.db_keeper.specs.Shown.{tables_of}
use Rattle.db_keeper.proofs.Maps.{looked, set_by}
use Rattle.db_keeper.proofs.Commands.{no_table, row_inserted, row_kept, if_ok, on_err}
use Rattle.db_keeper.proofs.tables.Tables.insert.Goals as goal

pub returns-in_default-clause-ok : goal.returns-in_default-clause-ok
returns-in_default-clause-ok c =
    no_table c.args.name.now c.args.self.now c.self.inside.tables (sym c.self.view_is) _ (sym (ap option_copied_mut c.in_default.is) ∙ (c.get_mut.ensures.value ∙ looked c.self.inside.tables _ _ c.as_bytes.ensures))
    ∙ ap (effect ans.NoTable) (sym c.self.view_is ∙ sym (ap tables_of c.get_mut.follows.holds-at-none))

pub returns-clause-ok : goal.returns-clause-ok
returns-clause-ok c =
    let w = c.insert_row.new.table in
    if_ok c.insert_row.result _ _ _ c.insert_row.ensures.answer c.insert_row.ensures.ok
    (λ a g k. row_inserted c.args.name.now c.args.self.now c.self.inside.tables (sym c.self.view_is) c.in-Some.table.now w (c.get_mut.follows.lender w)
    (c.in-Some.ensures.value ∙ looked c.self.inside.tables _ _ c.as_bytes.ensures) ((c.get_mut.follows.holds w).0 ∙ set_by c.self.inside.tables _ _ c.as_bytes.ensures w) c.args.key.now c.args.value.now a g k)

pub returns-clause-err : goal.returns-clause-err
returns-clause-err c =
    let w = c.insert_row.new.table in
    on_err c.insert_row.result _ _ c.insert_row.ensures.err
    (λ g. row_kept c.args.name.now c.args.self.now c.self.inside.tables (sym c.self.view_is) c.in-Some.table.now w (c.get_mut.follows.lender w)
    (c.in-Some.ensures.value ∙ looked c.self.inside.tables _ _ c.as_bytes.ensures) ((c.get_mut.follows.holds w).0 ∙ set_by c.self.inside.tables _ _ c.as_bytes.ensures w) g)
