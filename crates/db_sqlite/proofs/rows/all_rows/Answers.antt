use Rattle.std.proofs.Common.{[], ◌∷◌, ◌++◌, refl, ap, sym, ◌∙◌}
use Rattle.web_data.specs.DatabaseAnswers.{row_of_entry}
use Rattle.db_sqlite.proofs.Ascending.{Entry, none, behind, one_more, ends, row_more}
use Rattle.db_sqlite.proofs.rows.all_rows.Goals as goal

pub loop-row-init : goal.loop-row-init
loop-row-init c = ([], none, c.new-rows.ensures.items, refl)

pub loop-row-preserved : goal.loop-row-preserved
loop-row-preserved c =
    let i = c.loop-row.invariant in
    let e : Entry = (c.in_ok-key.key.now, c.in_ok-text_at.field-0.now) in
    let below = behind c.loop-row.last i.0 c.in_ok-key.key.now i.3 (c.if-not-is_behind.ensures refl) in (
      i.0 ++ e ∷ [],
      one_more i.0 e i.1 below,
      c.in_ok-push_row.ensures ∙ (ap (λ rows. rows ++ row_of_entry e ∷ []) i.2 ∙ sym (row_more i.0 e)),
      ends i.0 e below,
    )
