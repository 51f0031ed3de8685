use Rattle.std.proofs.Common.{sym, ap, ◌∙◌}
use Rattle.value_pickle.specs.Answers.{are_entries}
use Rattle.value_pickle.proofs.Entries.{all_fits, all_fits_where}
use Rattle.value_pickle.proofs.answers.db_answer_fits.Goals as goal

pub returns-in-All-Rows-clause-fits : goal.returns-in-All-Rows-clause-fits
returns-in-All-Rows-clause-fits c = λ h.
    all_fits c.args.command.now c.args.answer.now c.in-All-Rows.field-0-0 c.in-All-Rows.rows c.in-All-Rows.is-0 c.in-All-Rows.is-1
    (ap are_entries (sym c.as_slice-in-All-Rows.ensures) ∙ sym c.are_entries.ensures ∙ h)

pub returns-in-All-Rows-clause-fits_where : goal.returns-in-All-Rows-clause-fits_where
returns-in-All-Rows-clause-fits_where c = λ fits.
    c.are_entries.ensures ∙ ap are_entries c.as_slice-in-All-Rows.ensures
    ∙ all_fits_where c.args.command.now c.args.answer.now c.in-All-Rows.field-0-0 c.in-All-Rows.rows c.in-All-Rows.is-0 c.in-All-Rows.is-1 fits
