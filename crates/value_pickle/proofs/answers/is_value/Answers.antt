use Rattle.std.proofs.Common.{length, sym, ap, subst, ◌∙◌}
use Rattle.std.proofs.lemmas.Bool.{eqb-true}
use Rattle.value_pickle.specs.Answers.{IsValue}
use Rattle.value_pickle.proofs.Entries.{one_value, only_row}
use Rattle.value_pickle.proofs.answers.is_value.Goals as goal

pub returns-in-len1-clause-fits : goal.returns-in-len1-clause-fits
returns-in-len1-clause-fits c = λ h.
    subst IsValue (sym (only_row c.args.rows.now c.row-item.result c.in-len1.len_at_least c.in-len1.len_below c.row-item.is))
    (one_value c.row-item.result (ap length (sym c.as_slice.ensures) ∙ eqb-true (length c.as_slice.result.now) 1 h))
