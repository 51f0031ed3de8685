use Rattle.std.proofs.Common.{length, sym, ◌∙◌}
use Rattle.std.proofs.lemmas.Result.{err_from_is_err_and}
use Rattle.value_pickle.proofs.Digits.{above_0}
use Rattle.value_pickle.proofs.Places.{halts_whole, halts_behind}
use Rattle.value_pickle.proofs.reading.read_whole.Goals as goal

pub returns-in_err-datum-clause-halt : goal.returns-in_err-datum-clause-halt
returns-in_err-datum-clause-halt c =
    let p = err_from_is_err_and c.from_residual.result c.from_residual.ensures.1
    in rw (p.1, p.2) (halts_whole c.args.desc.now c.args.bytes.now c.in_err-datum.field-0.0 c.in_err-datum.ensures.halt)

pub returns-then-not-is_empty-clause-halt : goal.returns-then-not-is_empty-clause-halt
returns-then-not-is_empty-clause-halt c =
    halts_behind c.args.desc.now c.args.bytes.now c.in_ok-datum.datum c.in_ok-datum.rest.now c.in_ok-datum.ensures.datum
    (above_0 (length c.in_ok-datum.rest.now) (sym c.is_empty.ensures ∙ c.if-not-is_empty.true))
