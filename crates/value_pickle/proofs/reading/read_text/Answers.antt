use Rattle.std.proofs.lemmas.Result.{err_from_is_err_and}
use Rattle.value_pickle.proofs.Wholes.{halts_in_length, stops_in_text}
use Rattle.value_pickle.proofs.reading.read_text.Goals as goal

pub returns-in_err-len-clause-halt : goal.returns-in_err-len-clause-halt
returns-in_err-len-clause-halt c =
    let p = err_from_is_err_and c.from_residual.result c.from_residual.ensures.1
    in rw (p.1, p.2) (halts_in_length c.args.bytes.now c.in_err-len.field-0.0 c.in_err-len.ensures.halt)

pub returns-then-rest-len-clause-halt : goal.returns-then-rest-len-clause-halt
returns-then-rest-len-clause-halt c = stops_in_text c.args.bytes.now c.in_ok-len.rest.now c.in_ok-len.len c.in_ok-len.ensures.number c.if-rest-len.true
