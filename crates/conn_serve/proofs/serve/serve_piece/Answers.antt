use Rattle.std.proofs.lemmas.Result.{err_from_is_err_and}
use Rattle.conn_serve.proofs.Asking.{err_ends}
use Rattle.conn_serve.proofs.Pieces.{piece_lost, piece_ended, read_failed, input_ended}
use Rattle.conn_serve.proofs.serve.serve_piece.Goals as goal

pub returns-in_default-clause-err : goal.returns-in_default-clause-err
returns-in_default-clause-err g c =
    piece_lost _ _ _ _ _ _ _ _ c.in-Ok.ensures.within c.read_link.ensures.room c.in-Ok.ensures.ok c.read_link.ensures.written

pub returns-in_err-answer_held-in-Ok-clause-err : goal.returns-in_err-answer_held-in-Ok-clause-err
returns-in_err-answer_held-in-Ok-clause-err g c =
    let read = c.read_link.ensures in
    let laws = g.met.L.Conn.write_keeps c.answer_held.new.link c.read_link.new.link c.answer_held.ensures.keeps in
    let ended = c.in_err-answer_held-in-Ok.ensures in
    err_ends _ _ _ (err_from_is_err_and c.from_residual.result c.from_residual.ensures.1) (piece_ended _ _ _ _ _ _ _ _ _ _ c.feed.new.self c.args.reader.now _ c.in-Ok.ensures.within read.room c.in-Ok.ensures.ok read.written read.count read.writes c.in-Ok-feed.ensures.ok laws.0 laws.1 ended.err ended.cause)

pub returns-in-Err-clause-err : goal.returns-in-Err-clause-err
returns-in-Err-clause-err g c =
    read_failed _ _ _ _ _ _ c.requires.front c.in-Err.ensures.err c.read_link.ensures.written c.in-Err.ensures.failed

pub returns-in-Ok-eq0-clause-err : goal.returns-in-Ok-eq0-clause-err
returns-in-Ok-eq0-clause-err g c =
    input_ended _ _ _ _ _ _ _ _ _ c.requires.front c.in-Ok-eq0.ensures.ok c.in-Ok-eq0.field-0-test c.read_link.ensures.written (c.in-Ok-eq0.ensures.end c.in-Ok-eq0.field-0-test c.requires.room) c.end_of_input.ensures
