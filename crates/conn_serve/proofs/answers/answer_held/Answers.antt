use Rattle.std.proofs.Common.{◌≤◌, [], refl, ◌∙◌, arith}
use Rattle.std.proofs.lemmas.Result.{err_from_is_err_and}
use Rattle.conn_serve.proofs.Asking.{bad_status, bad_ends, request_smaller, request_ends, request_goes, err_ends}
use Rattle.conn_serve.proofs.Going.{goes_nothing}
use Rattle.conn_serve.proofs.answers.answer_held.Goals as goal

pub loop-status-init : goal.loop-status-init
loop-status-init g c = record {
  closed = c.requires;
  count = omega arith;
  keeps = refl;
  goes = ([], [], goes_nothing _ _ _ _ _ refl (omega arith) (omega arith));
}

pub refuse-requires : goal.refuse-requires
refuse-requires g c = bad_status _ _ _ _ c.in-Ok-Bad.field-0-is c.in-Ok-Bad.ensures.answer

pub returns-in-Ok-Bad-clause-err : goal.returns-in-Ok-Bad-clause-err
returns-in-Ok-Bad-clause-err g c =
    bad_ends _ _ _ _ _ _ _ _ _ _ _ _ c.loop-status.invariant.goes c.in-Ok-Bad.field-0-is c.in-Ok-Bad.ensures.answer c.refuse.ensures.ends

pub returns-in_err-answer_one-in-Ok-Request-clause-err :
    goal.returns-in_err-answer_one-in-Ok-Request-clause-err
returns-in_err-answer_one-in-Ok-Request-clause-err g c =
    err_ends _ _ _ (err_from_is_err_and c.from_residual.result c.from_residual.ensures.1) (request_ends _ _ _ _ _ _ _ _ _ _ _ _ _ c.loop-status.invariant.goes c.in-Ok-Request.field-0-is c.in-Ok-Request.ensures.answer c.in_err-answer_one-in-Ok-Request.ensures.err)

pub loop-status-smaller : goal.loop-status-smaller
loop-status-smaller g c = request_smaller _ _ _ _ c.in-Ok-Request.field-0-is c.in-Ok-Request.ensures.answer

pub loop-status-preserved : goal.loop-status-preserved
loop-status-preserved g c =
    let laws = g.met.L.Conn.write_keeps c.answer_one.new.link c.loop-status.link c.answer_one.ensures.keeps in
    let more = c.answer_one.ensures.count in
    let count = c.loop-status.invariant.count in
    let reads : g.L.Source.read_count c.loop-status.link ≤ g.L.Source.read_count c.answer_one.new.link = let e = laws.2 in omega (arith, e) in
    let goes = request_goes _ _ _ _ _ _ _ _ _ _ _ _ c.loop-status.invariant.goes c.in-Ok-Request.field-0-is c.in-Ok-Request.ensures.answer c.in_ok-answer_one-in-Ok-Request.ensures.open c.in_ok-answer_one-in-Ok-Request.ensures.ok reads more in
    record {
      closed = goes.0;
      count = omega (arith, more, count);
      keeps = c.answer_one.ensures.keeps ∙ c.loop-status.invariant.keeps;
      goes = goes.1;
    }
