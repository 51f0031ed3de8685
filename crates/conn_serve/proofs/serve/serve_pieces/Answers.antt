use Rattle.std.proofs.Common.{refl, ◌∙◌, arith}
use Rattle.conn_serve.proofs.Runs.{start_with, nothing_served, one_more_piece, last_piece, piece_fits, piece_stays}
use Rattle.conn_serve.proofs.serve.serve_pieces.Goals as goal

pub returns-in_default-clause-served : goal.returns-in_default-clause-served
returns-in_default-clause-served g c = nothing_served _ _ _

pub loop-read-init : goal.loop-read-init
loop-read-init g c =
    let start = start_with g.A.Answerer.answers c.args.answerer.now _ c.in-Ok.reader c.in-Ok.ensures in
    record {
      within = omega arith;
      closed = start.0;
      front = start.1;
      lasting = refl;
      extra = refl;
      room = refl;
      reads = omega arith;
      writes = omega arith;
      so_far = start.2;
    }

pub returns-in-Err-clause-served : goal.returns-in-Err-clause-served
returns-in-Err-clause-served g c =
    last_piece _ _ _ _ _ _ _ _ _ _ _ c.loop-read.invariant.so_far c.in-Err.ensures.err c.loop-read-test.true (piece_fits _ _ _ c.min-room.ensures c.loop-read-test.true c.loop-read.invariant.room)

pub loop-read-preserved : goal.loop-read-preserved
loop-read-preserved g c =
    let more = one_more_piece _ _ _ _ _ _ _ _ _ _ c.serve_piece.new.reader c.loop-read.invariant.so_far c.in-Ok-serve_piece.ensures.ok in
    let done = c.in-Ok-serve_piece.ensures in
    let before = c.loop-read.invariant in
    let fits = piece_fits _ _ _ c.min-room.ensures c.loop-read-test.true before.room in
    let within = done.within in
    let reads = done.reads in
    let reads' = before.reads in
    let writes = done.writes in
    let writes' = before.writes in
    record {
      within = omega (arith, fits, within);
      closed = more.0;
      front = more.1;
      lasting = done.lasting ∙ before.lasting;
      extra = done.extra ∙ before.extra;
      room = piece_stays _ _ _ c.serve_piece.auto.piece before.room;
      reads = omega (arith, reads, reads');
      writes = omega (arith, writes, writes');
      so_far = more.2;
    }
