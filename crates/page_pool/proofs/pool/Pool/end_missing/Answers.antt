use Rattle.std.proofs.Common.{◌≡◌, ◌∙◌, [], ap, arith}
use Rattle.std.specs.Prelude.{Some}
use Rattle.page_pool.proofs.Shared.{put_into, misses_page}
use Rattle.page_pool.proofs.pool.Pool.end_missing.Goals as goal

pub fetch_add-requires : goal.fetch_add-requires
fetch_add-requires c =
    let y = c.args.free in
    let v = c.args.seat.now.me.0 in
    let sized = c.args.self.now.sized in
    let now : c.exchange.new.seat.me ≡ put_into v (Some y) [] = c.exchange.ensures.3 ∙ ap (put_into v (Some y)) c.requires.turn.1 in (
      c.exchange.ensures.0 ∙ c.requires.table,
      rw sized.0 (omega arith),
      rw (sized.1, now) (misses_page c.args.self.now.table.shared.key c.exchange.new.seat.id v y c.requires.turn.0 c.requires.room c.requires.none.0 c.requires.none.1),
    )
