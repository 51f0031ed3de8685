use Rattle.std.proofs.Common.{◌∙◌, refl, arith}
use Rattle.page_pool.proofs.Shared.{joins, weighs}
use Rattle.page_pool.proofs.pool.Pool.join.Goals as goal

pub join_seat-requires : goal.join_seat-requires
join_seat-requires c =
    let pass = c.args.pass.now in
    let other = c.args.other in
    let r = pass.rests in
    let q = other.rests in (
      c.requires.pool,
      c.requires.other,
      q.3,
      rw c.args.self.now.sized.0 (omega arith),
      joins c.args.self.now.table.shared.key pass.seat.id pass.seat.me.0 other.seat.id other.seat.me.0 (r.0, r.1, r.2, refl, r.4) (q.0, q.1, q.2, refl, q.4),
    )

pub load-requires : goal.load-requires
load-requires c =
    let seat = c.join_seat.new.seat in
    let sized = c.args.self.now.sized in (
      c.join_seat.ensures.0 ∙ c.requires.pool,
      rw sized.0 (omega arith),
      rw sized.1 (weighs c.args.self.now.table.shared.key seat.id seat.me),
    )
