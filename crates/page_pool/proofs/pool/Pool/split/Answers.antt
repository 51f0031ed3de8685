use Rattle.std.proofs.Common.{refl, arith}
use Rattle.page_pool.proofs.Shared.{splits}
use Rattle.page_pool.proofs.pool.Pool.split.Goals as goal

pub split_seat-seat-requires : goal.split_seat-seat-requires
split_seat-seat-requires c =
    let pass = c.args.pass.now in
    let r = pass.rests in (
      c.requires.pool,
      rw c.args.self.now.sized.0 (omega arith),
      splits c.args.self.now.table.shared.key pass.seat.id pass.seat.me.0 (r.0, r.1, r.2, refl, r.4) c.requires.parts,
    )
