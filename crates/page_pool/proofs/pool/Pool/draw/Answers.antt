use Rattle.std.proofs.Common.{arith}
use Rattle.page_pool.proofs.Shared.{draws}
use Rattle.page_pool.proofs.pool.Pool.draw.Goals as goal

pub fetch_add-requires : goal.fetch_add-requires
fetch_add-requires c =
    let seat = c.args.seat.now in
    let sized = c.args.self.now.sized in (
      c.requires.table,
      rw sized.0 (omega arith),
      rw sized.1 (draws c.args.self.now.table.shared.key seat.id seat.me c.requires.rests),
    )
