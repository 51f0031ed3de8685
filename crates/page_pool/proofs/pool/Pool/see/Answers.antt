use Rattle.std.proofs.Common.{arith}
use Rattle.page_pool.proofs.Shared.{sees}
use Rattle.page_pool.proofs.pool.Pool.see.Goals as goal

pub load-requires : goal.load-requires
load-requires c =
    let seat = c.args.seat.now in
    let sized = c.args.self.now.sized in (
      c.requires.table,
      rw sized.0 (omega arith),
      rw sized.1 (sees c.args.self.now.table.shared.key seat.id seat.me c.requires.waits.0 c.requires.waits.1),
    )
