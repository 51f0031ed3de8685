use Rattle.std.proofs.Common.{List, [], ◌∷◌, sym, subst, arith}
use Rattle.atomic_table.specs.Table.{opening}
use Rattle.turns.specs.Turns.{all_parts}
use Rattle.page_pool.specs.Views.{blank, Slot}
use Rattle.page_pool.specs.Sharing.{AreShared}
use Rattle.page_pool.proofs.Shared.{starts}
use Rattle.page_pool.proofs.pool.Pool.make.Goals as goal

pub new-requires : goal.new-requires
new-requires c =
    let made = c.args.pages in
    subst (λ (slots : List Slot). AreShared made (opening (0 ∷ 0 ∷ []) slots (blank made all_parts))) (sym c.in_ok-slots.ensures.items)
    (starts made c.in_ok-free.free (omega (arith, c.ranges.pages.fits)) c.in_ok-free.ensures.numbers c.in_ok-free.ensures.room)
