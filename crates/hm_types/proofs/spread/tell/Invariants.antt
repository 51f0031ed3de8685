use Rattle.std.proofs.Common.{◌<◌, ℕ, get_or}
use Rattle.hm_types.specs.Classes.{asked_at}
use Rattle.hm_types.specs.Asking.{Told, Below}
use Rattle.hm_types.proofs.Asking.{IsTyped}
use Rattle.hm_types.proofs.spread.tell.Given as goal

abbrev pub invariant-loop-i : goal.invariant-loop-i
invariant-loop-i l = Told (IsTyped l.names l.parts l.nodes) l.initial.asked l.asked l.initial.work.items l.work.items × ((j : ℕ) → j < l.i → Below l.more (asked_at l.asked (get_or l.list j 0)))
