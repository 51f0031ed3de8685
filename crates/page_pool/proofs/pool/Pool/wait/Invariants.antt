use Rattle.std.proofs.Common.{◌≡◌}
use Rattle.page_pool.proofs.pool.Pool.wait.Given as goal

-- the seat is as it was, and looks may go on
abbrev pub invariant-loop : goal.invariant-loop
invariant-loop g l = record {
  going : (goal.iterator-loop g).can_next l.iterator' × (goal.iterator-loop g).is_finite l.iterator';
  table : l.seat.table_id ≡ l.initial.seat.table_id;
  me : l.seat.me ≡ l.initial.seat.me;
}
