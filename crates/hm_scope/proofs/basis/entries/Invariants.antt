use Rattle.std.proofs.Common.{◌≡◌, map, take}
use Rattle.hm_scope.proofs.basis.entries.Given as goal

abbrev pub invariant-loop-row : goal.invariant-loop-row
invariant-loop-row l = l.values.items ≡ map (λ row. (row.0.now, row.1)) (take l.row-index l.rows)
