use Rattle.std.proofs.Common.{◌≡◌, length}
use Rattle.smlserver_top.specs.Told.{number_of, number_behind}
use Rattle.smlserver_top.proofs.told.number.Given as goal

abbrev pub invariant-loop-rest : goal.invariant-loop-rest
invariant-loop-rest l = number_of l.digits ≡ number_behind l.value l.rest

abbrev pub decreases-loop-rest : goal.decreases-loop-rest
decreases-loop-rest l = length l.rest
