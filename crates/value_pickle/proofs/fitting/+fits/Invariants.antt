use Rattle.std.proofs.Common.{◌≡◌, take, true}
use Rattle.value_pickle.specs.Halting.{all_have}
use Rattle.value_pickle.proofs.fitting.+fits.Given as goal

abbrev pub invariant-loop-x : goal.invariant-loop-x
invariant-loop-x l = all_have l.a (take l.x-index l.x-items) ≡ true
