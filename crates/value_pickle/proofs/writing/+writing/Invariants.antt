use Rattle.std.proofs.Common.{◌≡◌, ◌++◌, take}
use Rattle.value_pickle.specs.Halting.{item_bytes}
use Rattle.value_pickle.proofs.writing.+writing.Given as goal

abbrev pub invariant-loop-x : goal.invariant-loop-x
invariant-loop-x l = l.out.items ≡ l.fn.out.items ++ item_bytes l.a (take l.x-index l.x-items)
