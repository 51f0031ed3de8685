use Rattle.std.proofs.Common.{take}
use Rattle.hm_scope.specs.Least.{Sees, InArguments}
use Rattle.hm_scope.proofs.search.Search.constructors.Given as goal

abbrev pub invariant-loop-constructor : goal.invariant-loop-constructor
invariant-loop-constructor l = Sees (InArguments l.fn.self.names l.variables (take l.constructor-index l.constructors)) l.fn.self l.self
