use Rattle.std.proofs.Common.{take}
use Rattle.typing_rules.specs.Scope.{DatatypeBinding}
use Rattle.hm_scope.specs.Least.{Sees, Some_of, InArguments}
use Rattle.hm_scope.proofs.search.Search.datatypes.Given as goal

abbrev pub invariant-loop-bind : goal.invariant-loop-bind
invariant-loop-bind l = Sees (Some_of (λ (bind : DatatypeBinding). InArguments l.fn.self.names bind.0 bind.2) (take l.bind-index l.binds)) l.fn.self l.self
