use Rattle.std.proofs.Common.{take}
use Rattle.typing_rules.specs.Scope.{UnboundInType}
use Rattle.hm_scope.specs.Least.{Sees, Some_of}
use Rattle.hm_scope.proofs.search.Search.+written_types.Given as goal

abbrev pub invariant-tys-loop-t : goal.invariant-tys-loop-t
invariant-tys-loop-t l = Sees (Some_of (UnboundInType l.fn.self.names l.variables) (take l.t-index l.ts)) l.fn.self l.self
