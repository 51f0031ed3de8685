use Rattle.std.proofs.Common.{take}
use Rattle.typing_rules.specs.Scope.{TypeBinding, UnboundInType}
use Rattle.hm_scope.specs.Least.{Sees, Some_of}
use Rattle.hm_scope.proofs.search.Search.abbreviations.Given as goal

abbrev pub invariant-loop-bind : goal.invariant-loop-bind
invariant-loop-bind l = Sees (Some_of (λ (bind : TypeBinding). UnboundInType l.fn.self.names bind.0 bind.2) (take l.bind-index l.binds)) l.fn.self l.self
