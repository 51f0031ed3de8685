use Rattle.std.proofs.Common.{take}
use Rattle.typing_rules.specs.Scope.{UnboundInPat}
use Rattle.hm_scope.specs.Least.{Sees, Some_of}
use Rattle.hm_scope.proofs.search.Search.+patterns.Given as goal

abbrev pub invariant-pats-loop-p : goal.invariant-pats-loop-p
invariant-pats-loop-p l = Sees (Some_of (UnboundInPat l.fn.self.names) (take l.p-index l.ps)) l.fn.self l.self
