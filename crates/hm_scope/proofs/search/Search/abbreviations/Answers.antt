use Rattle.std.proofs.Common.{arith, subst}
use Rattle.typing_rules.specs.Scope.{TypeBinding, UnboundInType}
use Rattle.hm_scope.specs.Least.{Sees}
use Rattle.hm_scope.proofs.Leasts.{sees-next, sees-whole}
use Rattle.hm_scope.proofs.search.Search.abbreviations.Goals as goal

pub loop-bind-preserved : goal.loop-bind-preserved
loop-bind-preserved c = sees-next (λ n (bind : TypeBinding). UnboundInType n bind.0 bind.2) c.args.binds.now c.loop-bind.bind-index _ c.bind-item.result c.args.self.now c.loop-bind.self c.ty.new.self c.bind-item.is c.loop-bind-test.true c.loop-bind.invariant
    (subst (λ vs. Sees (UnboundInType c.loop-bind.self.names vs c.bind-item.result.2) c.loop-bind.self c.ty.new.self) c.as_slice.ensures c.ty.ensures)

pub returns : goal.returns
returns c = sees-whole (λ (bind : TypeBinding). UnboundInType c.args.self.now.names bind.0 bind.2) c.args.binds.now c.loop-bind.bind-index c.args.self.now c.loop-bind.self (omega (arith, c.loop-bind-test.false)) c.loop-bind.invariant
