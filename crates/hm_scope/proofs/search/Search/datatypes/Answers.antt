use Rattle.std.proofs.Common.{arith, subst}
use Rattle.typing_rules.specs.Scope.{DatatypeBinding}
use Rattle.hm_scope.specs.Least.{Sees, InArguments}
use Rattle.hm_scope.proofs.Leasts.{sees-next, sees-whole}
use Rattle.hm_scope.proofs.search.Search.datatypes.Goals as goal

pub loop-bind-preserved : goal.loop-bind-preserved
loop-bind-preserved c = sees-next (λ n (bind : DatatypeBinding). InArguments n bind.0 bind.2) c.args.binds.now c.loop-bind.bind-index _ c.bind-item.result c.args.self.now c.loop-bind.self c.constructors.new.self c.bind-item.is c.loop-bind-test.true c.loop-bind.invariant
    (subst (λ cs. Sees (InArguments c.loop-bind.self.names c.bind-item.result.0 cs) c.loop-bind.self c.constructors.new.self) c.as_slice-in-loop-bind.ensures
    (subst (λ vs. Sees (InArguments c.loop-bind.self.names vs c.as_slice-in-loop-bind.result.now) c.loop-bind.self c.constructors.new.self) c.as_slice.ensures c.constructors.ensures))

pub returns : goal.returns
returns c = sees-whole (λ (bind : DatatypeBinding). InArguments c.args.self.now.names bind.0 bind.2) c.args.binds.now c.loop-bind.bind-index c.args.self.now c.loop-bind.self (omega (arith, c.loop-bind-test.false)) c.loop-bind.invariant
