use Rattle.std.proofs.Common.{arith}
use Rattle.hm_scope.specs.Least.{InArgument}
use Rattle.hm_scope.proofs.Leasts.{sees-next, sees-whole}
use Rattle.hm_scope.proofs.search.Search.constructors.Goals as goal

pub loop-constructor-preserved : goal.loop-constructor-preserved
loop-constructor-preserved c = sees-next (λ n. InArgument n c.args.variables.now) c.args.constructors.now c.loop-constructor.constructor-index _ c.constructor-item.result c.args.self.now c.loop-constructor.self c.argument.new.self
    c.constructor-item.is c.loop-constructor-test.true c.loop-constructor.invariant c.argument.ensures

pub returns : goal.returns
returns c = sees-whole (InArgument c.args.self.now.names c.args.variables.now) c.args.constructors.now c.loop-constructor.constructor-index c.args.self.now c.loop-constructor.self (omega (arith, c.loop-constructor-test.false)) c.loop-constructor.invariant
