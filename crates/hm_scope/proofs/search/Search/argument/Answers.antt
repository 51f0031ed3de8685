use Rattle.hm_scope.proofs.Declarations.{sees-argument}
use Rattle.hm_scope.proofs.search.Search.argument.Goals as goal

pub returns-in-Some : goal.returns-in-Some
returns-in-Some c = sees-argument c.args.variables.now c.args.constructor.now c.in-Some.t c.args.self.now c.ty.new.self c.in-Some.is c.ty.ensures
