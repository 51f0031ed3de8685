use Rattle.std.proofs.Common.{Err, refl}
use Rattle.script_loader.proofs.Untyped.{untyped_as}
use Rattle.script_loader.proofs.typing.type_script.Goals as goal

pub returns-in-Err-clause-refused : goal.returns-in-Err-clause-refused
returns-in-Err-clause-refused c = untyped_as _ c.args.script.now (Err c.in-Err.refusal) c.in-Err.refusal _ refl c.in-Err.ensures.unbound c.in-Err.ensures.ill c.in-Err.ensures.ill_bound c.type_refusal.ensures
