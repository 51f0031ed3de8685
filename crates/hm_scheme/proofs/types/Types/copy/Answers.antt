use Rattle.hm_scheme.proofs.Naming.{tell-same}
use Rattle.hm_scheme.proofs.types.Types.copy.Goals as goal

pub invariant_of-self : goal.invariant_of-self
invariant_of-self c = record { told = tell-same _ _ _ c.copy.ensures.grows.names c.args.self.now.told }
