use Rattle.hm_scheme.proofs.Naming.{same-names, tell-same}
use Rattle.hm_scheme.proofs.types.Types.var.Goals as goal

pub invariant_of-self : goal.invariant_of-self
invariant_of-self c =
    record { told = tell-same _ _ _ (same-names c.var.result c.args.self.now.table c.var.new.self _ c.var.ensures.class (λ x p. p.1.names) c.var.ensures.kept) c.args.self.now.told }
