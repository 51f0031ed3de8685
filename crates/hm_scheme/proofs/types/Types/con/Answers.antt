use Rattle.hm_scheme.proofs.Naming.{same-names, tell-same}
use Rattle.hm_scheme.proofs.types.Types.con.Goals as goal

pub invariant_of-self : goal.invariant_of-self
invariant_of-self c =
    record { told = tell-same _ _ _ (same-names c.con.result c.args.self.now.table c.con.new.self _ c.con.ensures.class (λ x p. p.1.names) c.con.ensures.kept) c.args.self.now.told }
