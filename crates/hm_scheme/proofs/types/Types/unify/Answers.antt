use Rattle.hm_scheme.proofs.Naming.{tell-same}
use Rattle.hm_scheme.proofs.types.Types.unify.Goals as goal

pub invariant_of-self : goal.invariant_of-self
invariant_of-self c = record { told = tell-same _ _ _ c.unify.ensures.same.names c.args.self.now.told }

pub returns-in-Err-Clash-clause-none : goal.returns-in-Err-Clash-clause-none
returns-in-Err-Clash-clause-none c _ _ _ s solves same =
    let i = c.in-Err-Clash.is in
    let f = c.in-Err-Clash.field-0-is in
    (c.unify.ensures.none (cc)).0 s solves same
