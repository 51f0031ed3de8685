use Rattle.std.proofs.Common.{arith, subst}
use Rattle.hm_types.specs.Classes.{stands_on, at}
use Rattle.hm_types.specs.Joining.{Fine}
use Rattle.hm_types.proofs.Steps.{stands-self, not-a-link}
use Rattle.hm_types.proofs.join.root_of.Goals as goal

pub loop-found-preserved : goal.loop-found-preserved
loop-found-preserved c =
    let l = subst (Fine c.args.parts.now c.loop-found.found) c.in-Link.is (c.requires.fine c.loop-found.found) in
    let m = c.loop-found.invariant.0 in
    (omega (arith, l, m), λ r t. c.loop-found.invariant.1 r (stands_on c.in-Link.is t))

pub returns : goal.returns
returns c =
    let n = not-a-link (at c.args.nodes.now c.loop-found.found) c.in_default.not-Link in
    record { within = c.loop-found.invariant.0; stands = c.loop-found.invariant.1 c.loop-found.found (stands-self c.args.nodes.now c.loop-found.found n); last = n }
