use Rattle.std.proofs.Common.{arith, subst}
use Rattle.hm_scheme.specs.Bindings.{IsIndexed}
use Rattle.hm_scheme.proofs.Scoping.{indexed-room, indexed-pop}
use Rattle.hm_scheme.proofs.scope.Scope.leave.Goals as goal

pub index_mut-requires : goal.index_mut-requires
index_mut-requires c =
    let x = subst (λ bs. IsIndexed bs c.self.inside.innermost.items) c.in-Some.ensures.items c.self.invariant in
    let h = indexed-room c.pop.new.self.items c.in-Some.bound c.self.inside.innermost.items x in
    let o = c.self.inside.innermost.ok.0 in omega (arith, h, o)

pub invariant_of-self : goal.invariant_of-self
invariant_of-self c =
    let x = subst (λ bs. IsIndexed bs c.self.inside.innermost.items) c.in-Some.ensures.items c.self.invariant in
    indexed-pop c.pop.new.self.items c.in-Some.bound c.self.inside.innermost.items x
