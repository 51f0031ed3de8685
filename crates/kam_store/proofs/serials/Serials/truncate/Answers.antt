use Rattle.std.proofs.Common.{List, ℕ, subst, sym}
use Rattle.kam_store.specs.Store.{RisesTo}
use Rattle.kam_store.proofs.Rising.{rises_take}
use Rattle.kam_store.proofs.serials.Serials.truncate.Goals as goal

pub invariant_of-self : goal.invariant_of-self
invariant_of-self c =
    let i = c.self.inside in
    (subst (λ (ns : List ℕ). RisesTo i.made 0 ns) (sym c.truncate.ensures.items) (rises_take i.made 0 i.live.items c.args.height c.self.invariant.0), c.self.invariant.1, c.self.invariant.2)
