use Rattle.std.proofs.Common.{◌+◌, ◌<◌, ◌^◌, List, ℕ, subst, sym, ap, arith}
use Rattle.kam_store.specs.Serials.{SerialList}
use Rattle.kam_store.specs.Store.{RisesTo}
use Rattle.kam_store.proofs.Rising.{rises_push, rises_length}
use Rattle.kam_store.proofs.serials.Serials.add.Goals as goal

pub overflow_cast-place : goal.overflow_cast-place
overflow_cast-place c =
    let i = c.self.inside in
    let few : i.made < 2 ^ 32 = c.self.invariant.1 in
    omega (arith, rises_length i.made 0 i.live.items c.self.invariant.0, c.len-place.ensures, i.live.ok.0)

pub invariant_of-self-2 : goal.invariant_of-self-2
invariant_of-self-2 c =
    let i = c.self.inside in
    (subst (λ (ns : List ℕ). RisesTo (i.made + 1) 0 ns) (sym c.in_ok-push.ensures.items) (rises_push i.made 0 i.live.items c.self.invariant.0), omega (arith, ap (λ (s : SerialList). s.made) c.self.view_is, c.requires), c.self.invariant.2)
