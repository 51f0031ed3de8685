use Rattle.std.proofs.Common.{◌≤◌, ℕ, List, length, ap, sym, subst, ◌∙◌, arith}
use Rattle.kam_store.specs.Store.{AreSerials, RisesTo}
use Rattle.kam_store.specs.Plain.{PlainRegions, plain_state}
use Rattle.kam_store.specs.PlainKept.{lists}
use Rattle.kam_store.proofs.Live.{length-live_of, serials_of-live_of}
use Rattle.kam_store.proofs.PlainLive.{length-lists}
use Rattle.kam_store.proofs.plain_store.PlainStoreRegionStore.height.Goals as goal

pub returns-clause-height : goal.returns-clause-height
returns-clause-height c =
    let i = c.self.inside in
    let wss = lists i.regions.items in
    let paired : length i.serials.live ≤ length wss = omega (arith, length-lists i.regions.items, c.self.invariant.paired) in
    c.len.ensures.len ∙ sym (length-live_of i.serials.live wss paired) ∙ ap (λ (s : PlainRegions). length s.live) c.self.view_is

pub returns-clause-serials : goal.returns-clause-serials
returns-clause-serials c =
    let i = c.self.inside in
    let wss = lists i.regions.items in
    let paired : length i.serials.live ≤ length wss = omega (arith, length-lists i.regions.items, c.self.invariant.paired) in
    subst (λ (s : PlainRegions). AreSerials (plain_state s)) c.self.view_is
    (subst (λ (ns : List ℕ). RisesTo i.serials.made 0 ns) (sym (serials_of-live_of i.serials.live wss paired)) c.len.ensures.rises)
