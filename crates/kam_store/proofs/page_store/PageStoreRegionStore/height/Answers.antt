use Rattle.std.proofs.Common.{◌≤◌, List, ℕ, length, ap, sym, subst, ◌∙◌, arith}
use Rattle.kam_store.specs.Store.{AreSerials, RisesTo}
use Rattle.kam_store.specs.Paged.{Paged, paged_state}
use Rattle.kam_store.specs.PagedKept.{contents}
use Rattle.kam_store.proofs.Live.{length-live_of, serials_of-live_of}
use Rattle.kam_store.proofs.Paged.{length-contents}
use Rattle.kam_store.proofs.page_store.PageStoreRegionStore.height.Goals as goal

pub returns-clause-height : goal.returns-clause-height
returns-clause-height g c =
    let i = c.self.inside in
    let wss = contents i.regions.items in
    let paired : length i.serials.live ≤ length wss = omega (arith, length-contents i.regions.items, c.self.invariant.paired) in
    c.len.ensures.len ∙ sym (length-live_of i.serials.live wss paired) ∙ ap (λ (s : Paged g.row.P.Denot). length s.live) c.self.view_is

pub returns-clause-serials : goal.returns-clause-serials
returns-clause-serials g c =
    let i = c.self.inside in
    let wss = contents i.regions.items in
    let paired : length i.serials.live ≤ length wss = omega (arith, length-contents i.regions.items, c.self.invariant.paired) in
    subst (λ (s : Paged g.row.P.Denot). AreSerials (paged_state (g.P.Pages.holding s.pages) s.made s.live)) c.self.view_is
    (subst (λ (ns : List ℕ). RisesTo i.serials.made 0 ns) (sym (serials_of-live_of i.serials.live wss paired)) c.len.ensures.rises)
