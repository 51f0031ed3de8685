use Rattle.std.proofs.Common.{◌≡◌, length, ap, sym, subst, ◌∙◌}
use Rattle.kam_store.specs.Store.{pages_of, load_of}
use Rattle.kam_store.specs.Paged.{Paged, paged_state}
use Rattle.kam_store.proofs.Paged.{pages_of-paged, out_is_load}
use Rattle.kam_store.proofs.page_store.PageStore.held.Goals as goal

pub returns-clause-held : goal.returns-clause-held
returns-clause-held g c =
    let i = c.self.inside in
    sym (pages_of-paged i.serials i.regions.items i.held (g.P.Pages.holding i.pages) c.self.invariant) ∙ ap (λ (s : Paged g.row.P.Denot). pages_of s.live) c.self.view_is

pub returns-clause-load : goal.returns-clause-load
returns-clause-load g c =
    let i = c.self.inside in
    subst (λ (s : Paged g.row.P.Denot). length (g.P.Pages.holding s.pages).out ≡ load_of (paged_state (g.P.Pages.holding s.pages) s.made s.live)) c.self.view_is
    (out_is_load i.serials i.regions.items i.held (g.P.Pages.holding i.pages) c.self.invariant)
