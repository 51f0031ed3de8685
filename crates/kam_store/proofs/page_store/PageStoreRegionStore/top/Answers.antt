use Rattle.std.proofs.Common.{◌≤◌, ◌-◌, ℕ, List, length, slice_get, ap, sym, ◌∙◌, arith}
use Rattle.kam_store.specs.Store.{serials_of}
use Rattle.kam_store.specs.Plain.{live_of}
use Rattle.kam_store.specs.Paged.{Paged}
use Rattle.kam_store.specs.PagedKept.{contents}
use Rattle.kam_store.proofs.Live.{length-live_of, serials_of-live_of}
use Rattle.kam_store.proofs.Paged.{length-contents}
use Rattle.kam_store.proofs.page_store.PageStoreRegionStore.top.Goals as goal

pub returns : goal.returns
returns g c =
    let i = c.self.inside in
    let wss = contents i.regions.items in
    let paired : length i.serials.live ≤ length wss = omega (arith, length-contents i.regions.items, c.self.invariant.paired) in
    c.top.ensures
    ∙ ap (λ (ns : List ℕ). slice_get ns (length i.serials.live - 1)) (sym (serials_of-live_of i.serials.live wss paired))
    ∙ ap (λ (n : ℕ). slice_get (serials_of (live_of i.serials.live wss)) (n - 1)) (sym (length-live_of i.serials.live wss paired))
    ∙ ap (λ (s : Paged g.row.P.Denot). slice_get (serials_of s.live) (length s.live - 1)) c.self.view_is
