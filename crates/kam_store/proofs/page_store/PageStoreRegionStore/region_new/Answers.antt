use Rattle.std.proofs.Common.{◌<◌, ◌+◌, List, [], ◌∷◌, ◌++◌, length, ap, sym, subst, ◌∙◌, arith}
use Rattle.kam_store.specs.Serials.{SerialList}
use Rattle.kam_store.specs.Store.{LiveRegion, with_region}
use Rattle.kam_store.specs.Plain.{live_of}
use Rattle.kam_store.specs.Paged.{Paged, paged_state}
use Rattle.kam_store.specs.PagedKept.{contents, IsPaged}
use Rattle.kam_store.proofs.Paged.{paged_keep, paged_add, live-kept, live-added_some}
use Rattle.kam_store.proofs.Store.{made_state}
use Rattle.kam_store.proofs.page_store.PageStoreRegionStore.region_new.Goals as goal

pub invariant_of-self : goal.invariant_of-self
invariant_of-self g c =
    let i = c.self.inside in
    let h = g.P.Pages.holding i.pages in
    let rs = i.regions.items in
    let qs = c.make_room.new.regions.items in
    paged_keep i.serials rs qs i.held h c.self.invariant c.in_default.ensures.kept

pub returns-in_default-clause-err : goal.returns-in_default-clause-err
returns-in_default-clause-err g c =
    let i = c.self.inside in
    let h = g.P.Pages.holding i.pages in
    let rs = i.regions.items in
    let qs = c.make_room.new.regions.items in
    ap (paged_state h i.serials.made) (live-kept i.serials.live rs qs c.in_default.ensures.kept c.self.invariant.paired)
    ∙ ap (λ (s : Paged g.row.P.Denot). paged_state (g.P.Pages.holding s.pages) s.made s.live) c.self.view_is

pub invariant_of-self-in_default-add : goal.invariant_of-self-in_default-add
invariant_of-self-in_default-add g c =
    let i = c.self.inside in
    let h = g.P.Pages.holding i.pages in
    let rs = i.regions.items in
    let qs = c.make_room.new.regions.items in
    subst (λ (s : SerialList). IsPaged s qs i.held h) (sym c.in_default-add.ensures.err) (paged_keep i.serials rs qs i.held h c.self.invariant c.in-Ok.ensures.kept)

pub returns-in_default-add-clause-err : goal.returns-in_default-add-clause-err
returns-in_default-add-clause-err g c =
    let i = c.self.inside in
    let h = g.P.Pages.holding i.pages in
    let rs = i.regions.items in
    let qs = c.make_room.new.regions.items in
    ap (λ (s : SerialList). paged_state h s.made (live_of s.live (contents qs))) c.in_default-add.ensures.err
    ∙ ap (paged_state h i.serials.made) (live-kept i.serials.live rs qs c.in-Ok.ensures.kept c.self.invariant.paired)
    ∙ ap (λ (s : Paged g.row.P.Denot). paged_state (g.P.Pages.holding s.pages) s.made s.live) c.self.view_is

pub invariant_of-self-2 : goal.invariant_of-self-2
invariant_of-self-2 g c =
    let i = c.self.inside in
    let h = g.P.Pages.holding i.pages in
    let rs = i.regions.items in
    let qs = c.make_room.new.regions.items in
    let room : length i.serials.live < length qs = omega (arith, c.len-live.ensures.len, c.in-Ok.ensures.ok, c.make_room.new.regions.ok.0) in
    subst (λ (s : SerialList). IsPaged s qs i.held h) (sym c.in-Ok-add.ensures.ok)
    (paged_add i.serials qs i.held h (i.serials.made + 1) (paged_keep i.serials rs qs i.held h c.self.invariant c.in-Ok.ensures.kept) room)

pub returns-clause-made : goal.returns-clause-made
returns-clause-made g c =
    let i = c.self.inside in
    let h = g.P.Pages.holding i.pages in
    let rs = i.regions.items in
    let qs = c.make_room.new.regions.items in
    let m = i.serials.made + 1 in
    let room : length i.serials.live < length qs = omega (arith, c.len-live.ensures.len, c.in-Ok.ensures.ok, c.make_room.new.regions.ok.0) in
    let kept = paged_keep i.serials rs qs i.held h c.self.invariant c.in-Ok.ensures.kept in
    let live = live_of i.serials.live (contents rs) in
    let added = live-added_some i.serials qs i.held h m kept room ∙ ap (λ (l : List LiveRegion). l ++ record { serial = m; words = [] } ∷ []) (live-kept i.serials.live rs qs c.in-Ok.ensures.kept c.self.invariant.paired) in
    ap (λ (s : SerialList). paged_state h s.made (live_of s.live (contents qs))) c.in-Ok-add.ensures.ok
    ∙ ap (paged_state h m) added
    ∙ made_state h i.serials.made live
    ∙ ap (λ (s : Paged g.row.P.Denot). with_region (paged_state (g.P.Pages.holding s.pages) s.made s.live)) c.self.view_is
