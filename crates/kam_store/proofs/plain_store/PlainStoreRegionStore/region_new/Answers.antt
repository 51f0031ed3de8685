use Rattle.std.proofs.Common.{◌≡◌, ◌+◌, ℕ, List, [], ◌∷◌, ◌++◌, Vec, ap, sym, ◌∙◌}
use Rattle.std.specs.declared.alloc.Global.{Global}
use Rattle.kam_store.specs.Serials.{SerialList}
use Rattle.kam_store.specs.Store.{StoreState, LiveRegion, with_region}
use Rattle.kam_store.specs.Plain.{PlainRegions, live_of, plain_state}
use Rattle.kam_store.specs.PlainKept.{lists}
use Rattle.kam_store.proofs.PlainLive.{plain-added}
use Rattle.kam_store.proofs.plain_store.PlainStoreRegionStore.region_new.Goals as goal

pub returns-clause-made : goal.returns-clause-made
returns-clause-made c =
    let i = c.self.inside in
    let vs = i.regions.items in
    let all : c.push_reserved.new.self.items ≡ vs ++ c.new.result ∷ [] = c.push_reserved.ensures.items ∙ ap (λ (us : List (Vec ℕ Global)). us ++ c.new.result ∷ []) c.reserve.ensures.items in
    let state : SerialList → List (Vec ℕ Global) → StoreState ℕ = λ s us. plain_state (record { made = s.made; live = live_of s.live (lists us) }) in
    ap (λ (s : SerialList). state s c.push_reserved.new.self.items) c.in-Ok.ensures.ok
    ∙ ap (state (record { made = i.serials.made + 1; live = i.serials.live ++ (i.serials.made + 1) ∷ [] })) all
    ∙ ap (λ (rs : List LiveRegion). plain_state (record { made = i.serials.made + 1; live = rs })) (plain-added i.serials.live vs (i.serials.made + 1) c.new.result (sym c.self.invariant.paired) c.new.ensures.items)
    ∙ ap (λ (s : PlainRegions). with_region (plain_state s)) c.self.view_is
