use Rattle.std.proofs.Common.{ℕ, List, Vec, take, ap, ◌∙◌}
use Rattle.std.specs.declared.alloc.Global.{Global}
use Rattle.kam_store.specs.Serials.{SerialList}
use Rattle.kam_store.specs.Store.{StoreState, LiveRegion, with_live}
use Rattle.kam_store.specs.Plain.{PlainRegions, live_of, plain_state}
use Rattle.kam_store.specs.PlainKept.{lists}
use Rattle.kam_store.proofs.PlainLive.{plain-closed}
use Rattle.kam_store.proofs.plain_store.PlainStoreRegionStore.close_to.Goals as goal

pub returns : goal.returns
returns c =
    let i = c.self.inside in
    let k = c.args.height in
    let state : SerialList → List (Vec ℕ Global) → StoreState ℕ = λ s us. plain_state (record { made = s.made; live = live_of s.live (lists us) }) in
    ap (λ (s : SerialList). state s c.truncate-2.new.self.items) c.truncate.ensures
    ∙ ap (state (record i.serials { live = take k i.serials.live })) c.truncate-2.ensures.items
    ∙ ap (λ (rs : List LiveRegion). plain_state (record { made = i.serials.made; live = rs })) (plain-closed i.serials.live i.regions.items k)
    ∙ ap (λ (s : PlainRegions). with_live (plain_state s) (take k s.live)) c.self.view_is
