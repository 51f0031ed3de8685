use Rattle.std.proofs.Common.{◌≡◌, ◌-◌, ℕ, List, Vec, length, take, ap, ◌∙◌, arith}
use Rattle.std.specs.declared.alloc.Global.{Global}
use Rattle.kam_store.specs.Serials.{SerialList}
use Rattle.kam_store.specs.Store.{StoreState, LiveRegion, with_live}
use Rattle.kam_store.specs.Plain.{PlainRegions, live_of, plain_state}
use Rattle.kam_store.specs.PlainKept.{lists}
use Rattle.kam_store.proofs.Live.{length-live_of}
use Rattle.kam_store.proofs.PlainLive.{length-lists, plain-closed}
use Rattle.kam_store.proofs.plain_store.PlainStoreRegionStore.close_top.Goals as goal

pub returns : goal.returns
returns c =
    let i = c.self.inside in
    let k = c.len-top.result - 1 in
    let state : SerialList → List (Vec ℕ Global) → StoreState ℕ = λ s us. plain_state (record { made = s.made; live = live_of s.live (lists us) }) in
    let live = live_of i.serials.live (lists i.regions.items) in
    let long : length live ≡ length i.serials.live = length-live_of i.serials.live (lists i.regions.items) (omega (arith, length-lists i.regions.items, c.self.invariant.paired)) in
    ap (λ (s : SerialList). state s c.truncate-2.new.self.items) c.truncate.ensures
    ∙ ap (state (record i.serials { live = take k i.serials.live })) c.truncate-2.ensures.items
    ∙ ap (λ (rs : List LiveRegion). plain_state (record { made = i.serials.made; live = rs })) (plain-closed i.serials.live i.regions.items k ∙ ap (λ n. take n live) (omega (arith, c.len-top.ensures.len)))
    ∙ ap (λ (s : PlainRegions). with_live (plain_state s) (take (length s.live - 1) s.live)) c.self.view_is
