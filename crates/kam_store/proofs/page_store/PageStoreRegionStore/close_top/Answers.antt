use Rattle.std.proofs.Common.{◌≡◌, ◌<◌, ◌≤◌, ◌+◌, ◌-◌, ℕ, List, length, take, set, ap, sym, subst, ◌∙◌, arith}
use Rattle.kam_store.specs.Serials.{SerialList}
use Rattle.kam_store.specs.Store.{with_live, pages_of}
use Rattle.kam_store.specs.Plain.{live_of}
use Rattle.kam_store.specs.Moves.{MovesPages}
use Rattle.kam_store.specs.Paged.{Paged, paged_state}
use Rattle.kam_store.specs.PagedKept.{contents, IsPaged}
use Rattle.kam_store.specs.Paging.{numbers_of}
use Rattle.kam_store.proofs.Account.{length-content}
use Rattle.kam_store.proofs.Live.{length-live_of}
use Rattle.kam_store.proofs.Paged.{held_at, out_at, paged_close, live-closed, pages_of-paged, length-contents}
use Rattle.kam_store.proofs.Store.{closed}
use Rattle.kam_store.proofs.page_store.PageStoreRegionStore.close_top.Goals as goal

pub overflow_sub-self : goal.overflow_sub-self
overflow_sub-self g c =
    let i = c.self.inside in
    let h = g.P.Pages.holding in
    let rs = i.regions.items in
    let k = c.len-top.result - 1 in
    let paired : length i.serials.live ≤ length rs = c.self.invariant.paired in
    let long : length c.args.self.now.live ≡ length i.serials.live =
    ap (λ (s : Paged g.row.P.Denot). length s.live) (sym c.self.view_is) ∙ length-live_of i.serials.live (contents rs) (omega (arith, length-contents rs)) in
    let top : length i.serials.live ≡ k + 1 = omega (arith, c.len-top.ensures.len, c.requires) in
    let inside : k < length rs = omega arith in
    let r = c.index_mut-region.result.now in
    let is = c.index_mut-region.ensures.value in
    omega (arith, held_at i.serials rs i.held (h i.pages) k r c.self.invariant inside is, c.pages.ensures)

pub clear-requires : goal.clear-requires
clear-requires g c =
    let i = c.self.inside in
    let h = g.P.Pages.holding in
    let rs = i.regions.items in
    let k = c.len-top.result - 1 in
    let paired : length i.serials.live ≤ length rs = c.self.invariant.paired in
    let long : length c.args.self.now.live ≡ length i.serials.live =
    ap (λ (s : Paged g.row.P.Denot). length s.live) (sym c.self.view_is) ∙ length-live_of i.serials.live (contents rs) (omega (arith, length-contents rs)) in
    let top : length i.serials.live ≡ k + 1 = omega (arith, c.len-top.ensures.len, c.requires) in
    let inside : k < length rs = omega arith in
    let r = c.index_mut-region.result.now in
    let is = c.index_mut-region.ensures.value in
    out_at i.serials rs i.held (h i.pages) k r c.self.invariant inside is

pub invariant_of-self : goal.invariant_of-self
invariant_of-self g c =
    let i = c.self.inside in
    let h = g.P.Pages.holding in
    let rs = i.regions.items in
    let k = c.len-top.result - 1 in
    let paired : length i.serials.live ≤ length rs = c.self.invariant.paired in
    let long : length c.args.self.now.live ≡ length i.serials.live =
    ap (λ (s : Paged g.row.P.Denot). length s.live) (sym c.self.view_is) ∙ length-live_of i.serials.live (contents rs) (omega (arith, length-contents rs)) in
    let top : length i.serials.live ≡ k + 1 = omega (arith, c.len-top.ensures.len, c.requires) in
    let inside : k < length rs = omega arith in
    let r = c.index_mut-region.result.now in
    let is = c.index_mut-region.ensures.value in
    let x = c.clear.new.self in
    let moved : MovesPages (h i.pages) (numbers_of r) (h c.clear.new.pool) (numbers_of x) =
    subst (λ (ns : List ℕ). MovesPages (h i.pages) (numbers_of r) (h c.clear.new.pool) ns) (sym c.clear.ensures.numbers) c.clear.ensures.moved in
    let none : x.used ≡ 0 = sym (length-content x) ∙ ap (λ (ws : List ℕ). length ws) c.clear.ensures.content in
    let bare : length (numbers_of x) ≡ 0 = ap (λ (ns : List ℕ). length ns) c.clear.ensures.numbers in
    let held = held_at i.serials rs i.held (h i.pages) k r c.self.invariant inside is in
    let after = paged_close i.serials rs i.held (i.held - c.pages.result) (h i.pages) (h c.clear.new.pool) k r x c.self.invariant top inside is none moved (omega (arith, c.pages.ensures)) in
    subst (λ (s : SerialList). IsPaged s (set rs k x) (i.held - c.pages.result) (h c.clear.new.pool)) (sym c.truncate.ensures) after

pub returns : goal.returns
returns g c =
    let i = c.self.inside in
    let h = g.P.Pages.holding in
    let rs = i.regions.items in
    let k = c.len-top.result - 1 in
    let paired : length i.serials.live ≤ length rs = c.self.invariant.paired in
    let long : length c.args.self.now.live ≡ length i.serials.live =
    ap (λ (s : Paged g.row.P.Denot). length s.live) (sym c.self.view_is) ∙ length-live_of i.serials.live (contents rs) (omega (arith, length-contents rs)) in
    let top : length i.serials.live ≡ k + 1 = omega (arith, c.len-top.ensures.len, c.requires) in
    let inside : k < length rs = omega arith in
    let r = c.index_mut-region.result.now in
    let is = c.index_mut-region.ensures.value in
    let x = c.clear.new.self in
    let moved : MovesPages (h i.pages) (numbers_of r) (h c.clear.new.pool) (numbers_of x) =
    subst (λ (ns : List ℕ). MovesPages (h i.pages) (numbers_of r) (h c.clear.new.pool) ns) (sym c.clear.ensures.numbers) c.clear.ensures.moved in
    let none : x.used ≡ 0 = sym (length-content x) ∙ ap (λ (ws : List ℕ). length ws) c.clear.ensures.content in
    let bare : length (numbers_of x) ≡ 0 = ap (λ (ns : List ℕ). length ns) c.clear.ensures.numbers in
    let held = held_at i.serials rs i.held (h i.pages) k r c.self.invariant inside is in
    let after = paged_close i.serials rs i.held (i.held - c.pages.result) (h i.pages) (h c.clear.new.pool) k r x c.self.invariant top inside is none moved (omega (arith, c.pages.ensures)) in
    let live = live_of i.serials.live (contents rs) in
    let mine = live_of (take k i.serials.live) (contents (set rs k x)) in
    let before = pages_of-paged i.serials rs i.held (h i.pages) c.self.invariant in
    let later = pages_of-paged (record i.serials { live = take k i.serials.live }) (set rs k x) (i.held - c.pages.result) (h c.clear.new.pool) after in
    let need : pages_of mine + length (numbers_of r) ≡ pages_of live = omega (arith, c.pages.ensures) in
    let state = closed (h i.pages) (h c.clear.new.pool) i.serials.made live mine (numbers_of r) c.clear.ensures.moved need c.clear.ensures.peak c.clear.ensures.unmet in
    let lowest : mine ≡ take (length live - 1) live =
    live-closed i.serials.live rs k x ∙ ap (λ n. take n live) (omega (arith, length-live_of i.serials.live (contents rs) (omega (arith, length-contents rs)))) in
    ap (λ (s : SerialList). paged_state (h c.clear.new.pool) s.made (live_of s.live (contents (set rs k x)))) c.truncate.ensures
    ∙ state
    ∙ ap (with_live (paged_state (h i.pages) i.serials.made live)) lowest
    ∙ ap (λ (s : Paged g.row.P.Denot). with_live (paged_state (h s.pages) s.made s.live) (take (length s.live - 1) s.live)) c.self.view_is
