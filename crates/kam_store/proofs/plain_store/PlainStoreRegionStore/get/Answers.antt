use Rattle.std.proofs.Common.{◌≡◌, ◌<◌, ◌≤◌, ◌+◌, ◌/◌, ◌%◌, ◌^◌, ℕ, List, [], Some, length, get_or, refl, ap, sym, ◌∙◌, arith}
use Rattle.std.proofs.lemmas.Option.{slice_get_within, slice_get-get_or}
use Rattle.std.specs.Prelude.{slice_get}
use Rattle.kam_store.specs.Store.{words_at, word_in}
use Rattle.kam_store.specs.Plain.{PlainRegions}
use Rattle.kam_store.specs.PlainKept.{lists}
use Rattle.kam_store.proofs.Live.{found_word, no_word, absent_word}
use Rattle.kam_store.proofs.PlainLive.{length-lists, lists-at, short_list}
use Rattle.kam_store.proofs.plain_store.PlainStoreRegionStore.get.Goals as goal

pub returns-in_default : goal.returns-in_default
returns-in_default c =
    let i = c.self.inside in
    let n = c.args.pointer / 2 ^ 32 in
    let at = c.args.pointer % 2 ^ 32 + c.args.field in
    sym (absent_word i.serials.live (lists i.regions.items) n at (c.in_default.ensures.none refl))
    ∙ ap (λ (s : PlainRegions). word_in (words_at n s.live) at) c.self.view_is

pub index-region-requires : goal.index-region-requires
index-region-requires c =
    let i = c.self.inside in
    omega (arith, slice_get_within i.serials.live c.in-Some.place (c.args.pointer / 2 ^ 32) c.in-Some.ensures.found, c.self.invariant.paired, i.regions.ok.0)

pub returns-then-at-len : goal.returns-then-at-len
returns-then-at-len c =
    let i = c.self.inside in
    let vs = i.regions.items in
    let n = c.args.pointer / 2 ^ 32 in
    let k = c.in-Some.place in
    let v = c.index-region.result.now in
    let place = slice_get_within i.serials.live k n c.in-Some.ensures.found in
    let inside : k < length vs = omega (arith, place, c.self.invariant.paired) in
    let inner : k < length (lists vs) = omega (arith, length-lists vs) in
    let is = c.index-region.ensures in
    let words = lists-at vs k v inside is in
    let short = short_list vs k v c.self.invariant.short inside is in
    let at = c.args.pointer % 2 ^ 32 + c.args.field in
    let past : length (get_or (lists vs) k []) ≤ at = (let l = ap (λ (ws : List ℕ). length ws) words in omega (arith, v.ok.0)) in
    sym (no_word i.serials.made 0 i.serials.live (lists vs) k n at c.in-Some.ensures.rises c.in-Some.ensures.found inner past)
    ∙ ap (λ (s : PlainRegions). word_in (words_at n s.live) at) c.self.view_is

pub returns : goal.returns
returns c =
    let i = c.self.inside in
    let vs = i.regions.items in
    let n = c.args.pointer / 2 ^ 32 in
    let k = c.in-Some.place in
    let v = c.index-region.result.now in
    let place = slice_get_within i.serials.live k n c.in-Some.ensures.found in
    let inside : k < length vs = omega (arith, place, c.self.invariant.paired) in
    let inner : k < length (lists vs) = omega (arith, length-lists vs) in
    let is = c.index-region.ensures in
    let words = lists-at vs k v inside is in
    let short = short_list vs k v c.self.invariant.short inside is in
    let at = c.args.pointer % 2 ^ 32 + c.args.field in
    let same : at ≡ c.saturating_add-at.result = omega (arith, v.ok.0) in
    let w = c.index.result.now in
    let read : slice_get (get_or (lists vs) k []) at ≡ Some w =
    ap (λ (ws : List ℕ). slice_get ws at) words ∙ ap (slice_get v.items) same ∙ slice_get-get_or v.items c.saturating_add-at.result w (omega (arith, v.ok.0)) ∙ ap Some (sym c.index.ensures) in
    sym (found_word i.serials.made 0 i.serials.live (lists vs) k n at w c.in-Some.ensures.rises c.in-Some.ensures.found inner read)
    ∙ ap (λ (s : PlainRegions). word_in (words_at n s.live) at) c.self.view_is
