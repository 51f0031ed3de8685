use Rattle.std.proofs.Common.{◌≡◌, ◌<◌, ◌≤◌, ◌+◌, ◌/◌, ◌%◌, ◌^◌, ℕ, List, [], length, set, get_or, refl, ap, sym, ◌∙◌, arith}
use Rattle.std.proofs.lemmas.Option.{slice_get_within, slice_get-get_or}
use Rattle.std.specs.Prelude.{slice_get}
use Rattle.kam_store.specs.Store.{LiveRegion, with_word, words_at, word_in, changed}
use Rattle.kam_store.specs.Plain.{PlainRegions, live_of, plain_state}
use Rattle.kam_store.specs.PlainKept.{lists}
use Rattle.kam_store.proofs.Live.{changed-place, found_word, no_word, absent_word, not_none}
use Rattle.kam_store.proofs.PlainLive.{length-lists, lists-at, lists-set, short_list}
use Rattle.kam_store.proofs.plain_store.PlainStoreRegionStore.set.Goals as goal

pub returns-in_default-clause-dead : goal.returns-in_default-clause-dead
returns-in_default-clause-dead c =
    let i = c.self.inside in
    let n = c.args.pointer / 2 ^ 32 in
    let at = c.args.pointer % 2 ^ 32 + c.args.field in
    let none = absent_word i.serials.live (lists i.regions.items) n at (c.in_default.ensures.none refl) in
    (λ _. ap (λ (s : PlainRegions). word_in (words_at n s.live) at) (sym c.self.view_is) ∙ none, λ _. refl)

pub index_mut-region-requires : goal.index_mut-region-requires
index_mut-region-requires c =
    let i = c.self.inside in
    omega (arith, slice_get_within i.serials.live c.in-Some.place (c.args.pointer / 2 ^ 32) c.in-Some.ensures.found, c.self.invariant.paired, i.regions.ok.0)

pub returns-then-len-at-clause-dead : goal.returns-then-len-at-clause-dead
returns-then-len-at-clause-dead c =
    let i = c.self.inside in
    let vs = i.regions.items in
    let n = c.args.pointer / 2 ^ 32 in
    let k = c.in-Some.place in
    let v = c.index_mut-region.result.now in
    let place = slice_get_within i.serials.live k n c.in-Some.ensures.found in
    let inside : k < length vs = omega (arith, place, c.self.invariant.paired) in
    let inner : k < length (lists vs) = omega (arith, length-lists vs) in
    let is = c.index_mut-region.ensures.value in
    let words = lists-at vs k v inside is in
    let short = short_list vs k v c.self.invariant.short inside is in
    let at = c.args.pointer % 2 ^ 32 + c.args.field in
    let past : length (get_or (lists vs) k []) ≤ at = (let l = ap (λ (ws : List ℕ). length ws) words in omega (arith, v.ok.0)) in
    let none = no_word i.serials.made 0 i.serials.live (lists vs) k n at c.in-Some.ensures.rises c.in-Some.ensures.found inner past in
    (λ _. ap (λ (s : PlainRegions). word_in (words_at n s.live) at) (sym c.self.view_is) ∙ none, λ _. refl)

pub returns-clause-dead : goal.returns-clause-dead
returns-clause-dead c =
    let i = c.self.inside in
    let vs = i.regions.items in
    let n = c.args.pointer / 2 ^ 32 in
    let k = c.in-Some.place in
    let v = c.index_mut-region.result.now in
    let place = slice_get_within i.serials.live k n c.in-Some.ensures.found in
    let inside : k < length vs = omega (arith, place, c.self.invariant.paired) in
    let inner : k < length (lists vs) = omega (arith, length-lists vs) in
    let is = c.index_mut-region.ensures.value in
    let words = lists-at vs k v inside is in
    let short = short_list vs k v c.self.invariant.short inside is in
    let at = c.args.pointer % 2 ^ 32 + c.args.field in
    let within : at < length v.items = omega (arith, v.ok.0) in
    let read = ap (λ (ws : List ℕ). slice_get ws at) words ∙ slice_get-get_or v.items at 0 within in
    let word = found_word i.serials.made 0 i.serials.live (lists vs) k n at (get_or v.items at 0) c.in-Some.ensures.rises c.in-Some.ensures.found inner read in
    (λ e. cc, λ e. absurd (not_none (word_in (words_at n c.args.self.now.live) at) (get_or v.items at 0) (ap (λ (s : PlainRegions). word_in (words_at n s.live) at) (sym c.self.view_is) ∙ word) e))

pub returns-clause-written : goal.returns-clause-written
returns-clause-written c =
    let i = c.self.inside in
    let vs = i.regions.items in
    let n = c.args.pointer / 2 ^ 32 in
    let k = c.in-Some.place in
    let v = c.index_mut-region.result.now in
    let place = slice_get_within i.serials.live k n c.in-Some.ensures.found in
    let inside : k < length vs = omega (arith, place, c.self.invariant.paired) in
    let inner : k < length (lists vs) = omega (arith, length-lists vs) in
    let is = c.index_mut-region.ensures.value in
    let words = lists-at vs k v inside is in
    let short = short_list vs k v c.self.invariant.short inside is in
    let at = c.args.pointer % 2 ^ 32 + c.args.field in
    let here : at ≡ c.saturating_add-at.result = omega (arith, v.ok.0) in
    let w = c.args.word in
    let put : List ℕ = set v.items c.saturating_add-at.result w in
    let mine : live_of i.serials.live (set (lists vs) k put) ≡ changed n (λ ws. set ws at w) (live_of i.serials.live (lists vs)) =
    ap (λ (ws : List ℕ). live_of i.serials.live (set (lists vs) k ws)) (ap (λ j. set v.items j w) (sym here) ∙ ap (λ (ws : List ℕ). set ws at w) (sym words))
    ∙ sym (changed-place i.serials.made 0 i.serials.live (lists vs) k n (λ ws. set ws at w) c.in-Some.ensures.rises c.in-Some.ensures.found inner) in
    ap (λ (wss : List (List ℕ)). plain_state (record { made = i.serials.made; live = live_of i.serials.live wss })) (lists-set vs k _)
    ∙ ap (λ (rs : List LiveRegion). plain_state (record { made = i.serials.made; live = rs })) mine
    ∙ ap (λ (s : PlainRegions). with_word (plain_state s) c.args.pointer c.args.field w) c.self.view_is
