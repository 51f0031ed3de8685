use Rattle.std.proofs.Common.{◌≡◌, ◌<◌, ◌+◌, ◌*◌, ◌^◌, ℕ, List, [], ◌++◌, Vec, Some, length, set, refl, ap, sym, subst, ◌∙◌, arith}
use Rattle.std.proofs.lemmas.List.{length-set, length-append, set-get_or}
use Rattle.std.proofs.lemmas.List.Elements.{All-set}
use Rattle.std.proofs.lemmas.Option.{slice_get_within}
use Rattle.std.specs.declared.alloc.Global.{Global}
use Rattle.kam_store.specs.Store.{LiveRegion, words_at, length_at, appended}
use Rattle.kam_store.specs.Plain.{PlainRegions, live_of, plain_state}
use Rattle.kam_store.specs.PlainKept.{lists}
use Rattle.kam_store.specs.Writing.{Writes, LacksMemory}
use Rattle.kam_store.proofs.Rising.{rises_found}
use Rattle.kam_store.proofs.Live.{words_at-place, length_at-place, changed-place, words_at-absent, not_none}
use Rattle.kam_store.proofs.PlainLive.{length-lists, lists-at, lists-set, plain_writes, plain_lacks, short_list}
use Rattle.kam_store.proofs.plain_store.PlainStoreRegionStore.alloc_words.Goals as goal

pub returns-in_default-clause-dead : goal.returns-in_default-clause-dead
returns-in_default-clause-dead c =
    let i = c.self.inside in
    let none = words_at-absent i.serials.live (lists i.regions.items) c.args.serial (c.in_default.ensures.none refl) in
    (λ _. ap (λ (s : PlainRegions). words_at c.args.serial s.live) (sym c.self.view_is) ∙ none, λ _. refl)

pub index_mut-region-requires : goal.index_mut-region-requires
index_mut-region-requires c =
    let i = c.self.inside in
    omega (arith, slice_get_within i.serials.live c.in-Some.place c.args.serial c.in-Some.ensures.found, c.self.invariant.paired, i.regions.ok.0)

pub overflow_mul-result : goal.overflow_mul-result
overflow_mul-result c =
    let i = c.self.inside in
    let few : i.serials.made < 4294967296 = c.in-Some.ensures.few in
    omega (arith, (rises_found i.serials.made 0 i.serials.live c.in-Some.place c.args.serial c.in-Some.ensures.rises c.in-Some.ensures.found).1)

pub overflow_add-result : goal.overflow_add-result
overflow_add-result c =
    let i = c.self.inside in
    let vs = i.regions.items in
    let n = c.args.serial in
    let k = c.in-Some.place in
    let v = c.index_mut-region.result.now in
    let place = slice_get_within i.serials.live k n c.in-Some.ensures.found in
    let inside : k < length vs = omega (arith, place, c.self.invariant.paired) in
    let inner : k < length (lists vs) = omega (arith, length-lists vs) in
    let is = c.index_mut-region.ensures.value in
    let words = lists-at vs k v inside is in
    let short = short_list vs k v c.self.invariant.short inside is in
    let few : i.serials.made < 4294967296 = c.in-Some.ensures.few in
    omega (arith, (rises_found i.serials.made 0 i.serials.live k n c.in-Some.ensures.rises c.in-Some.ensures.found).1, v.ok.0)

pub invariant_of-self-2 : goal.invariant_of-self-2
invariant_of-self-2 c =
    let i = c.self.inside in
    let vs = i.regions.items in
    let n = c.args.serial in
    let k = c.in-Some.place in
    let v = c.index_mut-region.result.now in
    let place = slice_get_within i.serials.live k n c.in-Some.ensures.found in
    let inside : k < length vs = omega (arith, place, c.self.invariant.paired) in
    let inner : k < length (lists vs) = omega (arith, length-lists vs) in
    let is = c.index_mut-region.ensures.value in
    let words = lists-at vs k v inside is in
    let short = short_list vs k v c.self.invariant.short inside is in
    let u = c.extend_from_slice.new.self in
    let long = length_at-place i.serials.made 0 i.serials.live (lists vs) k n c.in-Some.ensures.rises c.in-Some.ensures.found inner in
    let seen = ap (λ (s : PlainRegions). length_at n s.live) c.self.view_is in
    let l = ap (λ (ws : List ℕ). length ws) words in
    let longer = ap (λ (ws : List ℕ). length ws) c.in-Ok.ensures.items ∙ length-append v.items c.args.words.now in
    record {
      paired = length-set vs k u ∙ c.self.invariant.paired;
      short = All-set (λ (q : Vec ℕ Global). length q.items < 2 ^ 32) vs k u (omega (arith, c.requires)) c.self.invariant.short;
    }

pub returns-clause-written : goal.returns-clause-written
returns-clause-written c =
    let i = c.self.inside in
    let vs = i.regions.items in
    let n = c.args.serial in
    let k = c.in-Some.place in
    let v = c.index_mut-region.result.now in
    let place = slice_get_within i.serials.live k n c.in-Some.ensures.found in
    let inside : k < length vs = omega (arith, place, c.self.invariant.paired) in
    let inner : k < length (lists vs) = omega (arith, length-lists vs) in
    let is = c.index_mut-region.ensures.value in
    let words = lists-at vs k v inside is in
    let short = short_list vs k v c.self.invariant.short inside is in
    let u = c.extend_from_slice.new.self in
    let ws = c.args.words.now in
    let live = live_of i.serials.live (lists vs) in
    let mine : live_of i.serials.live (lists (set vs k u)) ≡ appended n ws live =
    ap (live_of i.serials.live) (lists-set vs k u ∙ ap (set (lists vs) k) (c.in-Ok.ensures.items ∙ ap (λ (us : List ℕ). us ++ ws) (sym words)))
    ∙ sym (changed-place i.serials.made 0 i.serials.live (lists vs) k n (λ us. us ++ ws) c.in-Some.ensures.rises c.in-Some.ensures.found inner) in
    let long = length_at-place i.serials.made 0 i.serials.live (lists vs) k n c.in-Some.ensures.rises c.in-Some.ensures.found inner in
    let l = ap (λ (ws : List ℕ). length ws) words in
    let old : PlainRegions = record { made = i.serials.made; live = live } in
    let new : PlainRegions = record { made = i.serials.made; live = live_of i.serials.live (lists (set vs k u)) } in
    let pointer = n * 4294967296 + c.len-offset.result in
    let at : pointer ≡ n * 2 ^ 32 + length_at n live = ap (λ m. n * 4294967296 + m) (c.len-offset.ensures ∙ v.ok.0 ∙ sym l ∙ sym long) in
    subst (λ (s : PlainRegions). Writes (plain_state s) n ws pointer (plain_state new)) c.self.view_is
    (plain_writes old new n ws pointer at (ap (λ (rs : List LiveRegion). let p : PlainRegions = record { made = i.serials.made; live = rs } in p) mine))

pub returns-clause-dead : goal.returns-clause-dead
returns-clause-dead c =
    let i = c.self.inside in
    let vs = i.regions.items in
    let n = c.args.serial in
    let k = c.in-Some.place in
    let v = c.index_mut-region.result.now in
    let place = slice_get_within i.serials.live k n c.in-Some.ensures.found in
    let inside : k < length vs = omega (arith, place, c.self.invariant.paired) in
    let inner : k < length (lists vs) = omega (arith, length-lists vs) in
    let is = c.index_mut-region.ensures.value in
    let words = lists-at vs k v inside is in
    let short = short_list vs k v c.self.invariant.short inside is in
    let there : words_at n (live_of i.serials.live (lists vs)) ≡ Some v.items = words_at-place i.serials.made 0 i.serials.live (lists vs) k n c.in-Some.ensures.rises c.in-Some.ensures.found inner ∙ ap Some words in
    (λ e. cc, λ e. absurd (not_none (words_at n c.args.self.now.live) v.items (ap (λ (s : PlainRegions). words_at n s.live) (sym c.self.view_is) ∙ there) e))

pub returns-in_default-extend_from_slice-clause-dead : goal.returns-in_default-extend_from_slice-clause-dead
returns-in_default-extend_from_slice-clause-dead c =
    let i = c.self.inside in
    let vs = i.regions.items in
    let n = c.args.serial in
    let k = c.in-Some.place in
    let v = c.index_mut-region.result.now in
    let place = slice_get_within i.serials.live k n c.in-Some.ensures.found in
    let inside : k < length vs = omega (arith, place, c.self.invariant.paired) in
    let inner : k < length (lists vs) = omega (arith, length-lists vs) in
    let is = c.index_mut-region.ensures.value in
    let words = lists-at vs k v inside is in
    let short = short_list vs k v c.self.invariant.short inside is in
    let there : words_at n (live_of i.serials.live (lists vs)) ≡ Some v.items = words_at-place i.serials.made 0 i.serials.live (lists vs) k n c.in-Some.ensures.rises c.in-Some.ensures.found inner ∙ ap Some words in
    (λ e. cc, λ e. absurd (not_none (words_at n c.args.self.now.live) v.items (ap (λ (s : PlainRegions). words_at n s.live) (sym c.self.view_is) ∙ there) e))

pub returns-in_default-extend_from_slice-clause-no_memory : goal.returns-in_default-extend_from_slice-clause-no_memory
returns-in_default-extend_from_slice-clause-no_memory c = λ e.
    let i = c.self.inside in
    let vs = i.regions.items in
    let n = c.args.serial in
    let k = c.in-Some.place in
    let v = c.index_mut-region.result.now in
    let place = slice_get_within i.serials.live k n c.in-Some.ensures.found in
    let inside : k < length vs = omega (arith, place, c.self.invariant.paired) in
    let inner : k < length (lists vs) = omega (arith, length-lists vs) in
    let is = c.index_mut-region.ensures.value in
    let words = lists-at vs k v inside is in
    let short = short_list vs k v c.self.invariant.short inside is in
    let u = c.extend_from_slice.new.self in
    let stay : lists (set vs k u) ≡ lists vs = lists-set vs k u ∙ ap (set (lists vs) k) (c.in_default-extend_from_slice.ensures.items ∙ sym words) ∙ set-get_or (lists vs) k [] in
    let old : PlainRegions = record { made = i.serials.made; live = live_of i.serials.live (lists vs) } in
    let new : PlainRegions = record { made = i.serials.made; live = live_of i.serials.live (lists (set vs k u)) } in
    subst (λ (s : PlainRegions). LacksMemory (plain_state s) n c.args.words.now (plain_state new)) c.self.view_is
    (plain_lacks old new n c.args.words.now (ap (λ (wss : List (List ℕ)). let p : PlainRegions = record { made = i.serials.made; live = live_of i.serials.live wss } in p) stay))
