use Rattle.std.proofs.Common.{◌≡◌, ◌<◌, ◌+◌, ◌-◌, ◌*◌, ◌^◌, ℕ, List, [], ◌++◌, Some, Err, length, set, refl, ap, sym, subst, ◌∙◌, arith}
use Rattle.std.proofs.lemmas.List.{length-append, set-get_or}
use Rattle.std.proofs.lemmas.Option.{slice_get_within}
use Rattle.kam_store.specs.declared.region_store.StoreRefusal.TheVariants.{Dead, NoPage, NoMemory}
use Rattle.kam_store.specs.Store.{LiveRegion, pages_for, words_at, length_at, appended}
use Rattle.kam_store.specs.Plain.{live_of}
use Rattle.kam_store.specs.Moves.{MovesPages, PeakWithin, MeetsNone}
use Rattle.kam_store.specs.Paged.{Paged, paged_state}
use Rattle.kam_store.specs.PagedKept.{contents}
use Rattle.kam_store.specs.Paging.{content_of, numbers_of, more_pages}
use Rattle.kam_store.specs.Writing.{Writes, LacksPage, LacksMemory}
use Rattle.kam_store.proofs.Account.{length-content, length-numbers_of}
use Rattle.kam_store.proofs.Rising.{rises_found}
use Rattle.kam_store.proofs.Live.{words_at-place, length_at-place, changed-place, words_at-absent, not_none}
use Rattle.kam_store.proofs.Paged.{contents-at, contents-set, length-contents, short_at, paged_set, held_bound}
use Rattle.kam_store.proofs.Store.{more_for, pages_for-le, wrote, lacked_page, lacked_memory}
use Rattle.kam_store.proofs.page_store.PageStoreRegionStore.alloc_words.Goals as goal

pub returns-in_default-clause-dead : goal.returns-in_default-clause-dead
returns-in_default-clause-dead g c =
    let i = c.self.inside in
    let none = words_at-absent i.serials.live (contents i.regions.items) c.args.serial (c.in_default.ensures.none refl) in
    (λ _. ap (λ (s : Paged g.row.P.Denot). words_at c.args.serial s.live) (sym c.self.view_is) ∙ none, λ _. refl)

pub index_mut-region-requires : goal.index_mut-region-requires
index_mut-region-requires g c =
    let i = c.self.inside in
    omega (arith, slice_get_within i.serials.live c.in-Some.place c.args.serial c.in-Some.ensures.found, c.self.invariant.paired, i.regions.ok.0)

pub append-requires : goal.append-requires
append-requires g c =
    let i = c.self.inside in
    let h = g.P.Pages.holding in
    let rs = i.regions.items in
    let n = c.args.serial in
    let k = c.in-Some.place in
    let r = c.index_mut-region.result.now in
    let is = c.index_mut-region.ensures.value in
    let place = slice_get_within i.serials.live k n c.in-Some.ensures.found in
    let inside : k < length rs = omega (arith, place, c.self.invariant.paired) in
    let inner : k < length (contents rs) = omega (arith, length-contents rs) in
    let words = contents-at rs k r inside is in
    let short = short_at i.serials rs i.held (h i.pages) k r c.self.invariant inside is in
    let long = length_at-place i.serials.made 0 i.serials.live (contents rs) k n c.in-Some.ensures.rises c.in-Some.ensures.found inner in
    let seen = ap (λ (s : Paged g.row.P.Denot). length_at n s.live) c.self.view_is in
    let l = ap (λ (ws : List ℕ). length ws) words in
    omega (arith, c.requires)

pub overflow_mul-result : goal.overflow_mul-result
overflow_mul-result g c =
    let i = c.self.inside in
    let few : i.serials.made < 4294967296 = c.in-Some.ensures.few in
    omega (arith, (rises_found i.serials.made 0 i.serials.live c.in-Some.place c.args.serial c.in-Some.ensures.rises c.in-Some.ensures.found).1)

pub overflow_add-result : goal.overflow_add-result
overflow_add-result g c =
    let i = c.self.inside in
    let h = g.P.Pages.holding in
    let rs = i.regions.items in
    let n = c.args.serial in
    let k = c.in-Some.place in
    let r = c.index_mut-region.result.now in
    let is = c.index_mut-region.ensures.value in
    let place = slice_get_within i.serials.live k n c.in-Some.ensures.found in
    let inside : k < length rs = omega (arith, place, c.self.invariant.paired) in
    let inner : k < length (contents rs) = omega (arith, length-contents rs) in
    let words = contents-at rs k r inside is in
    let short = short_at i.serials rs i.held (h i.pages) k r c.self.invariant inside is in
    let few : i.serials.made < 4294967296 = c.in-Some.ensures.few in
    omega (arith, (rises_found i.serials.made 0 i.serials.live k n c.in-Some.ensures.rises c.in-Some.ensures.found).1, length-content r)

pub invariant_of-self : goal.invariant_of-self
invariant_of-self g c =
    let i = c.self.inside in
    let h = g.P.Pages.holding in
    let rs = i.regions.items in
    let n = c.args.serial in
    let k = c.in-Some.place in
    let r = c.index_mut-region.result.now in
    let is = c.index_mut-region.ensures.value in
    let place = slice_get_within i.serials.live k n c.in-Some.ensures.found in
    let inside : k < length rs = omega (arith, place, c.self.invariant.paired) in
    let inner : k < length (contents rs) = omega (arith, length-contents rs) in
    let words = contents-at rs k r inside is in
    let short = short_at i.serials rs i.held (h i.pages) k r c.self.invariant inside is in
    let x = c.append.new.self in
    let same = ap (λ (ws : List ℕ). length ws) c.in-Err.ensures.err.0 in
    let bare = ap (λ (ns : List ℕ). length ns) c.in-Err.ensures.err.1 in
    let used : x.used < 2 ^ 32 = (let a = length-content x in let b = length-content r in omega arith) in
    paged_set i.serials rs i.held i.held (h i.pages) (h c.append.new.pool) k r x c.self.invariant place inside is used c.in-Err.ensures.moved (omega arith)

pub returns-in-Err-clause-dead : goal.returns-in-Err-clause-dead
returns-in-Err-clause-dead g c =
    let i = c.self.inside in
    let h = g.P.Pages.holding in
    let rs = i.regions.items in
    let n = c.args.serial in
    let k = c.in-Some.place in
    let r = c.index_mut-region.result.now in
    let is = c.index_mut-region.ensures.value in
    let place = slice_get_within i.serials.live k n c.in-Some.ensures.found in
    let inside : k < length rs = omega (arith, place, c.self.invariant.paired) in
    let inner : k < length (contents rs) = omega (arith, length-contents rs) in
    let words = contents-at rs k r inside is in
    let short = short_at i.serials rs i.held (h i.pages) k r c.self.invariant inside is in
    let there : words_at n (live_of i.serials.live (contents rs)) ≡ Some (content_of r) = words_at-place i.serials.made 0 i.serials.live (contents rs) k n c.in-Some.ensures.rises c.in-Some.ensures.found inner ∙ ap Some words in (
      λ e. let q : c.in-Err.refusal ≡ Dead = cc in absurd (c.in-Err.ensures.alive (ap Err q)),
      λ e. absurd (not_none (words_at n c.args.self.now.live) (content_of r) (ap (λ (s : Paged g.row.P.Denot). words_at n s.live) (sym c.self.view_is) ∙ there) e),
    )

pub returns-in-Err-clause-no_page : goal.returns-in-Err-clause-no_page
returns-in-Err-clause-no_page g c = λ e.
    let i = c.self.inside in
    let h = g.P.Pages.holding in
    let rs = i.regions.items in
    let n = c.args.serial in
    let k = c.in-Some.place in
    let r = c.index_mut-region.result.now in
    let is = c.index_mut-region.ensures.value in
    let place = slice_get_within i.serials.live k n c.in-Some.ensures.found in
    let inside : k < length rs = omega (arith, place, c.self.invariant.paired) in
    let inner : k < length (contents rs) = omega (arith, length-contents rs) in
    let words = contents-at rs k r inside is in
    let short = short_at i.serials rs i.held (h i.pages) k r c.self.invariant inside is in
    let there : words_at n (live_of i.serials.live (contents rs)) ≡ Some (content_of r) = words_at-place i.serials.made 0 i.serials.live (contents rs) k n c.in-Some.ensures.rises c.in-Some.ensures.found inner ∙ ap Some words in
    let x = c.append.new.self in
    let d = h c.append.new.pool in
    let live = live_of i.serials.live (contents rs) in
    let stay : live_of i.serials.live (contents (set rs k x)) ≡ live =
    ap (live_of i.serials.live) (contents-set rs k x ∙ ap (set (contents rs) k) (c.in-Err.ensures.err.0 ∙ sym words) ∙ set-get_or (contents rs) k []) in
    let more : more_pages r c.args.words.now ≡ more_for (content_of r) c.args.words.now = ap (λ u. pages_for (u + length c.args.words.now) - pages_for u) (sym (length-content r)) in
    let moved = subst (λ (ns : List ℕ). MovesPages (h i.pages) (numbers_of r) d ns) c.in-Err.ensures.err.1 c.in-Err.ensures.moved in
    let peak = subst (λ m. PeakWithin (h i.pages) m d) more c.in-Err.ensures.peak in
    let q : c.in-Err.refusal ≡ NoPage = cc in
    let met = subst (λ m. MeetsNone (h i.pages) m d) more (c.in-Err.ensures.met (ap Err q)) in
    subst (λ (s : Paged g.row.P.Denot). LacksPage (paged_state (h s.pages) s.made s.live) n c.args.words.now (paged_state d i.serials.made (live_of i.serials.live (contents (set rs k x))))) c.self.view_is
    (subst (λ (l : List LiveRegion). LacksPage (paged_state (h i.pages) i.serials.made live) n c.args.words.now (paged_state d i.serials.made l)) (sym stay)
    (lacked_page (h i.pages) d i.serials.made live n c.args.words.now (content_of r) (numbers_of r) there moved peak met))

pub returns-in-Err-clause-no_memory : goal.returns-in-Err-clause-no_memory
returns-in-Err-clause-no_memory g c = λ e.
    let i = c.self.inside in
    let h = g.P.Pages.holding in
    let rs = i.regions.items in
    let n = c.args.serial in
    let k = c.in-Some.place in
    let r = c.index_mut-region.result.now in
    let is = c.index_mut-region.ensures.value in
    let place = slice_get_within i.serials.live k n c.in-Some.ensures.found in
    let inside : k < length rs = omega (arith, place, c.self.invariant.paired) in
    let inner : k < length (contents rs) = omega (arith, length-contents rs) in
    let words = contents-at rs k r inside is in
    let short = short_at i.serials rs i.held (h i.pages) k r c.self.invariant inside is in
    let there : words_at n (live_of i.serials.live (contents rs)) ≡ Some (content_of r) = words_at-place i.serials.made 0 i.serials.live (contents rs) k n c.in-Some.ensures.rises c.in-Some.ensures.found inner ∙ ap Some words in
    let x = c.append.new.self in
    let d = h c.append.new.pool in
    let live = live_of i.serials.live (contents rs) in
    let stay : live_of i.serials.live (contents (set rs k x)) ≡ live =
    ap (live_of i.serials.live) (contents-set rs k x ∙ ap (set (contents rs) k) (c.in-Err.ensures.err.0 ∙ sym words) ∙ set-get_or (contents rs) k []) in
    let more : more_pages r c.args.words.now ≡ more_for (content_of r) c.args.words.now = ap (λ u. pages_for (u + length c.args.words.now) - pages_for u) (sym (length-content r)) in
    let moved = subst (λ (ns : List ℕ). MovesPages (h i.pages) (numbers_of r) d ns) c.in-Err.ensures.err.1 c.in-Err.ensures.moved in
    let peak = subst (λ m. PeakWithin (h i.pages) m d) more c.in-Err.ensures.peak in
    let q : c.in-Err.refusal ≡ NoMemory = cc in
    let unmet = c.in-Err.ensures.unmet (λ f. cc) in
    subst (λ (s : Paged g.row.P.Denot). LacksMemory (paged_state (h s.pages) s.made s.live) n c.args.words.now (paged_state d i.serials.made (live_of i.serials.live (contents (set rs k x))))) c.self.view_is
    (subst (λ (l : List LiveRegion). LacksMemory (paged_state (h i.pages) i.serials.made live) n c.args.words.now (paged_state d i.serials.made l)) (sym stay)
    (lacked_memory (h i.pages) d i.serials.made live n c.args.words.now (content_of r) (numbers_of r) there moved peak unmet))

pub overflow_sub-self : goal.overflow_sub-self
overflow_sub-self g c =
    let i = c.self.inside in
    let h = g.P.Pages.holding in
    let rs = i.regions.items in
    let n = c.args.serial in
    let k = c.in-Some.place in
    let r = c.index_mut-region.result.now in
    let is = c.index_mut-region.ensures.value in
    let place = slice_get_within i.serials.live k n c.in-Some.ensures.found in
    let inside : k < length rs = omega (arith, place, c.self.invariant.paired) in
    let inner : k < length (contents rs) = omega (arith, length-contents rs) in
    let words = contents-at rs k r inside is in
    let short = short_at i.serials rs i.held (h i.pages) k r c.self.invariant inside is in
    let x = c.append.new.self in
    let d = h c.append.new.pool in
    let longer : length (content_of x) ≡ length (content_of r) + length c.args.words.now = ap (λ (ws : List ℕ). length ws) c.in_default-append.ensures.ok ∙ length-append (content_of r) c.args.words.now in
    let long = length_at-place i.serials.made 0 i.serials.live (contents rs) k n c.in-Some.ensures.rises c.in-Some.ensures.found inner in
    let seen = ap (λ (s : Paged g.row.P.Denot). length_at n s.live) c.self.view_is in
    let l = ap (λ (ws : List ℕ). length ws) words in
    let room : length (content_of x) < 4294967296 = omega (arith, c.requires) in
    let first = length-numbers_of r in
    let last = length-numbers_of x ∙ ap pages_for longer in
    let grows = pages_for-le (length (content_of r)) (length c.args.words.now) in
    omega (arith, c.pages.ensures, c.pages-before.ensures)

pub overflow_add-self : goal.overflow_add-self
overflow_add-self g c =
    let i = c.self.inside in
    let h = g.P.Pages.holding in
    let rs = i.regions.items in
    let n = c.args.serial in
    let k = c.in-Some.place in
    let r = c.index_mut-region.result.now in
    let is = c.index_mut-region.ensures.value in
    let place = slice_get_within i.serials.live k n c.in-Some.ensures.found in
    let inside : k < length rs = omega (arith, place, c.self.invariant.paired) in
    let inner : k < length (contents rs) = omega (arith, length-contents rs) in
    let words = contents-at rs k r inside is in
    let short = short_at i.serials rs i.held (h i.pages) k r c.self.invariant inside is in
    let x = c.append.new.self in
    let d = h c.append.new.pool in
    let longer : length (content_of x) ≡ length (content_of r) + length c.args.words.now = ap (λ (ws : List ℕ). length ws) c.in_default-append.ensures.ok ∙ length-append (content_of r) c.args.words.now in
    let long = length_at-place i.serials.made 0 i.serials.live (contents rs) k n c.in-Some.ensures.rises c.in-Some.ensures.found inner in
    let seen = ap (λ (s : Paged g.row.P.Denot). length_at n s.live) c.self.view_is in
    let l = ap (λ (ws : List ℕ). length ws) words in
    let room : length (content_of x) < 4294967296 = omega (arith, c.requires) in
    let first = length-numbers_of r in
    let last = length-numbers_of x ∙ ap pages_for longer in
    let grows = pages_for-le (length (content_of r)) (length c.args.words.now) in
    let bound = held_bound i.serials rs i.held (h i.pages) c.self.invariant c.in-Some.ensures.rises c.in-Some.ensures.few in
    omega (arith, c.pages.ensures, c.pages-before.ensures)

pub invariant_of-self-2 : goal.invariant_of-self-2
invariant_of-self-2 g c =
    let i = c.self.inside in
    let h = g.P.Pages.holding in
    let rs = i.regions.items in
    let n = c.args.serial in
    let k = c.in-Some.place in
    let r = c.index_mut-region.result.now in
    let is = c.index_mut-region.ensures.value in
    let place = slice_get_within i.serials.live k n c.in-Some.ensures.found in
    let inside : k < length rs = omega (arith, place, c.self.invariant.paired) in
    let inner : k < length (contents rs) = omega (arith, length-contents rs) in
    let words = contents-at rs k r inside is in
    let short = short_at i.serials rs i.held (h i.pages) k r c.self.invariant inside is in
    let x = c.append.new.self in
    let d = h c.append.new.pool in
    let longer : length (content_of x) ≡ length (content_of r) + length c.args.words.now = ap (λ (ws : List ℕ). length ws) c.in_default-append.ensures.ok ∙ length-append (content_of r) c.args.words.now in
    let long = length_at-place i.serials.made 0 i.serials.live (contents rs) k n c.in-Some.ensures.rises c.in-Some.ensures.found inner in
    let seen = ap (λ (s : Paged g.row.P.Denot). length_at n s.live) c.self.view_is in
    let l = ap (λ (ws : List ℕ). length ws) words in
    let room : length (content_of x) < 4294967296 = omega (arith, c.requires) in
    let first = length-numbers_of r in
    let last = length-numbers_of x ∙ ap pages_for longer in
    let grows = pages_for-le (length (content_of r)) (length c.args.words.now) in
    let used : x.used < 2 ^ 32 = (let a = length-content x in omega arith) in
    paged_set i.serials rs i.held (i.held + (c.pages.result - c.pages-before.result)) (h i.pages) d k r x c.self.invariant place inside is used c.in_default-append.ensures.moved (omega (arith, c.pages.ensures, c.pages-before.ensures))

pub returns-clause-written : goal.returns-clause-written
returns-clause-written g c =
    let i = c.self.inside in
    let h = g.P.Pages.holding in
    let rs = i.regions.items in
    let n = c.args.serial in
    let k = c.in-Some.place in
    let r = c.index_mut-region.result.now in
    let is = c.index_mut-region.ensures.value in
    let place = slice_get_within i.serials.live k n c.in-Some.ensures.found in
    let inside : k < length rs = omega (arith, place, c.self.invariant.paired) in
    let inner : k < length (contents rs) = omega (arith, length-contents rs) in
    let words = contents-at rs k r inside is in
    let short = short_at i.serials rs i.held (h i.pages) k r c.self.invariant inside is in
    let there : words_at n (live_of i.serials.live (contents rs)) ≡ Some (content_of r) = words_at-place i.serials.made 0 i.serials.live (contents rs) k n c.in-Some.ensures.rises c.in-Some.ensures.found inner ∙ ap Some words in
    let x = c.append.new.self in
    let d = h c.append.new.pool in
    let longer : length (content_of x) ≡ length (content_of r) + length c.args.words.now = ap (λ (ws : List ℕ). length ws) c.in_default-append.ensures.ok ∙ length-append (content_of r) c.args.words.now in
    let long = length_at-place i.serials.made 0 i.serials.live (contents rs) k n c.in-Some.ensures.rises c.in-Some.ensures.found inner in
    let seen = ap (λ (s : Paged g.row.P.Denot). length_at n s.live) c.self.view_is in
    let l = ap (λ (ws : List ℕ). length ws) words in
    let room : length (content_of x) < 4294967296 = omega (arith, c.requires) in
    let first = length-numbers_of r in
    let last = length-numbers_of x ∙ ap pages_for longer in
    let grows = pages_for-le (length (content_of r)) (length c.args.words.now) in
    let live = live_of i.serials.live (contents rs) in
    let ws = c.args.words.now in
    let mine : live_of i.serials.live (contents (set rs k x)) ≡ appended n ws live =
    ap (live_of i.serials.live) (contents-set rs k x ∙ ap (set (contents rs) k) (c.in_default-append.ensures.ok ∙ ap (λ (us : List ℕ). us ++ ws) (sym words)))
    ∙ sym (changed-place i.serials.made 0 i.serials.live (contents rs) k n (λ us. us ++ ws) c.in-Some.ensures.rises c.in-Some.ensures.found inner) in
    let more : more_pages r ws ≡ more_for (content_of r) ws = ap (λ u. pages_for (u + length ws) - pages_for u) (sym (length-content r)) in
    let peak = subst (λ m. PeakWithin (h i.pages) m d) more c.in_default-append.ensures.peak in
    let pointer = n * 4294967296 + c.used-offset.result in
    let at : pointer ≡ n * 2 ^ 32 + length_at n live = ap (λ m. n * 4294967296 + m) (c.used-offset.ensures ∙ sym l ∙ sym long) in
    subst (λ (s : Paged g.row.P.Denot). Writes (paged_state (h s.pages) s.made s.live) n ws pointer (paged_state d i.serials.made (live_of i.serials.live (contents (set rs k x))))) c.self.view_is
    (subst (λ (q : List LiveRegion). Writes (paged_state (h i.pages) i.serials.made live) n ws pointer (paged_state d i.serials.made q)) (sym mine)
    (wrote (h i.pages) d i.serials.made live n ws (content_of r) (numbers_of r) (numbers_of x) pointer there at c.in_default-append.ensures.moved (omega arith) peak (c.in_default-append.ensures.unmet (λ e. cc))))

pub returns-clause-dead : goal.returns-clause-dead
returns-clause-dead g c =
    let i = c.self.inside in
    let h = g.P.Pages.holding in
    let rs = i.regions.items in
    let n = c.args.serial in
    let k = c.in-Some.place in
    let r = c.index_mut-region.result.now in
    let is = c.index_mut-region.ensures.value in
    let place = slice_get_within i.serials.live k n c.in-Some.ensures.found in
    let inside : k < length rs = omega (arith, place, c.self.invariant.paired) in
    let inner : k < length (contents rs) = omega (arith, length-contents rs) in
    let words = contents-at rs k r inside is in
    let short = short_at i.serials rs i.held (h i.pages) k r c.self.invariant inside is in
    let there : words_at n (live_of i.serials.live (contents rs)) ≡ Some (content_of r) = words_at-place i.serials.made 0 i.serials.live (contents rs) k n c.in-Some.ensures.rises c.in-Some.ensures.found inner ∙ ap Some words in
    (λ e. cc, λ e. absurd (not_none (words_at n c.args.self.now.live) (content_of r) (ap (λ (s : Paged g.row.P.Denot). words_at n s.live) (sym c.self.view_is) ∙ there) e))
