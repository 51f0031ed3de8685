use Rattle.std.proofs.Common.{◌≡◌, ◌<◌, ◌≤◌, ◌+◌, ◌/◌, ◌%◌, ◌^◌, ℕ, List, [], length, set, get_or, refl, ap, sym, subst, ◌∙◌, arith}
use Rattle.std.proofs.lemmas.List.{length-set}
use Rattle.std.proofs.lemmas.Option.{slice_get_within, slice_get-get_or}
use Rattle.std.specs.Prelude.{slice_get}
use Rattle.kam_store.specs.Store.{with_word, words_at, word_in, changed}
use Rattle.kam_store.specs.Plain.{live_of}
use Rattle.kam_store.specs.Moves.{MovesPages}
use Rattle.kam_store.specs.Paged.{Paged, paged_state}
use Rattle.kam_store.specs.PagedKept.{contents}
use Rattle.kam_store.specs.Paging.{content_of, numbers_of}
use Rattle.kam_store.proofs.Account.{length-content}
use Rattle.kam_store.proofs.Live.{changed-place, found_word, no_word, absent_word, not_none}
use Rattle.kam_store.proofs.Paged.{contents-at, contents-set, length-contents, short_at, paged_set}
use Rattle.kam_store.proofs.Moves.{moves_none}
use Rattle.kam_store.proofs.Account.{pages_of-set}
use Rattle.kam_store.proofs.Store.{same_base}
use Rattle.kam_store.proofs.page_store.PageStoreRegionStore.set.Goals as goal

pub returns-in_default-clause-dead : goal.returns-in_default-clause-dead
returns-in_default-clause-dead g c =
    let i = c.self.inside in
    let n = c.args.pointer / 2 ^ 32 in
    let at = c.args.pointer % 2 ^ 32 + c.args.field in
    let none = absent_word i.serials.live (contents i.regions.items) n at (c.in_default.ensures.none refl) in
    (λ _. ap (λ (s : Paged g.row.P.Denot). word_in (words_at n s.live) at) (sym c.self.view_is) ∙ none, λ _. refl)

pub index_mut-region-requires : goal.index_mut-region-requires
index_mut-region-requires g c =
    let i = c.self.inside in
    omega (arith, slice_get_within i.serials.live c.in-Some.place (c.args.pointer / 2 ^ 32) c.in-Some.ensures.found, c.self.invariant.paired, i.regions.ok.0)

pub returns-then-used-at-clause-dead : goal.returns-then-used-at-clause-dead
returns-then-used-at-clause-dead g c =
    let i = c.self.inside in
    let h = g.P.Pages.holding in
    let rs = i.regions.items in
    let n = c.args.pointer / 2 ^ 32 in
    let k = c.in-Some.place in
    let r = c.index_mut-region.result.now in
    let is = c.index_mut-region.ensures.value in
    let place = slice_get_within i.serials.live k n c.in-Some.ensures.found in
    let inside : k < length rs = omega (arith, place, c.self.invariant.paired) in
    let inner : k < length (contents rs) = omega (arith, length-contents rs) in
    let words = contents-at rs k r inside is in
    let short = short_at i.serials rs i.held (h i.pages) k r c.self.invariant inside is in
    let at = c.args.pointer % 2 ^ 32 + c.args.field in
    let past : length (get_or (contents rs) k []) ≤ at = (let l = ap (λ (ws : List ℕ). length ws) words in omega arith) in
    let none = no_word i.serials.made 0 i.serials.live (contents rs) k n at c.in-Some.ensures.rises c.in-Some.ensures.found inner past in
    (λ _. ap (λ (s : Paged g.row.P.Denot). word_in (words_at n s.live) at) (sym c.self.view_is) ∙ none, λ _. refl)

pub invariant_of-self-2 : goal.invariant_of-self-2
invariant_of-self-2 g c =
    let i = c.self.inside in
    let h = g.P.Pages.holding in
    let rs = i.regions.items in
    let n = c.args.pointer / 2 ^ 32 in
    let k = c.in-Some.place in
    let r = c.index_mut-region.result.now in
    let is = c.index_mut-region.ensures.value in
    let place = slice_get_within i.serials.live k n c.in-Some.ensures.found in
    let inside : k < length rs = omega (arith, place, c.self.invariant.paired) in
    let inner : k < length (contents rs) = omega (arith, length-contents rs) in
    let words = contents-at rs k r inside is in
    let short = short_at i.serials rs i.held (h i.pages) k r c.self.invariant inside is in
    let x = c.put.new.self in
    let same = ap (λ (ws : List ℕ). length ws) c.put.ensures.content ∙ length-set (content_of r) c.saturating_add-at.result c.args.word in
    let used : x.used < 2 ^ 32 = (let a = length-content x in let b = length-content r in omega arith) in
    let moved = subst (λ (ns : List ℕ). MovesPages (h i.pages) (numbers_of r) (h i.pages) ns) (sym c.put.ensures.numbers) (moves_none (h i.pages) (numbers_of r)) in
    paged_set i.serials rs i.held i.held (h i.pages) (h i.pages) k r x c.self.invariant place inside is used moved (let b = ap (λ (ns : List ℕ). length ns) c.put.ensures.numbers in omega arith)

pub returns-clause-dead : goal.returns-clause-dead
returns-clause-dead g c =
    let i = c.self.inside in
    let h = g.P.Pages.holding in
    let rs = i.regions.items in
    let n = c.args.pointer / 2 ^ 32 in
    let k = c.in-Some.place in
    let r = c.index_mut-region.result.now in
    let is = c.index_mut-region.ensures.value in
    let place = slice_get_within i.serials.live k n c.in-Some.ensures.found in
    let inside : k < length rs = omega (arith, place, c.self.invariant.paired) in
    let inner : k < length (contents rs) = omega (arith, length-contents rs) in
    let words = contents-at rs k r inside is in
    let short = short_at i.serials rs i.held (h i.pages) k r c.self.invariant inside is in
    let at = c.args.pointer % 2 ^ 32 + c.args.field in
    let x = c.put.new.self in
    let here : at ≡ c.saturating_add-at.result = (let l = length-content r in omega arith) in
    let within : at < length (content_of r) = omega arith in
    let read = ap (λ (ws : List ℕ). slice_get ws at) words ∙ slice_get-get_or (content_of r) at 0 within in
    let word = found_word i.serials.made 0 i.serials.live (contents rs) k n at (get_or (content_of r) at 0) c.in-Some.ensures.rises c.in-Some.ensures.found inner read in
    (λ e. cc, λ e. absurd (not_none (word_in (words_at n c.args.self.now.live) at) (get_or (content_of r) at 0) (ap (λ (s : Paged g.row.P.Denot). word_in (words_at n s.live) at) (sym c.self.view_is) ∙ word) e))

pub returns-clause-written : goal.returns-clause-written
returns-clause-written g c =
    let i = c.self.inside in
    let h = g.P.Pages.holding in
    let rs = i.regions.items in
    let n = c.args.pointer / 2 ^ 32 in
    let k = c.in-Some.place in
    let r = c.index_mut-region.result.now in
    let is = c.index_mut-region.ensures.value in
    let place = slice_get_within i.serials.live k n c.in-Some.ensures.found in
    let inside : k < length rs = omega (arith, place, c.self.invariant.paired) in
    let inner : k < length (contents rs) = omega (arith, length-contents rs) in
    let words = contents-at rs k r inside is in
    let short = short_at i.serials rs i.held (h i.pages) k r c.self.invariant inside is in
    let at = c.args.pointer % 2 ^ 32 + c.args.field in
    let x = c.put.new.self in
    let here : at ≡ c.saturating_add-at.result = (let l = length-content r in omega arith) in
    let w = c.args.word in
    let live = live_of i.serials.live (contents rs) in
    let mine : live_of i.serials.live (contents (set rs k x)) ≡ changed n (λ ws. set ws at w) live =
    ap (live_of i.serials.live) (contents-set rs k x ∙ ap (set (contents rs) k) (c.put.ensures.content ∙ ap (λ j. set (content_of r) j w) (sym here) ∙ ap (λ (ws : List ℕ). set ws at w) (sym words)))
    ∙ sym (changed-place i.serials.made 0 i.serials.live (contents rs) k n (λ ws. set ws at w) c.in-Some.ensures.rises c.in-Some.ensures.found inner) in
    ap (paged_state (h i.pages) i.serials.made) mine
    ∙ same_base (h i.pages) i.serials.made live (changed n (λ ws. set ws at w) live) (pages_of-set n at w live)
    ∙ ap (λ (s : Paged g.row.P.Denot). with_word (paged_state (h s.pages) s.made s.live) c.args.pointer c.args.field w) c.self.view_is
