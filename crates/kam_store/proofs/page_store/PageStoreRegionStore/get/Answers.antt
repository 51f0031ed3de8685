use Rattle.std.proofs.Common.{◌≡◌, ◌<◌, ◌≤◌, ◌+◌, ◌/◌, ◌%◌, ◌^◌, List, [], ℕ, Some, length, get_or, refl, ap, sym, ◌∙◌, arith}
use Rattle.std.proofs.lemmas.Option.{slice_get_within}
use Rattle.std.specs.Prelude.{slice_get}
use Rattle.kam_store.specs.Store.{words_at, word_in}
use Rattle.kam_store.specs.Paged.{Paged}
use Rattle.kam_store.specs.PagedKept.{contents}
use Rattle.kam_store.specs.Paging.{content_of}
use Rattle.kam_store.proofs.Account.{length-content}
use Rattle.kam_store.proofs.Live.{found_word, no_word, absent_word}
use Rattle.kam_store.proofs.Paged.{contents-at, length-contents, short_at}
use Rattle.kam_store.proofs.page_store.PageStoreRegionStore.get.Goals as goal

pub returns-in_default : goal.returns-in_default
returns-in_default g c =
    let i = c.self.inside in
    let n = c.args.pointer / 2 ^ 32 in
    let at = c.args.pointer % 2 ^ 32 + c.args.field in
    sym (absent_word i.serials.live (contents i.regions.items) n at (c.in_default.ensures.none refl))
    ∙ ap (λ (s : Paged g.row.P.Denot). word_in (words_at n s.live) at) c.self.view_is

pub index-region-requires : goal.index-region-requires
index-region-requires g c =
    let i = c.self.inside in
    omega (arith, slice_get_within i.serials.live c.in-Some.place (c.args.pointer / 2 ^ 32) c.in-Some.ensures.found, c.self.invariant.paired, i.regions.ok.0)

pub returns-then-at-used : goal.returns-then-at-used
returns-then-at-used g c =
    let i = c.self.inside in
    let rs = i.regions.items in
    let n = c.args.pointer / 2 ^ 32 in
    let at = c.args.pointer % 2 ^ 32 + c.args.field in
    let k = c.in-Some.place in
    let r = c.index-region.result.now in
    let place = slice_get_within i.serials.live k n c.in-Some.ensures.found in
    let inside : k < length rs = omega (arith, place, c.self.invariant.paired) in
    let words = contents-at rs k r inside c.index-region.ensures in
    let past : length (get_or (contents rs) k []) ≤ at = (let l = ap (λ (ws : List ℕ). length ws) words in omega arith) in
    sym (no_word i.serials.made 0 i.serials.live (contents rs) k n at c.in-Some.ensures.rises c.in-Some.ensures.found (omega (arith, length-contents rs)) past)
    ∙ ap (λ (s : Paged g.row.P.Denot). word_in (words_at n s.live) at) c.self.view_is

pub returns : goal.returns
returns g c =
    let i = c.self.inside in
    let rs = i.regions.items in
    let n = c.args.pointer / 2 ^ 32 in
    let at = c.args.pointer % 2 ^ 32 + c.args.field in
    let k = c.in-Some.place in
    let r = c.index-region.result.now in
    let place = slice_get_within i.serials.live k n c.in-Some.ensures.found in
    let inside : k < length rs = omega (arith, place, c.self.invariant.paired) in
    let words = contents-at rs k r inside c.index-region.ensures in
    let short = short_at i.serials rs i.held (g.P.Pages.holding i.pages) k r c.self.invariant inside c.index-region.ensures in
    let same : at ≡ c.saturating_add-at.result = (let l = length-content r in omega arith) in
    let read : slice_get (get_or (contents rs) k []) at ≡ Some c.word.result = ap (λ (ws : List ℕ). slice_get ws at) words ∙ ap (slice_get (content_of r)) same ∙ c.word.ensures in
    sym (found_word i.serials.made 0 i.serials.live (contents rs) k n at c.word.result c.in-Some.ensures.rises c.in-Some.ensures.found (omega (arith, length-contents rs)) read)
    ∙ ap (λ (s : Paged g.row.P.Denot). word_in (words_at n s.live) at) c.self.view_is
