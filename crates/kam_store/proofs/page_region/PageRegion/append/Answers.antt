use Rattle.std.proofs.Common.{◌≡◌, ◌+◌, List, ◌++◌, length, take, ap, ◌∙◌, arith, ℕ, vec_len}
use Rattle.page_pool.specs.declared.page.Page.{Page}
use Rattle.std.proofs.lemmas.List.{with_items_is}
use Rattle.kam_store.specs.Joined.{joined}
use Rattle.kam_store.proofs.Account.{length-content}
use Rattle.kam_store.proofs.LastPage.{joined_front}
use Rattle.kam_store.proofs.page_region.PageRegion.append.Goals as goal

pub overflow_add-end : goal.overflow_add-end
overflow_add-end g c = omega (arith, length-content c.args.self.now)

pub overflow_add-wanted : goal.overflow_add-wanted
overflow_add-wanted g c = omega (arith, length-content c.args.self.now)

pub returns-clause-ok : goal.returns-clause-ok
returns-clause-ok g c =
    let r = c.args.self.now in
    let n = length c.args.words.now in
    let v = c.make_room.new.pages in
    let ps = c.write.new.pages in
    let same : length ps ≡ v.len = omega (arith, c.write.auto.pages, ap (λ (qs : List Page). length qs) c.as_mut_slice.ensures.value, v.ok.0) in
    ap (λ (qs : List Page). take (r.used + n) (joined qs)) (with_items_is v ps same)
    ∙ c.write.ensures.words
    ∙ ap (λ (qs : List Page). take r.used (joined qs) ++ c.args.words.now) c.as_mut_slice.ensures.value
    ∙ ap (λ (ws : List ℕ). ws ++ c.args.words.now) (joined_front (vec_len r.pages) r.used v.items r.pages.items c.in_ok-make_room.ensures.ok.0 (omega (arith, r.tight, r.pages.ok.0)))

pub write-requires-clause-short : goal.write-requires-clause-short
write-requires-clause-short g c = omega (arith, length-content c.args.self.now, c.requires)
