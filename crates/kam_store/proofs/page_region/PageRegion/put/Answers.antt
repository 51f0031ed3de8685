use Rattle.std.proofs.Common.{◌≡◌, ◌<◌, List, length, take, set, ap, ◌∙◌, arith}
use Rattle.std.proofs.lemmas.List.{with_items_is}
use Rattle.page_pool.specs.declared.page.Page.{Page}
use Rattle.kam_store.specs.Joined.{joined}
use Rattle.kam_store.proofs.Account.{length-content}
use Rattle.kam_store.proofs.Joined.{take-set-lt}
use Rattle.kam_store.proofs.page_region.PageRegion.put.Goals as goal

pub returns-clause-content : goal.returns-clause-content
returns-clause-content c =
    let r = c.args.self.now in
    let inside : c.args.at < r.used = omega (arith, length-content r) in
    let v = r.pages in
    let same : length c.put_word.new.pages ≡ v.len = omega (arith, c.put_word.auto.pages, ap (λ (ps : List Page). length ps) c.as_mut_slice.ensures.value, v.ok.0) in
    ap (λ (ps : List Page). take r.used (joined ps)) (with_items_is v c.put_word.new.pages same)
    ∙ ap (take r.used) (c.put_word.ensures.words ∙ ap (λ (ps : List Page). set (joined ps) c.args.at c.args.word) c.as_mut_slice.ensures.value)
    ∙ take-set-lt (joined v.items) r.used c.args.at c.args.word inside
