use Rattle.std.proofs.Common.{◌≡◌, ◌+◌, ◌*◌, ◌/◌, ◌%◌, ◌<◌, Some, sym, ap, ◌∙◌, arith}
use Rattle.std.proofs.lemmas.Nat.{div-add-mod'}
use Rattle.std.specs.Prelude.{slice_get}
use Rattle.page_pool.specs.declared.page.Page.{Page}
use Rattle.page_pool.specs.PageWords.{words_of}
use Rattle.kam_store.specs.Joined.{joined}
use Rattle.kam_store.proofs.Account.{length-content}
use Rattle.kam_store.proofs.Joined.{get-joined, get-take}
use Rattle.kam_store.proofs.page_region.PageRegion.word.Goals as goal

pub returns : goal.returns
returns c =
    let r = c.args.self.now in
    let inside : c.args.at < r.used = omega (arith, length-content r) in
    let pages = r.pages.items in
    let row : slice_get (joined pages) (c.args.at / 128 * 128 + c.args.at % 128) ≡ Some c.word.result =
    get-joined pages (c.args.at / 128) (c.args.at % 128) c.word.result c.index.result.now (omega (arith, r.tight, r.pages.ok.0)) (omega arith) (ap (λ (p : Page). slice_get (words_of p) (c.args.at % 128)) (sym c.index.ensures) ∙ c.word.ensures) in
    get-take (joined pages) r.used c.args.at inside ∙ ap (slice_get (joined pages)) (sym (div-add-mod' c.args.at 128)) ∙ row
