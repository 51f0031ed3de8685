use Rattle.std.proofs.Common.{ℕ, List, subst, sym}
use Rattle.page_pool.specs.PageWords.{number_of}
use Rattle.kam_store.specs.Joined.{numbers}
use Rattle.kam_store.specs.Moves.{MovesPages}
use Rattle.kam_store.proofs.LastPage.{numbers_popped}
use Rattle.kam_store.proofs.Moves.{moves_none, moves_take}
use Rattle.kam_store.proofs.paging.add_page.Goals as goal

pub returns-in-Ok-clause-moved : goal.returns-in-Ok-clause-moved
returns-in-Ok-clause-moved g c =
    let h = g.P.Pages.holding in
    let all = c.push.new.self.items in
    let old = c.args.pages.now.items in
    let p = c.in-Some.page in
    subst (λ (ns : List ℕ). MovesPages (h c.args.pool.now) (numbers old) (h c.take.new.self) ns) (sym (numbers_popped all old p c.in-Ok.ensures.items))
    (moves_take (h c.args.pool.now) (numbers old) (h c.args.pool.now) (numbers old) (number_of p) (h c.take.new.self) (moves_none (h c.args.pool.now) (numbers old)) c.in-Some.ensures.taken)
