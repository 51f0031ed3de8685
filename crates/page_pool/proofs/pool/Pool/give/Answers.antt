use Rattle.std.proofs.Common.{◌∙◌, ℕ, List, [], ◌∷◌, ◌++◌, sym, ap, arith}
use Rattle.page_pool.specs.Holding.{times}
use Rattle.page_pool.specs.PageWords.{number_of, numbers}
use Rattle.page_pool.specs.Views.{gave, last_of}
use Rattle.page_pool.specs.declared.view.View.{View}
use Rattle.page_pool.proofs.Lone.{numbers-push}
use Rattle.page_pool.proofs.Passes.{gives_state}
use Rattle.page_pool.proofs.pool.Pool.give.Goals as goal

pub end_giving-requires-clause-turn : goal.end_giving-requires-clause-turn
end_giving-requires-clause-turn g c = (ap (λ (z : View). z.turn) c.enter-free.ensures.view.1, c.enter-free.ensures.slot)

pub end_giving-requires-clause-more : goal.end_giving-requires-clause-more
end_giving-requires-clause-more g c =
    let e = c.enter-free.ensures.view.1 in (
      number_of c.args.page,
      ap numbers c.push_reserved.ensures.items ∙ numbers-push c.enter-free.result.items c.args.page ∙ ap (λ (ns : List ℕ). ns ++ number_of c.args.page ∷ []) (sym (ap (λ (z : View). z.found) e)),
      let pages = ap (λ (z : View). times (number_of c.args.page) z.pages) e in omega (arith, pages, c.requires.held),
    )

pub end_giving-requires-clause-room : goal.end_giving-requires-clause-room
end_giving-requires-clause-room g c = let made = ap (λ (z : View). z.made) c.enter-free.ensures.view.1 in omega (arith, made, c.enter-free.ensures.room, c.push_reserved.ensures.capacity)

pub returns : goal.returns
returns g c =
    let v = c.args.pass.now.seat.me.0 in
    let e = c.enter-free.ensures.view in
    gives_state c.args.pass.now.seat.table_id c.end_giving.new.seat.table_id v c.end_giving.new.seat.me.0 e.0 (numbers c.enter-free.result.items) (numbers c.push_reserved.new.self.items) (number_of c.args.page)
    (c.end_giving.ensures.table ∙ c.enter-free.ensures.table)
    (c.end_giving.ensures.view ∙ ap (gave (last_of (numbers c.push_reserved.new.self.items))) e.1)
    (ap numbers c.push_reserved.ensures.items ∙ numbers-push c.enter-free.result.items c.args.page)
