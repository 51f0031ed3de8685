use Rattle.std.proofs.Common.{◌≡◌, ◌∙◌, [], sym, ap, arith}
use Rattle.std.proofs.lemmas.List.{nil_from_length, append-nil}
use Rattle.page_pool.specs.Holding.{times}
use Rattle.page_pool.specs.PageWords.{number_of, numbers}
use Rattle.page_pool.specs.Views.{took, missed, last_of}
use Rattle.page_pool.specs.declared.view.View.{View}
use Rattle.page_pool.proofs.Lone.{numbers-push}
use Rattle.page_pool.proofs.Passes.{takes_state, misses_state}
use Rattle.page_pool.proofs.pool.Pool.take.Goals as goal

pub end_taking-requires-clause-turn : goal.end_taking-requires-clause-turn
end_taking-requires-clause-turn g c = (ap (λ (z : View). z.turn) c.enter-free.ensures.view.1, c.enter-free.ensures.slot)

pub end_taking-requires-clause-left : goal.end_taking-requires-clause-left
end_taking-requires-clause-left g c = (
  number_of c.in-Some.page,
  ap (λ (z : View). z.found) c.enter-free.ensures.view.1 ∙ ap numbers c.in-Some.ensures.items ∙ numbers-push c.pop.new.self.items c.in-Some.page,
)

pub end_taking-requires-clause-room : goal.end_taking-requires-clause-room
end_taking-requires-clause-room g c = let made = ap (λ (z : View). z.made) c.enter-free.ensures.view.1 in omega (arith, made, c.enter-free.ensures.room)

pub end_missing-requires-clause-turn : goal.end_missing-requires-clause-turn
end_missing-requires-clause-turn g c = (ap (λ (z : View). z.turn) c.enter-free.ensures.view.1, c.enter-free.ensures.slot)

pub end_missing-requires-clause-none : goal.end_missing-requires-clause-none
end_missing-requires-clause-none g c =
    let all = c.enter-free.result.items in
    let none : all ≡ [] = nil_from_length all (omega (arith, c.in-None.ensures.cases.0, c.enter-free.result.ok.0)) in
    (ap (λ (z : View). z.found) c.enter-free.ensures.view.1 ∙ ap numbers none, sym (append-nil c.pop.new.self.items) ∙ sym c.in-None.ensures.items ∙ none)

pub end_missing-requires-clause-room : goal.end_missing-requires-clause-room
end_missing-requires-clause-room g c = let made = ap (λ (z : View). z.made) c.enter-free.ensures.view.1 in omega (arith, made, c.enter-free.ensures.room)

pub returns-in-Some-clause-taken : goal.returns-in-Some-clause-taken
returns-in-Some-clause-taken g c =
    let v = c.args.pass.now.seat.me.0 in
    let e = c.enter-free.ensures.view in
    takes_state c.args.pass.now.seat.table_id c.end_taking.new.seat.table_id v c.end_taking.new.seat.me.0 e.0 (numbers c.enter-free.result.items) (numbers c.pop.new.self.items) (number_of c.in-Some.page)
    (c.end_taking.ensures.table ∙ c.enter-free.ensures.table)
    (c.end_taking.ensures.view ∙ ap took e.1)
    (ap numbers c.in-Some.ensures.items ∙ numbers-push c.pop.new.self.items c.in-Some.page)
    (ap (λ (z : View). times (last_of z.found) z.pages) (sym e.1) ∙ c.end_taking.ensures.fresh)

pub returns-in-None-clause-dry : goal.returns-in-None-clause-dry
returns-in-None-clause-dry g c =
    let v = c.args.pass.now.seat.me.0 in
    let e = c.enter-free.ensures.view in
    let all = c.enter-free.result.items in
    let none : all ≡ [] = nil_from_length all (omega (arith, c.in-None.ensures.cases.0, c.enter-free.result.ok.0)) in
    misses_state c.args.pass.now.seat.table_id c.end_missing.new.seat.table_id v c.end_missing.new.seat.me.0 e.0 (numbers all)
    (c.end_missing.ensures.table ∙ c.enter-free.ensures.table)
    (c.end_missing.ensures.view ∙ ap missed e.1)
    (ap numbers none)
