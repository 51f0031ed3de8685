use Rattle.std.proofs.Common.{◌∙◌, length, sym, ap, arith}
use Rattle.std.specs.Prelude.{Some, None}
use Rattle.std.specs.declared.alloc.Global.{Global}
use Rattle.std.specs.declared.vec.Vec.{Vec}
use Rattle.atomic_table.specs.Table.{rest}
use Rattle.page_pool.specs.Views.{Seated}
use Rattle.page_pool.specs.declared.page.Page.{Page}
use Rattle.page_pool.specs.declared.view.View.{View}
use Rattle.page_pool.proofs.Shared.{out_with}
use Rattle.page_pool.proofs.Passes.{found_list, same_list, no_list, entered_view}
use Rattle.page_pool.proofs.pool.Pool.enter.Goals as goal

pub exchange-requires : goal.exchange-requires
exchange-requires g c =
    let found = c.wait.ensures.turn.1 in (
      c.wait.ensures.table ∙ c.draw-ticket.ensures.table.0 ∙ c.requires.table,
      (Some c.wait.ensures.turn.0, found.slots ∙ ap (out_with (Some c.wait.ensures.turn.0)) (sym (ap rest found.slots))),
    )

pub unreachable-requires : goal.unreachable-requires
unreachable-requires g c =
    let found = c.wait.ensures.turn.1 in
    no_list c.exchange.result c.wait.ensures.turn.0 (found_list c.wait.new.seat.me.1 _ _ c.wait.ensures.turn.0 c.exchange.result found.slots c.exchange.ensures.2) c.in-None.is

pub returns-clause-view : goal.returns-clause-view
returns-clause-view g c =
    let y = c.wait.ensures.turn.0 in
    let found = c.wait.ensures.turn.1 in
    let drawn = c.draw-ticket.ensures.ticket in
    let same = same_list c.in-Some.free y (sym c.in-Some.is ∙ found_list c.wait.new.seat.me.1 _ _ y c.exchange.result found.slots c.exchange.ensures.2) in
    (drawn.0, ap (λ (m : Seated). m.0) c.exchange.ensures.3 ∙ entered_view c.args.seat.now.me.0 c.draw-ticket.new.seat.me.0 c.wait.new.seat.me.0 drawn.0 y c.in-Some.free drawn.2 found.view same)

pub returns-clause-slot : goal.returns-clause-slot
returns-clause-slot g c =
    let found = c.wait.ensures.turn.1 in
    ap (λ (m : Seated). m.1) c.exchange.ensures.3 ∙ ap (out_with None) (ap rest found.slots ∙ c.draw-ticket.ensures.table.1 ∙ c.requires.rests.3)

pub returns-clause-fits : goal.returns-clause-fits
returns-clause-fits g c =
    let y = c.wait.ensures.turn.0 in
    let found = c.wait.ensures.turn.1 in
    let drawn = c.draw-ticket.ensures.ticket in
    let same = same_list c.in-Some.free y (sym c.in-Some.is ∙ found_list c.wait.new.seat.me.1 _ _ y c.exchange.result found.slots c.exchange.ensures.2) in
    let long = ap (λ (z : Vec Page Global). length z.items) same in
    let pages = ap (λ (v : View). length v.pages) drawn.2 in
    let made = ap (λ (v : View). v.made) drawn.2 in
    omega (arith, long, pages, made, found.fits)

pub returns-clause-room : goal.returns-clause-room
returns-clause-room g c =
    let y = c.wait.ensures.turn.0 in
    let found = c.wait.ensures.turn.1 in
    let drawn = c.draw-ticket.ensures.ticket in
    let same = same_list c.in-Some.free y (sym c.in-Some.is ∙ found_list c.wait.new.seat.me.1 _ _ y c.exchange.result found.slots c.exchange.ensures.2) in
    let cap = ap (λ (z : Vec Page Global). Rattle.std.specs.Prelude.vec_capacity z) same in
    let made = ap (λ (v : View). v.made) drawn.2 in
    omega (arith, cap, made, found.room)
