use Rattle.std.proofs.Common.{◌∙◌, ◌%◌, ◌^◌, sym, ap, subst}
use Rattle.std.specs.declared.alloc.Global.{Global}
use Rattle.std.specs.declared.vec.Vec.{Vec}
use Rattle.page_pool.specs.Views.{Seated}
use Rattle.page_pool.specs.Sharing.{HasList}
use Rattle.page_pool.specs.declared.page.Page.{Page}
use Rattle.page_pool.proofs.pool.Pool.wait.Goals as goal

pub returns-then-see-ticket-clause-turn : goal.returns-then-see-ticket-clause-turn
returns-then-see-ticket-clause-turn g c =
    let same = c.loop.invariant.me in
    let is = c.if-see-ticket.true ∙ c.requires.ticket ∙ ap (λ (m : Seated). m.0.ticket % 2 ^ 64) (sym same) in
    subst (λ (m : Seated). (y : Vec Page Global) × HasList m y c.see.new.seat.me) same (c.see.ensures.turn is)
