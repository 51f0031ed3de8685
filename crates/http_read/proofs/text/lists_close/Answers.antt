use Rattle.std.proofs.Common.{sym, ap, ◌∙◌}
use Rattle.http_read.specs.Head.{lists_close}
use Rattle.http_read.proofs.Lists.{close_here, close_nowhere, close_later}
use Rattle.http_read.proofs.text.lists_close.Goals as goal

pub returns-then-is_close : goal.returns-then-is_close
returns-then-is_close c =
    sym (close_here c.loop-rest.rest.now c.place_of-end.result c.place_of-end.ensures.place c.place_of-end.ensures.within (sym c.is_close.ensures ∙ c.if-is_close.true)) ∙ c.loop-rest.invariant

pub returns-in-None : goal.returns-in-None
returns-in-None c =
    sym (close_nowhere c.loop-rest.rest.now c.place_of-end.result c.place_of-end.ensures.place c.in-None.ensures.none (sym c.is_close.ensures ∙ c.if-is_close.false)) ∙ c.loop-rest.invariant

pub loop-rest-preserved : goal.loop-rest-preserved
loop-rest-preserved c =
    ap lists_close c.in-Some.ensures.some.1 ∙ close_later c.loop-rest.rest.now c.place_of-end.result c.place_of-end.ensures.place c.in-Some.ensures.some.0 (sym c.is_close.ensures ∙ c.if-is_close.false) ∙ c.loop-rest.invariant
