use Rattle.std.proofs.Common.{Err, ap, sym, ◌∙◌}
use Rattle.std.proofs.lemmas.Result.{err_from_is_err_and}
use Rattle.hm_types.proofs.Members.{err-over}
use Rattle.hm_types.proofs.Asking.{young-clash, never-clash, tell-on, tell-met, tell-done}
use Rattle.hm_types.proofs.spread.tell.Goals as goal

pub returns-then-own-named-clause-none : goal.returns-then-own-named-clause-none
returns-then-own-named-clause-none c e = young-clash c.args.names.now c.args.parts.now c.args.nodes.now c.args.asked.now c.args.class c.in-Made.name c.in-Made.first c.in-Made.count c.requires.same c.requires.within c.in-Made.is c.if-own-named.true

pub returns-in_err-more-in-Made-clause-none : goal.returns-in_err-more-in-Made-clause-none
returns-in_err-more-in-Made-clause-none c e =
    let w = err_from_is_err_and c.from_residual.result c.from_residual.ensures.1 in
    never-clash c.args.names.now c.args.parts.now c.args.nodes.now c.args.asked.now c.args.class c.in-Made.name c.in-Made.first c.in-Made.count c.requires.same c.requires.within c.in-Made.is
    (c.in_err-more-in-Made.ensures.none (sym (ap (λ z. Err z) (w.2)) ∙ err-over _ _ (sym (w.1) ∙ e)))

pub loop-i-preserved : goal.loop-i-preserved
loop-i-preserved c = (
  tell-on c.args.names.now c.args.parts.now c.args.nodes.now c.args.asked.now c.loop-i.asked c.ask-in-loop-i.new.asked c.args.work.now.items c.loop-i.work.items c.ask-in-loop-i.new.work.items c.args.class c.in-Made.name c.in-Made.first c.in-Made.count c.loop-i.i c.in_ok-more-in-Made.more
      c.requires.same c.requires.within c.in-Made.is c.in_ok-more-in-Made.ensures.parts c.loop-i-test.true c.loop-i.invariant.0 c.in_ok-ask-in-Made.ensures.told,
  tell-met c.loop-i.asked c.ask-in-loop-i.new.asked _ _ _ _ c.in_ok-more-in-Made.more c.loop-i.i c.in_ok-ask-in-Made.ensures.told c.loop-i.invariant.1 c.in_ok-ask-in-Made.ensures.met,
)

pub returns-after-loop-i-clause-closes : goal.returns-after-loop-i-clause-closes
returns-after-loop-i-clause-closes c =
    tell-done c.args.names.now c.args.parts.now c.loop-i.asked _ c.in_ok-more-in-Made.more c.in-Made.name c.in-Made.first c.in-Made.count c.loop-i.i _ c.in-Made.is c.in_ok-more-in-Made.ensures.parts c.if-own-named.false c.loop-i-test.false c.loop-i.invariant.1
