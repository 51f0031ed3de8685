use Rattle.std.proofs.Common.{◌+◌, Err, ap, sym, ◌∙◌, subst}
use Rattle.std.proofs.lemmas.Result.{err_from_is_err_and}
use Rattle.hm_types.specs.Searching.{Searched}
use Rattle.hm_types.proofs.Members.{err-over}
use Rattle.hm_types.proofs.Settling.{joined-by, none-joined, none-asked, none-finite}
use Rattle.hm_types.proofs.type_table.settle.Goals as goal

pub returns-in_err-changed-clause-none : goal.returns-in_err-changed-clause-none
returns-in_err-changed-clause-none c e =
    let w = err_from_is_err_and c.from_residual.result c.from_residual.ensures.1 in
    none-joined c.args.names.now c.args.parts.now c.args.nodes.now c.args.asked.now c.args.a c.args.b (c.in_err-changed.ensures.none (sym (ap (λ z. Err z) (w.2)) ∙ err-over _ _ (sym (w.1) ∙ e)))

pub returns-in_err-spread-clause-none : goal.returns-in_err-spread-clause-none
returns-in_err-spread-clause-none c e =
    let w = err_from_is_err_and c.from_residual-in_err-spread.result c.from_residual-in_err-spread.ensures.1 in
    none-asked c.args.names.now c.args.parts.now c.args.nodes.now c.join.new.nodes c.args.asked.now c.args.a c.args.b c.in_ok-changed.ensures.steps (c.in_err-spread.ensures.none (sym (ap (λ z. Err z) (w.2)) ∙ sym (w.1) ∙ e))

pub returns-then-branch-clause-joined : goal.returns-then-branch-clause-joined
returns-then-branch-clause-joined c =
    joined-by c.args.names.now c.args.parts.now c.args.nodes.now c.join.new.nodes c.args.asked.now c.spread.new.asked c.is_finite.new.marks c.in_ok-changed.changed.items (c.args.stamp.now + 1) c.is_finite.new.stamp _ c.args.a c.args.b
    c.requires.settled c.requires.parts c.in_ok-changed.ensures.steps c.in_ok-changed.ensures.frame c.in_ok-spread.ensures.spread c.in_ok-is_finite.ensures.stamped
    (subst (λ z. Searched c.args.parts.now c.join.new.nodes c.spread.new.asked c.is_finite.new.marks (c.args.stamp.now + 1) z) c.deref-2.ensures.value (c.in_ok-is_finite.ensures.searched c.if-branch.true))

pub returns-clause-none : goal.returns-clause-none
returns-clause-none c e = none-finite c.args.names.now c.args.parts.now c.args.nodes.now c.join.new.nodes c.args.asked.now c.args.a c.args.b c.in_ok-changed.ensures.steps (c.in_ok-is_finite.ensures.endless c.if-branch.false)
