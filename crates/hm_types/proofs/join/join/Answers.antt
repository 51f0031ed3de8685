use Rattle.std.proofs.Common.{◌∷◌, [], ◌++◌, subst, sym, ap, ◌∙◌, Err}
use Rattle.std.proofs.lemmas.Result.{err_from_is_err_and}
use Rattle.hm_types.specs.Joining.{Steps, Frame}
use Rattle.hm_types.proofs.Members.{frame-same, frame-on, err-over}
use Rattle.hm_types.proofs.Steps.{in-one, taken-last, go-on, none-go-on, steps-start}
use Rattle.hm_types.proofs.join.join.Goals as goal

pub loop-x-init : goal.loop-x-init
loop-x-init c = (
  subst (λ z. Steps c.args.parts.now c.args.nodes.now ((c.args.a, c.args.b) ∷ []) c.args.nodes.now z) (sym (c.in_ok-push.ensures.items ∙ ap (λ z. z ++ (c.args.a, c.args.b) ∷ []) c.new-work.ensures.items))
      (steps-start c.args.parts.now c.args.nodes.now ((c.args.a, c.args.b) ∷ []) c.requires.fine (in-one _ _ _ c.requires.first c.requires.second)),
  subst (Frame c.args.nodes.now c.args.nodes.now []) (sym c.new-changed.ensures.items) (frame-same c.args.nodes.now []),
)

pub equate-requires-clause-first : goal.equate-requires-clause-first
equate-requires-clause-first c = (taken-last _ _ _ _ _ _ (c.in-Some.x, c.in-Some.y) c.in-Some.ensures.items c.loop-x.invariant.0).0

pub equate-requires-clause-second : goal.equate-requires-clause-second
equate-requires-clause-second c = (taken-last _ _ _ _ _ _ (c.in-Some.x, c.in-Some.y) c.in-Some.ensures.items c.loop-x.invariant.0).1

pub equate-requires-clause-work : goal.equate-requires-clause-work
equate-requires-clause-work c = (taken-last _ _ _ _ _ _ (c.in-Some.x, c.in-Some.y) c.in-Some.ensures.items c.loop-x.invariant.0).2

pub loop-x-preserved : goal.loop-x-preserved
loop-x-preserved c = (go-on _ _ _ _ _ _ _ _ (c.in-Some.x, c.in-Some.y) c.in-Some.ensures.items c.loop-x.invariant.0 c.in_ok-equate.ensures.steps, frame-on _ _ _ _ _ _ c.loop-x.invariant.0.same_length c.loop-x.invariant.1 c.in_ok-equate.ensures.frame)

pub returns-in_err-equate-clause-none : goal.returns-in_err-equate-clause-none
returns-in_err-equate-clause-none c e =
    let w = err_from_is_err_and c.from_residual-in_err-equate.result c.from_residual-in_err-equate.ensures.1 in
    none-go-on c.args.parts.now c.args.nodes.now c.loop-x.nodes ((c.args.a, c.args.b) ∷ []) c.loop-x.work.items c.pop.new.self.items (c.in-Some.x, c.in-Some.y) c.in-Some.ensures.items c.loop-x.invariant.0 (c.in_err-equate.ensures.none (sym (ap (λ z. Err z) (w.2)) ∙ err-over _ _ (sym (w.1) ∙ e)))
