use Rattle.std.proofs.Common.{arith, ◌++◌, ◌∷◌, [], reverse, ap, ◌∙◌}
use Rattle.hm_scope.proofs.Scopes.{put-step}
use Rattle.hm_scope.proofs.search.Search.add_values.Goals as goal

pub loop-left-preserved : goal.loop-left-preserved
loop-left-preserved c = (
  ap reverse c.in_ok-push.ensures.items ∙ ap (λ x. reverse (c.loop-left.self-inside.values.items ++ (x, c.args.constructor) ∷ [])) c.in_ok-try_copy.ensures
      ∙ put-step c.args.constructor c.args.names.now c.loop-left.left _ c.index-names-left.result _ c.loop-left.self-inside.values.items c.index-names-left.is c.loop-left-test.true c.loop-left.invariant.3 c.loop-left.invariant.0,
  c.loop-left.invariant.1,
  c.loop-left.invariant.2,
  omega (arith, c.loop-left-test.true, c.loop-left.invariant.3),
)
