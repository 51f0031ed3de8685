use Rattle.std.proofs.Common.{◌++◌, ◌∷◌, [], take, sym, ap, ◌∙◌}
use Rattle.std.proofs.lemmas.List.{take_more}
use Rattle.typing_rules.specs.Scope.{constructor_names, first_parts}
use Rattle.hm_scope.proofs.Declarations.{constructors-end}
use Rattle.hm_scope.proofs.declaration.constructor_names.Goals as goal

pub loop-bind-preserved : goal.loop-bind-preserved
loop-bind-preserved c = c.in_ok-push_constructors.ensures ∙ ap (λ z. z ++ first_parts c.as_slice.result.now) c.loop-bind.invariant ∙ ap (λ z. constructor_names (take c.loop-bind.bind-index c.args.binds.now) ++ first_parts z) c.as_slice.ensures
    ∙ sym (constructors-end (take c.loop-bind.bind-index c.args.binds.now) c.bind-item.result) ∙ ap (λ y. constructor_names (take c.loop-bind.bind-index c.args.binds.now ++ y ∷ [])) c.bind-item.is
    ∙ ap constructor_names (sym (take_more c.args.binds.now c.loop-bind.bind-index _ c.loop-bind-test.true))
