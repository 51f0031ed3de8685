use Rattle.std.proofs.Common.{◌++◌, ap, ◌∙◌}
use Rattle.typing_rules.specs.Scope.{as_constructors, first_parts}
use Rattle.hm_scope.proofs.Declarations.{sees-exceptions}
use Rattle.hm_scope.proofs.search.Search.exceptions.Goals as goal

pub returns : goal.returns
returns c = sees-exceptions c.args.binds.now c.args.self.now c.constructors.new.self c.add_values.new.self c.constructors.ensures
    (c.in_ok-add_values.ensures.values ∙ ap (λ z. as_constructors z ++ c.constructors.new.self.names.values) (c.as_slice.ensures.value ∙ c.in_ok-push_constructors.ensures ∙ ap (λ z. z ++ first_parts c.args.binds.now) c.new-names.ensures.items))
    c.in_ok-add_values.ensures.types c.in_ok-add_values.ensures.first
