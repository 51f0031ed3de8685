use Rattle.std.proofs.Common.{◌++◌, ap, ◌∙◌}
use Rattle.typing_rules.specs.Scope.{as_constructors}
use Rattle.hm_scope.proofs.Declarations.{sees-datatypes}
use Rattle.hm_scope.proofs.search.Search.datatype_group.Goals as goal

pub returns : goal.returns
returns c = sees-datatypes c.args.binds.now c.args.self.now c.add_types.new.self c.datatypes.new.self c.add_values.new.self
    (c.in_ok-add_types.ensures.types ∙ ap (λ z. z ++ c.args.self.now.names.types) (c.as_slice.ensures.value ∙ c.in_ok-types.ensures)) c.in_ok-add_types.ensures.values c.in_ok-add_types.ensures.first
    c.datatypes.ensures
    (c.in_ok-add_values.ensures.values ∙ ap (λ z. as_constructors z ++ c.datatypes.new.self.names.values) (c.as_slice-2.ensures.value ∙ c.in_ok-names.ensures)) c.in_ok-add_values.ensures.types c.in_ok-add_values.ensures.first
