use Rattle.std.proofs.Common.{◌++◌, ap, ◌∙◌}
use Rattle.hm_scope.proofs.Declarations.{sees-abbreviations}
use Rattle.hm_scope.proofs.search.Search.abbreviation_group.Goals as goal

pub returns : goal.returns
returns c = sees-abbreviations c.args.binds.now c.args.self.now c.abbreviations.new.self c.add_types.new.self c.abbreviations.ensures
    (c.in_ok-add_types.ensures.types ∙ ap (λ z. z ++ c.abbreviations.new.self.names.types) (c.as_slice.ensures.value ∙ c.in_ok-names.ensures)) c.in_ok-add_types.ensures.values c.in_ok-add_types.ensures.first
