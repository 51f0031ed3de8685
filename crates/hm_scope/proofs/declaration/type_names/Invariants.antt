use Rattle.std.proofs.Common.{◌≡◌, take}
use Rattle.typing_rules.specs.Scope.{type_names}
use Rattle.hm_scope.proofs.declaration.type_names.Given as goal

abbrev pub invariant-loop-bind : goal.invariant-loop-bind
invariant-loop-bind l = l.names.items ≡ type_names (take l.bind-index l.binds)
