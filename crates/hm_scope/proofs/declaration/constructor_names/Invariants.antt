use Rattle.std.proofs.Common.{◌≡◌, take}
use Rattle.typing_rules.specs.Scope.{constructor_names}
use Rattle.hm_scope.proofs.declaration.constructor_names.Given as goal

abbrev pub invariant-loop-bind : goal.invariant-loop-bind
invariant-loop-bind l = l.names.items ≡ constructor_names (take l.bind-index l.binds)
