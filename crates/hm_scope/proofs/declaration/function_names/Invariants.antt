use Rattle.std.proofs.Common.{◌≡◌, take}
use Rattle.typing_rules.specs.Scope.{first_parts}
use Rattle.hm_scope.proofs.declaration.function_names.Given as goal

abbrev pub invariant-loop-bind : goal.invariant-loop-bind
invariant-loop-bind l = l.names.items ≡ first_parts (take l.bind-index l.binds)
