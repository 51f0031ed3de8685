use Rattle.std.proofs.Common.{◌≡◌, ◌++◌, take}
use Rattle.typing_rules.specs.Scope.{first_parts}
use Rattle.hm_scope.proofs.declaration.push_constructors.Given as goal

abbrev pub invariant-loop-constructor : goal.invariant-loop-constructor
invariant-loop-constructor l = l.names.items ≡ l.fn.names.items ++ first_parts (take l.constructor-index l.constructors)
