use Rattle.std.proofs.Common.{◌≡◌, take}
use Rattle.typing_rules.specs.Scope.{datatype_names}
use Rattle.hm_scope.proofs.declaration.datatype_names.Given as goal

abbrev pub invariant-loop-bind : goal.invariant-loop-bind
invariant-loop-bind l = l.names.items ≡ datatype_names (take l.bind-index l.binds)
