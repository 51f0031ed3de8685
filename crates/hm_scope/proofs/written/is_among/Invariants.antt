use Rattle.std.proofs.Common.{◌≡◌, drop}
use Rattle.typing_rules.specs.Scope.{has_name}
use Rattle.hm_scope.proofs.written.is_among.Given as goal

abbrev pub invariant-loop-other : goal.invariant-loop-other
invariant-loop-other l = has_name l.name l.names ≡ has_name l.name (drop l.other-index l.names)
