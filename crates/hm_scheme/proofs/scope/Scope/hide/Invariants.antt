use Rattle.std.proofs.Common.{◌≡◌, ◌++◌, take}
use Rattle.hm_scheme.specs.Bindings.{shown}
use Rattle.hm_scheme.proofs.scope.Scope.hide.Given as goal

abbrev pub invariant-loop-bound : goal.invariant-loop-bound
invariant-loop-bound l = l.self ≡ l.initial.self ++ shown (take l.bound-index l.bound-items)
