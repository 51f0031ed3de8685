use Rattle.std.proofs.Common.{◌≡◌, ◌++◌, take, ℕ, List}
use Rattle.typing_rules.specs.Scope.{BindsAll}
use Rattle.hm_scope.proofs.search.Search.+bound.Given as goal

abbrev pub invariant-bound_all-loop-p : goal.invariant-bound_all-loop-p
invariant-bound_all-loop-p l = (more : List (List ℕ)) × BindsAll l.self.names (take l.p-index l.ps) more × (l.names.items ≡ l.fn.names.items ++ more)
