use Rattle.std.proofs.Common.{◌≡◌, ◌++◌, map}
use Rattle.std.specs.List.{range_with_len}
use Rattle.hm_scheme.specs.declared.type_name.TyName.TheVariants.{Basis}
use Rattle.hm_scheme.proofs.types.Types.declare_basis.Given as goal

abbrev pub invariant-loop-i : goal.invariant-loop-i
invariant-loop-i l = l.self.names.items ≡ l.initial.self.names.items ++ map Basis (range_with_len 0 l.i)
