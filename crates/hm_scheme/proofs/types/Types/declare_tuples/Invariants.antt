use Rattle.std.proofs.Common.{◌≡◌, ◌++◌, ◌-◌, ◌≤◌, map, max}
use Rattle.std.specs.List.{range_with_len}
use Rattle.hm_scheme.specs.declared.type_name.TyName.TheVariants.{Tuple}
use Rattle.hm_scheme.proofs.types.Types.declare_tuples.Given as goal

abbrev pub invariant-loop-parts : goal.invariant-loop-parts
invariant-loop-parts l = (l.self.names.items ≡ l.initial.self.names.items ++ map Tuple (range_with_len 2 (l.parts - 1))) × (l.parts ≤ max l.widest 1)
