use Rattle.std.proofs.Common.{◌≡◌, ◌++◌, ◌∷◌, [], take}
use Rattle.std.specs.Prelude.{flat_map}
use Rattle.print_laws.specs.Printing.{dec_forms}
use Rattle.print_laws.specs.Spelled.{spelled}
use Rattle.sml_print.proofs.print_program.Given as goal

abbrev pub invariant-loop-dec : goal.invariant-loop-dec
invariant-loop-dec l = l.out.items ≡ flat_map (λ d. spelled (dec_forms d) ++ 10 ∷ []) (take l.dec-index l.dec-items)
