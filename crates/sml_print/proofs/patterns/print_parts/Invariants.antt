use Rattle.std.proofs.Common.{◌≡◌, ◌++◌, take}
use Rattle.std.specs.Prelude.{flat_map}
use Rattle.print_laws.specs.Printing.{put_pat}
use Rattle.sml_print.proofs.patterns.print_parts.Given as goal

abbrev pub invariant-loop-pat : goal.invariant-loop-pat
invariant-loop-pat l = l.forms ≡ l.fn.forms ++ flat_map (put_pat 3) (take l.pat-index l.pat-items)
