use Rattle.std.proofs.Common.{◌≡◌, ◌++◌, take}
use Rattle.std.specs.Prelude.{codes}
use Rattle.print_laws.specs.Printing.{behind_mark, pat_forms}
use Rattle.sml_print.proofs.patterns.+printed_patterns.Given as goal

abbrev pub invariant-print_pats-loop-pat : goal.invariant-print_pats-loop-pat
invariant-print_pats-loop-pat l = l.forms ≡ l.initial.forms ++ behind_mark (codes ",") pat_forms (take l.pat-index l.more)
