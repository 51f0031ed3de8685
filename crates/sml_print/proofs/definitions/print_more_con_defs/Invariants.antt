use Rattle.std.proofs.Common.{◌≡◌, ◌++◌, take}
use Rattle.print_laws.specs.Printing.{behind_mark, con_def_forms}
use Rattle.sml_print.proofs.definitions.print_more_con_defs.Given as goal

abbrev pub invariant-loop-one : goal.invariant-loop-one
invariant-loop-one l = l.forms ≡ l.fn.forms ++ behind_mark l.mark con_def_forms (take l.one-index l.all)
