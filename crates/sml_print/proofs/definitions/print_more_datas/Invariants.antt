use Rattle.std.proofs.Common.{◌≡◌, ◌++◌, take}
use Rattle.std.specs.Prelude.{codes}
use Rattle.print_laws.specs.Printing.{behind_mark, data_forms}
use Rattle.sml_print.proofs.definitions.print_more_datas.Given as goal

abbrev pub invariant-loop-one : goal.invariant-loop-one
invariant-loop-one l = l.forms ≡ l.fn.forms ++ behind_mark (codes "and") data_forms (take l.one-index l.all)
