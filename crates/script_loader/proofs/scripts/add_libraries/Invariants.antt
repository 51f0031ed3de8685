use Rattle.std.proofs.Common.{◌≡◌, ◌++◌, drop}
use Rattle.sml_evaluation.specs.Page.{all_decs}
use Rattle.script_loader.specs.Places.{of_libraries}
use Rattle.script_loader.proofs.scripts.add_libraries.Given as goal

abbrev pub invariant-loop-i : goal.invariant-loop-i
invariant-loop-i l = l.decs.items ++ all_decs (of_libraries (drop l.i l.files) (drop l.i l.trees)) ≡ l.initial.decs.items ++ all_decs (of_libraries l.files l.trees)
