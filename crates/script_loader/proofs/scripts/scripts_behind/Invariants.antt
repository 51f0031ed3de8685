use Rattle.std.proofs.Common.{◌≡◌, ◌++◌, drop}
use Rattle.script_loader.specs.Behind.{scripts_behind}
use Rattle.script_loader.proofs.scripts.scripts_behind.Given as goal

abbrev pub invariant-loop-i : goal.invariant-loop-i
invariant-loop-i l = l.scripts.items ++ scripts_behind l.base (drop l.i l.files) (drop l.i l.trees) ≡ scripts_behind l.base l.files l.trees
