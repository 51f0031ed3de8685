use Rattle.std.proofs.Common.{drop}
use Rattle.script_loader.specs.Lists.{SoFar}
use Rattle.script_loader.specs.Front.{IsTyped}
use Rattle.script_loader.proofs.typing.type_programs.Given as goal

abbrev pub invariant-loop-script : goal.invariant-loop-script
invariant-loop-script l = SoFar IsTyped l.scripts (drop l.script-index l.scripts) l.typed.items
