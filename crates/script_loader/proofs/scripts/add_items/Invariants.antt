use Rattle.std.proofs.Common.{◌≡◌, ◌++◌, take}
use Rattle.script_loader.proofs.scripts.add_items.Given as goal

abbrev pub invariant-loop-dec : goal.invariant-loop-dec
invariant-loop-dec l = l.decs.items ≡ l.initial.decs.items ++ take l.dec-index l.dec-items
