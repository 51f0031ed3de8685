use Rattle.std.proofs.Common.{◌≡◌}
use Rattle.script_loader.specs.Places.{moved}
use Rattle.script_loader.proofs.placed.moved.Given as goal

abbrev pub invariant-loop-token : goal.invariant-loop-token
invariant-loop-token l = l.all.items ≡ moved l.start l.yielded
