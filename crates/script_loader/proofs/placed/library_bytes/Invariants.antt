use Rattle.std.proofs.Common.{◌≡◌, ◌+◌, drop}
use Rattle.script_loader.specs.Places.{of_libraries}
use Rattle.script_loader.specs.Sources.{bytes_of}
use Rattle.script_loader.proofs.placed.library_bytes.Given as goal

abbrev pub invariant-loop-i : goal.invariant-loop-i
invariant-loop-i l = l.sum + bytes_of (of_libraries (drop l.i l.files) (drop l.i l.sources)) ≡ bytes_of (of_libraries l.files l.sources)
