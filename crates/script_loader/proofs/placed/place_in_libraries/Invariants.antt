use Rattle.std.proofs.Common.{◌≡◌, drop}
use Rattle.script_loader.specs.Places.{of_libraries, place_in}
use Rattle.script_loader.proofs.placed.place_in_libraries.Given as goal

abbrev pub invariant-loop-i : goal.invariant-loop-i
invariant-loop-i l = place_in (of_libraries (drop l.i l.files) (drop l.i l.texts)) l.last l.rest ≡ place_in (of_libraries l.files l.texts) l.last l.place
