use Rattle.std.proofs.Common.{◌≡◌, ◌+◌, ◌<◌, ◌^◌, ◌++◌, drop}
use Rattle.script_loader.specs.Places.{of_libraries, placed_from}
use Rattle.script_loader.specs.Sources.{bytes_of}
use Rattle.script_loader.proofs.placed.place_texts.Given as goal

abbrev pub invariant-loop-i : goal.invariant-loop-i
invariant-loop-i l = record {
  texts : l.texts.items ++ placed_from l.library l.script (drop l.i l.files) (drop l.i l.sources) ≡ placed_from l.prelude l.script l.files l.sources;
  sum : l.library + bytes_of (of_libraries (drop l.i l.files) (drop l.i l.sources)) ≡ l.script;
  fits : l.script < 2 ^ 64;
}
