use Rattle.std.proofs.Common.{◌≡◌, ◌++◌, drop}
use Rattle.smlserver_top.specs.Places.{blanks}
use Rattle.smlserver_top.proofs.place.push_blanks.Given as goal

abbrev pub invariant-loop-b : goal.invariant-loop-b
invariant-loop-b l = l.line.items ++ blanks (drop l.b-index l.text) ≡ l.initial.line.items ++ blanks l.text
