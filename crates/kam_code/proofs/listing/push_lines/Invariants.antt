use Rattle.std.proofs.Common.{◌≡◌, ◌++◌, drop}
use Rattle.kam_code.specs.Listing.{lines_from, listing}
use Rattle.kam_code.proofs.listing.push_lines.Given as goal

abbrev pub invariant-loop-instr : goal.invariant-loop-instr
invariant-loop-instr l = record {
  number : l.number ≡ l.instr-index;
  lines : l.lines.items ++ lines_from l.instr-index (drop l.instr-index l.instrs) ≡ l.initial.lines.items ++ listing l.instrs;
}
