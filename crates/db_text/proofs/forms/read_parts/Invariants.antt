use Rattle.std.proofs.Common.{◌≡◌, ◌≤◌, [], length, drop, map}
use Rattle.web_data.specs.StatementReading.{run}
use Rattle.db_text.specs.Reading.{left_of}
use Rattle.db_text.proofs.forms.read_parts.Given as goal

-- what runs from here with the other parts runs from the start
abbrev pub invariant-loop-part : goal.invariant-loop-part
invariant-loop-part l = record {
  within : l.at ≤ length l.bytes;
  whole : run [] (map left_of l.parts) l.bytes 0 ≡ run l.texts.items (map left_of (drop l.part-index l.parts)) (drop l.at l.bytes) l.at;
}
