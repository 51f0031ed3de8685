use Rattle.std.proofs.Common.{◌≡◌, drop}
use Rattle.outside_world.specs.Stored.{text_under}
use Rattle.outside_world.proofs.memory.files.find_text.Given as goal

abbrev pub invariant-loop-held : goal.invariant-loop-held
invariant-loop-held l = text_under l.texts l.name ≡ text_under (drop l.held-index l.texts) l.name
