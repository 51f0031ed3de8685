use Rattle.std.proofs.Common.{◌≡◌, ◌≤◌, drop}
use Rattle.script_loader.specs.Reading.{ReadSoFar}
use Rattle.script_loader.proofs.source.read_sources.Given as goal

abbrev pub invariant-loop-file : goal.invariant-loop-file
invariant-loop-file g l = record {
  read : ReadSoFar (g.F.Files.contents l.initial.files) l.most l.left l.named (drop l.file-index l.named) l.sources.items;
  same : g.F.Files.contents l.files ≡ g.F.Files.contents l.initial.files;
  count : g.F.Files.file_count l.initial.files ≤ g.F.Files.file_count l.files;
  keeps : g.F.Files.kept l.files ≡ g.F.Files.kept l.initial.files;
}
