use Rattle.std.proofs.Common.{◌≡◌}
use Rattle.project_lines.specs.ProjectFile.{files_of, databases_of, budget_of, pages_of}
use Rattle.project_lines.proofs.project.project_of.Given as goal

abbrev pub invariant-loop-line : goal.invariant-loop-line
invariant-loop-line l = record {
  files : l.draft.files.items ≡ files_of l.yielded;
  databases : l.draft.databases.items ≡ databases_of l.yielded;
  budget : l.draft.budget ≡ budget_of 50000000 l.yielded;
  pages : l.draft.pages ≡ pages_of 16384 l.yielded;
}
