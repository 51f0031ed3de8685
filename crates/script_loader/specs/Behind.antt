-- The programs of scripts behind what each of them stands on.
use Rattle.std.specs.Prelude.{ℕ, List, [], ◌∷◌, ◌++◌, length}
use Rattle.project_lines.specs.declared.project.ProjectFile.{ProjectFile}
use Rattle.project_lines.specs.declared.project.ProjectFile.TheVariants as file
use Rattle.sml_syntax.specs.declared.tree.Program.{Program}
use Rattle.script_loader.specs.declared.scripts.Base.{Base}
use Rattle.script_loader.specs.declared.scripts.ScriptProgram.{ScriptProgram}

abbrev pub script_behind : Base → List ℕ → List ℕ → Program → ScriptProgram
script_behind base path name tree = record {
  path = path;
  file = name;
  program = record { items = base.decs.items ++ tree.items };
  prelude = base.prelude;
  before = length base.decs.items;
}

abbrev pub scripts_behind : Base → List ProjectFile → List Program → List ScriptProgram
scripts_behind base (file.Library name ∷ files) (tree ∷ trees) = scripts_behind base files trees
scripts_behind base (file.Script path name ∷ files) (tree ∷ trees) = script_behind base path name tree ∷ scripts_behind base files trees
scripts_behind base _ _ = []
