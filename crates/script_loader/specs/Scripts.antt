-- The programs of a project's scripts: the prelude, the libraries in their order, and the script, as one list of
-- declarations.
use Rattle.std.specs.Prelude.{ℕ, ◌+◌, List, [], ◌∷◌, length}
use Rattle.project_lines.specs.declared.project.ProjectFile.{ProjectFile}
use Rattle.project_lines.specs.declared.project.ProjectFile.TheVariants as file
use Rattle.sml_syntax.specs.declared.tree.Program.{Program}
use Rattle.sml_evaluation.specs.Page.{all_decs, page_decs}
use Rattle.script_loader.specs.declared.load.ProjectTrees.{ProjectTrees}
use Rattle.script_loader.specs.declared.placed.Placed.{Placed}
use Rattle.script_loader.specs.declared.scripts.ScriptProgram.{ScriptProgram}
use Rattle.script_loader.specs.Places.{of_libraries, prelude_source}

-- a script's program, and how many of its declarations are the prelude's, and are of all that stands before the script's own
abbrev pub script_program : Program → List Program → List ℕ → List ℕ → Program → ScriptProgram
script_program prelude libraries path name tree = record {
  path = path;
  file = name;
  program = record { items = page_decs prelude libraries tree };
  prelude = length prelude.items;
  before = length prelude.items + length (all_decs libraries);
}

-- the scripts of a project, each with the declarations of its page
abbrev pub scripts_among : Program → List Program → List ProjectFile → List Program → List ScriptProgram
scripts_among prelude libraries (file.Library name ∷ files) (tree ∷ trees) = scripts_among prelude libraries files trees
scripts_among prelude libraries (file.Script path name ∷ files) (tree ∷ trees) =
    script_program prelude libraries path name tree ∷ scripts_among prelude libraries files trees
scripts_among prelude libraries _ _ = []

abbrev pub scripts_of : ProjectTrees → List ScriptProgram
scripts_of it = scripts_among it.prelude (of_libraries it.project.files it.trees) it.project.files it.trees

-- the texts that each script's own stands behind
abbrev pub texts_before : ProjectTrees → List Placed
texts_before it = prelude_source ∷ of_libraries it.project.files it.files
