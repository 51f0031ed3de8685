-- Why a project has no trees: the order of refusals over all its files, and the trees of a project that has them.
use Rattle.std.specs.Prelude.{◌≡◌, ℕ, ◌<◌, List, [], ◌∷◌, ◌++◌, Option, Some}
use Rattle.outside_world.specs.Told.{Contents, Rose}
use Rattle.sml_syntax.specs.declared.tree.Program.{Program}
use Rattle.project_lines.specs.declared.project.Project.{Project}
use Rattle.script_loader.specs.declared.refusal.LoadRefusal.{LoadRefusal}
use Rattle.script_loader.specs.declared.source.Source.{Source}
use Rattle.script_loader.specs.declared.placed.Placed.{Placed}
use Rattle.script_loader.specs.declared.load.ProjectTrees.{ProjectTrees}
use Rattle.script_loader.specs.Project.{HoldsFiles, IsUnreadable}
use Rattle.script_loader.specs.Places.{placed, prelude_source}
use Rattle.script_loader.specs.Tokens.{IsMisspelt}
use Rattle.script_loader.specs.Trees.{IsTreeOf, AreTrees, IsUngrammatical}

-- the steps that judge the texts of files, and which of them comes first
pub data Step : Type 0 where
  Lexing : Step
  Parsing : Step

abbrev pub number_of : Step → ℕ
number_of Lexing = 0
number_of Parsing = 1

-- what a step finds wrong with a file, whatever stands in others
abbrev pub IsMistake : Step → Placed → LoadRefusal → Type 0
IsMistake Lexing source e = IsMisspelt source e
IsMistake Parsing source e = IsUngrammatical source e

-- the first mistake in files: no file has one of an earlier step, and none of those before it has one of its step
pub record IsFirstMistake (files : List Placed) (e : LoadRefusal) : Type 0 where
  pub step : Step
  pub before : List Placed
  pub here : Placed
  pub after : List Placed
  pub split : files ≡ before ++ here ∷ after
  pub mistake : IsMistake step here e
  pub no_earlier_step : (earlier : Step) (front back : List Placed) (other : Placed) (f : LoadRefusal) → number_of earlier < number_of step → files ≡ front ++ other ∷ back → IsMistake earlier other f → ⊥
  pub no_earlier_file : (front back : List Placed) (other : Placed) (f : LoadRefusal) → before ≡ front ++ other ∷ back → IsMistake step other f → ⊥

-- why a project has no trees. The counts are those of failed reads, before the call and after it.
pub data LoadCause (contents : Contents) (before after : ℕ) (project : List ℕ) (e : LoadRefusal) : Type 0 where
  -- a mistake in the prelude. The tests show that it has none.
  in_prelude : IsFirstMistake (prelude_source ∷ []) e → LoadCause contents before after project e
  -- the prelude has a tree, and the project file or a file that it names isn't read, or has a bad line
  unreadable : (prelude : Program) → IsTreeOf prelude_source prelude → IsUnreadable contents before after project e → LoadCause contents before after project e
  -- the prelude has a tree, all files are read, and this is the first mistake in their texts
  mistaken : (prelude : Program) → IsTreeOf prelude_source prelude → (lines : Project) (sources : List Source) → HoldsFiles contents project lines sources → IsFirstMistake (placed lines.files sources) e → LoadCause contents before after project e

-- the texts of the files of this project with their starts, their trees, and that of the prelude
pub record HasTrees (contents : Contents) (project : List ℕ) (trees : ProjectTrees) : Type 0 where
  pub sources : List Source
  pub held : HoldsFiles contents project trees.project sources
  pub files_are : trees.files ≡ placed trees.project.files sources
  pub of_prelude : IsTreeOf prelude_source trees.prelude
  pub of_files : AreTrees trees.files trees.trees

-- files that tell what they hold, of which no read failed
pub record AreSure (contents : Contents) (before after : ℕ) : Type 0 where
  pub text_at : List ℕ → Option (List ℕ)
  pub told : contents ≡ Some text_at
  pub whole : Rose before after → ⊥
