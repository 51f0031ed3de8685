-- The reading of a project's files, one after another.
use Rattle.std.specs.Prelude.{◌≡◌, ℕ, ◌+◌, List, [], ◌∷◌, ◌++◌, length}
use Rattle.outside_world.specs.Told.{Contents}
use Rattle.project_lines.specs.declared.project.ProjectFile.{ProjectFile}
use Rattle.script_loader.specs.declared.source.Source.{Source}
use Rattle.script_loader.specs.Sources.{IsRead, AreRead, bytes_of}

-- a file is read behind others, which leaves so many bytes
pub record TakesFile (contents : Contents) (file : ProjectFile) (left : ℕ) (before : List Source) (then : ℕ) (after : List Source) : Type 0 where
  pub source : Source
  pub read : IsRead contents file source
  pub grown : after ≡ before ++ source ∷ []
  pub left_is : then + length source.text ≡ left

-- the files before `rest` are read, and so many bytes are left
pub record ReadSoFar (contents : Contents) (most left : ℕ) (files rest : List ProjectFile) (sources : List Source) : Type 0 where
  pub front : List ProjectFile
  pub split : files ≡ front ++ rest
  pub read : AreRead contents front sources
  pub bytes : left + bytes_of sources ≡ most
