-- The files of a project with their texts, and the first of them that isn't read.
use Rattle.std.specs.Prelude.{◌≡◌, ℕ, ◌+◌, ◌-◌, ◌≤◌, List, [], ◌∷◌, ◌++◌, length}
use Rattle.outside_world.specs.Told.{Contents, HoldsFile, LacksFile, HoldsLongFile, Rose}
use Rattle.project_lines.specs.declared.project.ProjectFile.{ProjectFile}
use Rattle.project_lines.specs.declared.project.ProjectFile.TheVariants as file
use Rattle.script_loader.specs.declared.source.Source.{Source}
use Rattle.script_loader.specs.declared.refusal.LoadRefusal.{LoadRefusal}
use Rattle.script_loader.specs.declared.refusal.LoadRefusal.TheVariants as refusal
use Rattle.script_loader.specs.Lists.{Each}

abbrev pub name_of : ProjectFile → List ℕ
name_of (file.Library name) = name
name_of (file.Script path name) = name

-- the bytes of texts together
abbrev pub bytes_of : List Source → ℕ
bytes_of [] = 0
bytes_of (s ∷ sources) = length s.text + bytes_of sources

-- the text that the files hold under the name of a file of the project
pub record IsRead (contents : Contents) (file : ProjectFile) (source : Source) : Type 0 where
  pub name_is : source.name ≡ name_of file
  pub held : HoldsFile contents (name_of file) source.text

-- the texts of files, each in its place
abbrev pub AreRead : Contents → List ProjectFile → List Source → Type 0
AreRead contents files sources = Each (IsRead contents) files sources

-- why a file isn't read where so many bytes are left of the limit. The counts are those of failed reads, before the
-- call and after it; what is too large is told of the project.
pub data IsUnread (contents : Contents) (before after : ℕ) (project : List ℕ) (left : ℕ) (name : List ℕ) : LoadRefusal → Type 0 where
  absent : LacksFile contents name → IsUnread contents before after project left name (refusal.FileFault name 0)
  failed : Rose before after → IsUnread contents before after project left name (refusal.FileFault name 0)
  long : HoldsLongFile contents name left → IsUnread contents before after project left name (refusal.TooLarge project 0)

-- the first file that isn't read: those before it are
pub record IsFirstUnread (contents : Contents) (before after : ℕ) (project : List ℕ) (most : ℕ) (files : List ProjectFile) (e : LoadRefusal) : Type 0 where
  pub front : List ProjectFile
  pub file : ProjectFile
  pub back : List ProjectFile
  pub split : files ≡ front ++ file ∷ back
  pub sources : List Source
  pub read : AreRead contents front sources
  pub within : bytes_of sources ≤ most
  pub unread : IsUnread contents before after project (most - bytes_of sources) (name_of file) e
