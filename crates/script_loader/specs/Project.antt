-- A project and its files as they are read, and why they aren't.
use Rattle.std.specs.Prelude.{◌≡◌, ℕ, ◌+◌, ◌≤◌, ◌^◌, List, length}
use Rattle.outside_world.specs.Told.{Contents, HoldsFile}
use Rattle.project_lines.specs.declared.project.Project.{Project}
use Rattle.project_lines.specs.declared.project.LineFault.{LineFault}
use Rattle.project_lines.specs.ProjectFile.{IsProject, IsFirstBadLine}
use Rattle.script_loader.specs.declared.source.Source.{Source}
use Rattle.script_loader.specs.declared.refusal.LoadRefusal.{LoadRefusal}
use Rattle.script_loader.specs.Refusals.{fault_refusal}
use Rattle.script_loader.specs.Sources.{bytes_of, AreRead, IsUnread, IsFirstUnread}

-- the greatest number of bytes of a project file and the files that it names
abbrev pub most_bytes : ℕ
most_bytes = 2 ^ 20

-- the files hold this project under its name, and its file leaves so many bytes of the limit
pub record HoldsProject (contents : Contents) (name : List ℕ) (project : Project) (left : ℕ) : Type 0 where
  pub text : List ℕ
  pub held : HoldsFile contents name text
  pub is : IsProject text project
  pub bytes : length text + left ≡ most_bytes

-- and the texts of the files that it names, within the limit
pub record HoldsFiles (contents : Contents) (name : List ℕ) (project : Project) (sources : List Source) : Type 0 where
  pub left : ℕ
  pub holds : HoldsProject contents name project left
  pub read : AreRead contents project.files sources
  pub within : bytes_of sources ≤ left

-- the first bad line of the project file
pub record IsBadLine (contents : Contents) (name : List ℕ) (e : LoadRefusal) : Type 0 where
  pub text : List ℕ
  pub held : HoldsFile contents name text
  pub within : length text ≤ most_bytes
  pub number : ℕ
  pub fault : LineFault
  pub first : IsFirstBadLine text number fault
  pub told : e ≡ fault_refusal name number fault

-- why there is no project
pub data IsBadFile (contents : Contents) (before after : ℕ) (name : List ℕ) (e : LoadRefusal) : Type 0 where
  unread : IsUnread contents before after name most_bytes name e → IsBadFile contents before after name e
  bad_line : IsBadLine contents name e → IsBadFile contents before after name e

-- why a project isn't read with its files
pub data IsUnreadable (contents : Contents) (before after : ℕ) (name : List ℕ) (e : LoadRefusal) : Type 0 where
  bad_file : IsBadFile contents before after name e → IsUnreadable contents before after name e
  unread_file : (project : Project) (left : ℕ) → HoldsProject contents name project left → IsFirstUnread contents before after name left project.files e → IsUnreadable contents before after name e
