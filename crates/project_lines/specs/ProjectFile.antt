-- The project file: its lines, which of them may follow which, the project that they make, and the first bad one.
-- Of this project.
use Rattle.std.specs.Prelude.{◌≡◌, ℕ, ◌+◌, ◌-◌, Bool, true, false, ◌==◌, ◌&&◌, nat_lt, not, List, [], ◌∷◌, ◌++◌, length, take, codes, if◌then◌else◌, slice_index}
use Rattle.std.specs.List.{list_any, slice_split}
use Rattle.std.specs.Str.{bytes_eq}
use Rattle.project_lines.specs.declared.line.Line.{Line}
use Rattle.project_lines.specs.declared.line.Line.TheVariants.{Header, Library, Script, Database, Budget, Pages}
use Rattle.project_lines.specs.declared.line.Sort.{Sort}
use Rattle.project_lines.specs.declared.line.Sort.TheVariants as sort
use Rattle.project_lines.specs.declared.project.ProjectFile.{ProjectFile}
use Rattle.project_lines.specs.declared.project.ProjectFile.TheVariants as file
use Rattle.project_lines.specs.declared.project.Project.{Project}
use Rattle.project_lines.specs.declared.project.LineFault.{LineFault}
use Rattle.project_lines.specs.declared.project.LineFault.TheVariants.{ProjectLine, TwoPaths}
use Rattle.project_lines.specs.Names.{is_path, is_file_name, is_database_name, is_count, number_after}

-- the lines of a text. Each ends with an LF, which the last one may lack; a CR before an LF is no part of the line.
abbrev pub is_line_feed : ℕ → Bool
is_line_feed b = b == 10

-- a line that an LF ends, without a CR at its end
abbrev pub without_return : List ℕ → List ℕ
without_return line = if slice_index line (length line - 1) == 13 then take (length line - 1) line else line

-- what stands between the LFs as lines: behind the last LF there is one only where bytes are left
abbrev pub lines_between : List (List ℕ) → List (List ℕ)
lines_between [] = []
lines_between ([] ∷ []) = []
lines_between ((b ∷ line) ∷ []) = (b ∷ line) ∷ []
lines_between (line ∷ next ∷ more) = without_return line ∷ lines_between (next ∷ more)

abbrev pub lines_of : List ℕ → List (List ℕ)
lines_of text = lines_between (slice_split is_line_feed text)

-- an empty line, or one that begins with #
abbrev pub is_skipped : List ℕ → Bool
is_skipped [] = true
is_skipped (b ∷ line) = b == 35

-- what a line says
abbrev pub IsLine : List ℕ → Line → Type 0
IsLine text Header = text ≡ codes "smlserver 1"
IsLine text (Library name) = (text ≡ codes "lib " ++ name) × (is_file_name name ≡ true)
IsLine text (Script path name) = (text ≡ codes "script " ++ (path ++ 32 ∷ name)) × (is_path path ≡ true) × (is_file_name name ≡ true)
IsLine text (Database name) = (text ≡ codes "database " ++ name) × (is_database_name name ≡ true)
IsLine text (Budget n) = (digits : List ℕ) × (text ≡ codes "budget " ++ digits) × (is_count 1000000000 digits ≡ true) × (n ≡ number_after 0 digits)
IsLine text (Pages n) = (digits : List ℕ) × (text ≡ codes "pages " ++ digits) × (is_count 65536 digits ≡ true) × (n ≡ number_after 0 digits)

-- the lines that aren't skipped say these
pub data AreLines : List (List ℕ) → List Line → Type 0 where
  none : AreLines [] []
  skipped : {texts : List (List ℕ)} {lines : List Line} (text : List ℕ) → is_skipped text ≡ true → AreLines texts lines → AreLines (text ∷ texts) lines
  line : {texts : List (List ℕ)} {lines : List Line} (text : List ℕ) (one : Line) → is_skipped text ≡ false → IsLine text one → AreLines texts lines → AreLines (text ∷ texts) (one ∷ lines)

-- the file that a line names, if it names one
abbrev pub file_in : Line → List ProjectFile
file_in (Library name) = file.Library name ∷ []
file_in (Script path name) = file.Script path name ∷ []
file_in _ = []

-- the database that a line names, if it names one
abbrev pub database_in : Line → List (List ℕ)
database_in (Database name) = name ∷ []
database_in _ = []

-- the number of a `budget` line, or else this
abbrev pub budget_in : ℕ → Line → ℕ
budget_in n (Budget m) = m
budget_in n _ = n

abbrev pub pages_in : ℕ → Line → ℕ
pages_in n (Pages m) = m
pages_in n _ = n

-- libraries and scripts in their order, databases in theirs, and the limits
abbrev pub files_of : List Line → List ProjectFile
files_of [] = []
files_of (l ∷ lines) = file_in l ++ files_of lines

abbrev pub databases_of : List Line → List (List ℕ)
databases_of [] = []
databases_of (l ∷ lines) = database_in l ++ databases_of lines

abbrev pub budget_of : ℕ → List Line → ℕ
budget_of n [] = n
budget_of n (l ∷ lines) = budget_of (budget_in n l) lines

abbrev pub pages_of : ℕ → List Line → ℕ
pages_of n [] = n
pages_of n (l ∷ lines) = pages_of (pages_in n l) lines

-- the sort of a line, and how many lines of it a project may have
abbrev pub sort_of : Line → Sort
sort_of Header = sort.Header
sort_of (Library name) = sort.Library
sort_of (Script path name) = sort.Script
sort_of (Database name) = sort.Database
sort_of (Budget n) = sort.Budget
sort_of (Pages n) = sort.Pages

abbrev pub most_of : Sort → ℕ
most_of sort.Header = 1
most_of sort.Library = 64
most_of sort.Script = 256
most_of sort.Database = 16
most_of sort.Budget = 1
most_of sort.Pages = 1

abbrev pub is_sort : Sort → Line → Bool
is_sort sort.Header Header = true
is_sort sort.Library (Library name) = true
is_sort sort.Script (Script path name) = true
is_sort sort.Database (Database name) = true
is_sort sort.Budget (Budget n) = true
is_sort sort.Pages (Pages n) = true
is_sort _ _ = false

-- how many lines are of a sort
abbrev pub count_of_sort : Sort → List Line → ℕ
count_of_sort s [] = 0
count_of_sort s (l ∷ lines) = if is_sort s l then 1 + count_of_sort s lines else count_of_sort s lines

-- whether a line is this path's script, or this database
abbrev pub has_path : List ℕ → Line → Bool
has_path path (Script other name) = bytes_eq other path
has_path path _ = false

abbrev pub has_database : List ℕ → Line → Bool
has_database name (Database other) = bytes_eq other name
has_database name _ = false

-- whether an earlier line has the database of this one
abbrev pub repeats_database : List Line → Line → Bool
repeats_database before (Database name) = list_any (has_database name) before
repeats_database before _ = false

-- whether an earlier line has the path of this one
abbrev pub repeats_path : List Line → Line → Bool
repeats_path before (Script path name) = list_any (has_path path) before
repeats_path before _ = false

-- the first line is the header
abbrev pub begins_well : List Line → Line → Bool
begins_well [] l = is_sort sort.Header l
begins_well (first ∷ before) l = true

-- whether a line may follow those before it, paths aside: the first is the header, there are at most so many lines of
-- each sort, and databases differ
abbrev pub may_follow : List Line → Line → Bool
may_follow before l = begins_well before l && nat_lt (count_of_sort (sort_of l) before) (most_of (sort_of l)) && not (repeats_database before l)

-- each line may follow those before it
abbrev pub AreInOrder : List Line → Type 0
AreInOrder lines = (before after : List Line) (l : Line) → lines ≡ before ++ l ∷ after → (may_follow before l ≡ true) × (repeats_path before l ≡ false)

-- the project that lines make
abbrev pub project_of : List Line → Project
project_of lines = record { files = files_of lines; databases = databases_of lines; budget = budget_of 50000000 lines; pages = pages_of 16384 lines }

-- the text is the file of this project
pub record IsProject (text : List ℕ) (project : Project) : Type 0 where
  pub first : Line
  pub more : List Line
  pub lines : AreLines (lines_of text) (first ∷ more)
  pub in_order : AreInOrder (first ∷ more)
  pub is : project ≡ project_of (first ∷ more)

-- what is wrong with a line behind good ones: it says nothing that may stand there, or else its path stands already
abbrev pub IsFault : List Line → List ℕ → LineFault → Type 0
IsFault before text ProjectLine = (l : Line) → IsLine text l → may_follow before l ≡ true → ⊥
IsFault before text TwoPaths = (l : Line) × IsLine text l × (may_follow before l ≡ true) × (repeats_path before l ≡ true)

-- the first bad line of a text: all lines before it are good
pub record IsBadLine (text : List ℕ) (number : ℕ) (fault : LineFault) : Type 0 where
  pub before : List (List ℕ)
  pub here : List ℕ
  pub after : List (List ℕ)
  pub split : lines_of text ≡ before ++ here ∷ after
  pub number_is : number ≡ length before + 1
  pub good : List Line
  pub lines : AreLines before good
  pub in_order : AreInOrder good
  pub not_skipped : is_skipped here ≡ false
  pub bad : IsFault good here fault

-- the text has no line but skipped ones, which is told as its first line being bad
pub record IsEmpty (text : List ℕ) (number : ℕ) (fault : LineFault) : Type 0 where
  pub lines : AreLines (lines_of text) []
  pub number_is : number ≡ 1
  pub fault_is : fault ≡ ProjectLine

-- the refusal of a text that is no project file
pub data IsFirstBadLine : List ℕ → ℕ → LineFault → Type 0 where
  bad : {text : List ℕ} {number : ℕ} {fault : LineFault} → IsBadLine text number fault → IsFirstBadLine text number fault
  empty : {text : List ℕ} {number : ℕ} {fault : LineFault} → IsEmpty text number fault → IsFirstBadLine text number fault
