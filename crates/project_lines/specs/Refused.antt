-- What reading the lines of a project file comes to.
use Rattle.std.specs.Prelude.{◌≡◌, ◌⊎◌, ℕ, true, false, List, [], ◌∷◌, ◌++◌, length, Result, Ok, Err}
use Rattle.project_lines.specs.declared.line.Line.{Line}
use Rattle.project_lines.specs.declared.project.LineFault.{LineFault}
use Rattle.project_lines.specs.declared.project.Project.{Project}
use Rattle.project_lines.specs.declared.project.ProjectRefusal.{ProjectRefusal}
use Rattle.project_lines.specs.declared.project.ProjectRefusal.TheVariants as refusal
use Rattle.project_lines.specs.ProjectFile.{lines_of, is_skipped, IsLine, AreLines, may_follow, repeats_path, AreInOrder, IsFault, IsBadLine, IsFirstBadLine}

-- these are the lines of the text, each where it may stand
pub record AreGood (text : List ℕ) (lines : List Line) : Type 0 where
  pub said : AreLines (lines_of text) lines
  pub in_order : AreInOrder lines

-- a skipped line, or one more that may stand behind those before it
pub data TakesLine : List Line → List ℕ → List Line → Type 0 where
  skips : {lines : List Line} {text : List ℕ} → is_skipped text ≡ true → TakesLine lines text lines
  adds : {lines : List Line} {text : List ℕ} (l : Line) → is_skipped text ≡ false → IsLine text l → may_follow lines l ≡ true → repeats_path lines l ≡ false → TakesLine lines text (lines ++ l ∷ [])

-- why a line behind these is refused; want of memory says nothing
abbrev pub IsLineRefusal : List Line → List ℕ → ℕ → ProjectRefusal → Type 0
IsLineRefusal before text number (refusal.Line n fault) = (n ≡ number) × (is_skipped text ≡ false) × IsFault before text fault
IsLineRefusal before text number refusal.NoMemory = Unit {0}

abbrev pub IsLinesRefusal : List ℕ → ProjectRefusal → Type 0
IsLinesRefusal text (refusal.Line number fault) = IsBadLine text number fault
IsLinesRefusal text refusal.NoMemory = Unit {0}

-- why a text is refused
abbrev pub IsRefusedAs : List ℕ → ProjectRefusal → Type 0
IsRefusedAs text (refusal.Line number fault) = IsFirstBadLine text number fault
IsRefusedAs text refusal.NoMemory = Unit {0}

-- the lines of a text up to what is left of it
pub record Taken (text rest : List ℕ) (lines : List Line) (number : ℕ) : Type 0 where
  pub before : List (List ℕ)
  pub split : lines_of text ≡ before ++ lines_of rest
  pub number_is : number ≡ length before
  pub said : AreLines before lines
  pub in_order : AreInOrder lines

-- this project, or want of memory
abbrev pub GivesProject : Result Project ProjectRefusal → Project → Type 0
GivesProject result project = (result ≡ Ok project) ⊎ (result ≡ Err refusal.NoMemory)

-- this refusal, or want of memory
abbrev pub GivesRefusal : Result Project ProjectRefusal → ℕ → LineFault → Type 0
GivesRefusal result number fault = (result ≡ Err (refusal.Line number fault)) ⊎ (result ≡ Err refusal.NoMemory)
