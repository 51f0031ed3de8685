-- What the words of a command make the server write, and its exit status.
use Rattle.std.specs.Prelude.{◌≡◌, ◌⊎◌, ℕ, true, false, List, [], ◌∷◌, ◌++◌, Option, Some, None, codes}
use Rattle.outside_world.specs.Told.{Contents, GrewByFront}
use Rattle.script_loader.specs.Seen.{Script}
use Rattle.script_loader.specs.declared.front.LoadedFront.{LoadedFront}
use Rattle.script_loader.specs.declared.refusal.LoadRefusal.TheVariants as refusal
use Rattle.script_loader.specs.Front.{HasFront}
use Rattle.smlserver_top.specs.Words.{IsPageCommand, IsCheckCommand, AsksFor, AreBadWords}
use Rattle.smlserver_top.specs.Databases.{same_names, given_by}
use Rattle.smlserver_top.specs.Refusal.{line_of, not_built_line}
use Rattle.smlserver_top.specs.Page.{programs_of, script_at, HasBody, HasNoParts, IsPageAnswer, IsCheckAnswer, IsRefusedBy}

-- the line of words that are of no command
abbrev pub bad_words_line : List ℕ
bad_words_line = codes "bad words" ++ 10 ∷ []

-- the exit statuses
abbrev pub IsStatus : ℕ → Type 0
IsStatus status = (status ≡ 0) ⊎ ((status ≡ 1) ⊎ ((status ≡ 2) ⊎ ((status ≡ 3) ⊎ ((status ≡ 4) ⊎ (status ≡ 7)))))

-- the files hold this project, it is loaded, the databases that are given are those that it names, and this is its script under
-- the path
pub record LeadsTo (contents : Contents) (given : List (List ℕ)) (project path : List ℕ) (script : Script) : Type 0 where
  pub front : LoadedFront
  pub held : HasFront contents project front
  pub agree : same_names given front.project.databases ≡ true
  pub found : script_at path (programs_of front) ≡ Some script

-- the page at the path has this body
abbrev pub IsPage : Contents → List (List ℕ) → List ℕ → List ℕ → List ℕ → Type 0
IsPage contents given project path body = (script : Script) × LeadsTo contents given project path script × HasBody script body

-- the project is loaded, the databases that are given are those that it names, and it has no script under the path
abbrev pub LacksScript : Contents → List (List ℕ) → List ℕ → List ℕ → Type 0
LacksScript contents given project path =
    (front : LoadedFront) × HasFront contents project front × (same_names given front.project.databases ≡ true) × (script_at path (programs_of front) ≡ None)

-- the project is loaded, and the databases that are given aren't those that it names
abbrev pub NamesOthers : Contents → List (List ℕ) → List ℕ → Type 0
NamesOthers contents given project = (front : LoadedFront) × HasFront contents project front × (same_names given front.project.databases ≡ false)

-- the words ask for the page of a path that has no script
abbrev pub IsNotFound : Contents → List (List ℕ) → Type 0
IsNotFound contents words = (project : List ℕ) × (path : List ℕ) × IsPageCommand words project path × LacksScript contents (given_by words) project path

-- the words ask for a page of a project that names other databases than they give, and this is its line
abbrev pub AreOtherNames : Contents → List (List ℕ) → List ℕ → Type 0
AreOtherNames contents words line =
    (project : List ℕ) × (path : List ℕ) × IsPageCommand words project path × NamesOthers contents (given_by words) project × (line_of (refusal.DatabaseNames project 0) ≡ Some line)

-- the words ask for the page of a script that isn't run, and this is its line
abbrev pub IsNotBuilt : Contents → List (List ℕ) → List ℕ → Type 0
IsNotBuilt contents words line =
    (project : List ℕ) × (path : List ℕ) × IsPageCommand words project path × ((script : Script) × LeadsTo contents (given_by words) project path script × HasNoParts script × (line ≡ not_built_line script.file))

-- the words ask for a project that isn't loaded, and this is the line that says why
abbrev pub IsRefused : Contents → ℕ → ℕ → List (List ℕ) → List ℕ → Type 0
IsRefused contents before after words line = (project : List ℕ) × AsksFor words project × IsRefusedBy contents before after project line

-- the answer of a command: a status and a text
pub data IsAnswer (contents : Contents) (before after : ℕ) (words : List (List ℕ)) (status : ℕ) (text : List ℕ) : Type 0 where
  of_page : (project path : List ℕ) → IsPageCommand words project path → IsPageAnswer contents before after (given_by words) project path status text → IsAnswer contents before after words status text
  of_check : (project : List ℕ) → IsCheckCommand words project → IsCheckAnswer contents before after project status text → IsAnswer contents before after words status text
  of_none : AreBadWords words → status ≡ 2 → text ≡ bad_words_line → IsAnswer contents before after words status text

-- the text of an answer
abbrev pub IsText : Contents → ℕ → ℕ → List (List ℕ) → List ℕ → Type 0
IsText contents before after words text = (status : ℕ) × IsAnswer contents before after words status text

-- a status and a text that was written, unless a write failed or memory was wanting
abbrev pub IsEnd : ℕ → (List ℕ → Type 0) → (ℕ → List ℕ → Type 0) → Type 0
IsEnd status Wrote Answer = ((text : List ℕ) × Answer status text × Wrote text) ⊎ ((status ≡ 4) ⊎ (status ≡ 7))

-- the output is as it was, or holds a front of a text more
abbrev pub IsUnfinished : Option (List ℕ) → Option (List ℕ) → (List ℕ → Type 0) → Type 0
IsUnfinished old new Text = (new ≡ old) ⊎ ((text : List ℕ) × Text text × GrewByFront old text new)
