-- The words of the commands.
use Rattle.std.specs.Prelude.{◌≡◌, ◌⊎◌, ℕ, true, false, List, [], ◌∷◌, codes}
use Rattle.smlserver_top.specs.Spelling.{begins_with}

-- the words are `page`, the project's file, the path and the empty query
pub record IsPageCommand (words : List (List ℕ)) (project path : List ℕ) : Type 0 where
  pub no_option : begins_with (codes "--") project ≡ false
  pub from_root : begins_with (codes "/") path ≡ true
  pub words_are : words ≡ codes "page" ∷ project ∷ path ∷ [] ∷ []

-- the words are `check` and the project's file
pub record IsCheckCommand (words : List (List ℕ)) (project : List ℕ) : Type 0 where
  pub no_option : begins_with (codes "--") project ≡ false
  pub words_are : words ≡ codes "check" ∷ project ∷ []

-- the words ask for something of this project
abbrev pub AsksFor : List (List ℕ) → List ℕ → Type 0
AsksFor words project = ((path : List ℕ) × IsPageCommand words project path) ⊎ IsCheckCommand words project

-- the words are of no command
abbrev pub AreBadWords : List (List ℕ) → Type 0
AreBadWords words = (project : List ℕ) → AsksFor words project → ⊥
