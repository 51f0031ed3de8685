-- What is true of every table. Of this project.
use Rattle.std.specs.Prelude.{◌≡◌, ℕ, ◌<◌, ◌≤◌, ◌^◌, List, [], ◌∷◌, length, Bool, false}
use Rattle.hm_types.specs.declared.node.Node.{Node}
use Rattle.hm_types.specs.declared.node.Node.TheVariants.{Made}
use Rattle.hm_types.specs.declared.node.Asked.{Asked}
use Rattle.hm_types.specs.declared.node.TypeName.{TypeName}
use Rattle.hm_types.specs.Classes.{at, asked_at, name_at}
use Rattle.hm_types.specs.Joining.{IsFine, Within, Steps}
use Rattle.hm_types.specs.Asking.{Closed, Spread}
use Rattle.hm_types.specs.Searching.{Ranked, mark_at}

-- the names of the table's types take as many parts
abbrev pub Sorted : List TypeName → List Node → Type 0
Sorted names nodes = (c f i k : ℕ) → at nodes c ≡ Made f i k → (f < length names) × (k ≡ (name_at names f).arity)

-- the table is in solved form
pub record IsSettled (names : List TypeName) (parts : List ℕ) (nodes : List Node) (asked : List Asked) : Type 0 where
  pub closed : Closed names parts nodes asked
  pub ranks : (r : ℕ → ℕ) × Ranked parts nodes r

-- two classes were made equal, and the table is in solved form
pub record Joined (names : List TypeName) (parts : List ℕ) (nodes : List Node) (asked : List Asked) (new : List Node) (more : List Asked) (a b : ℕ) : Type 0 where
  pub steps : Steps parts nodes ((a, b) ∷ []) new []
  pub spread : Spread names parts new asked more []
  pub settled : IsSettled names parts new more

pub record IsTable (names : List TypeName) (parts : List ℕ) (nodes : List Node) (asked : List Asked) (marks : List ℕ) (stamp : ℕ) (clashed spent : Bool) : Type 0 where
  pub fine : IsFine parts nodes
  pub within : Within (length nodes) parts
  pub sorted : Sorted names nodes
  pub asks : length asked ≡ length nodes
  pub marked : length marks ≡ length nodes
  pub stamped : (c : ℕ) → mark_at marks c ≤ stamp
  pub few : length nodes < 2 ^ 32
  pub few_parts : length parts < 2 ^ 32
  pub few_names : length names < 2 ^ 32
  pub born : (c : ℕ) → c < length nodes → (asked_at asked c).birth < length nodes
  pub declared : (f : ℕ) → (name_at names f).birth ≤ length nodes
  pub settled : clashed ≡ false → spent ≡ false → IsSettled names parts nodes asked
