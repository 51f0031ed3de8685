-- What is asked of a class is asked of its parts. Of this project.
use Rattle.std.specs.Prelude.{◌≡◌, ℕ, ◌+◌, ◌<◌, ◌≤◌, List, [], ◌∷◌, length, true, ◌⊎◌, if◌then◌else◌, ◌||◌, min}
use Rattle.hm_types.specs.declared.node.Node.{Node}
use Rattle.hm_types.specs.declared.node.Node.TheVariants.{Variable, Made, Link}
use Rattle.hm_types.specs.declared.node.Asked.{Asked}
use Rattle.hm_types.specs.declared.node.TypeName.{TypeName}
use Rattle.hm_types.specs.declared.node.Equality.{Equality}
use Rattle.hm_types.specs.declared.node.Equality.TheVariants.{Never, Always, Parts}
use Rattle.hm_types.specs.Classes.{Assign, at, asked_at, name_at, part_list, Respects, Meets}
use Rattle.hm_types.specs.Joining.{IsIn, Within}

-- the second asks no less than the first
abbrev pub Below : Asked → Asked → Type 0
Below a b = (a.equality ≡ true → b.equality ≡ true) × (b.birth ≤ a.birth)

-- all that two ask
abbrev pub both_of : Asked → Asked → Asked
both_of a b = record { equality = a.equality || b.equality; birth = min a.birth b.birth }

-- by the kind of a name: what equality of its types asks of their parts
abbrev pub AsksParts : Equality → Type 0 → Type 0
AsksParts Never P = ⊥
AsksParts Always P = Unit {0}
AsksParts Parts P = P

-- what a class asks of its parts, by the kind of its name
pub record OfParts (equality : Equality) (own more : Asked) : Type 0 where
  pub same : more.birth ≡ own.birth
  pub all : own.equality ≡ true → AsksParts equality (more.equality ≡ true)
  pub few : more.equality ≡ true → (equality ≡ Parts) × (own.equality ≡ true)

-- a class of which so much is asked has that asked of its parts
abbrev pub Closes : List TypeName → List ℕ → List Asked → Asked → Node → Type 0
Closes names parts asked a Variable = Unit {0}
Closes names parts asked a (Made f i k) =
    ((name_at names f).birth ≤ a.birth)
    × ((d : ℕ) → IsIn d (part_list parts i k) → (asked_at asked d).birth ≤ a.birth)
    × (a.equality ≡ true → AsksParts ((name_at names f).equality) ((d : ℕ) → IsIn d (part_list parts i k) → (asked_at asked d).equality ≡ true))
Closes names parts asked a (Link d) = Below a (asked_at asked d)

abbrev pub Closed : List TypeName → List ℕ → List Node → List Asked → Type 0
Closed names parts nodes asked = (c : ℕ) → c < length nodes → Closes names parts asked (asked_at asked c) (at nodes c)

-- closed but for the listed classes
abbrev pub ClosedBut : List TypeName → List ℕ → List Node → List Asked → List ℕ → Type 0
ClosedBut names parts nodes asked work = (c : ℕ) → c < length nodes → (Closes names parts asked (asked_at asked c) (at nodes c)) ⊎ IsIn c work

abbrev pub freedom_of : Asked → ℕ
freedom_of a = a.birth + (if a.equality then 0 else 1)

-- how much more can be asked
unfoldable pub freedom : List Asked → ℕ
freedom [] = 0
freedom (a ∷ asked) = freedom_of a + freedom asked

-- more is asked, but nothing that the assignments with the property lack; classes of which more is asked are listed
pub record Told (P : List TypeName → Assign → Type 0) (old new : List Asked) (before after : List ℕ) : Type 0 where
  pub there : (names : List TypeName) (s : Assign) → P names s → Meets names old s → Meets names new s
  pub lower : (c : ℕ) → Below (asked_at old c) (asked_at new c)
  pub only : (c : ℕ) → (asked_at new c ≡ asked_at old c) ⊎ IsIn c after
  pub kept : (c : ℕ) → IsIn c before → IsIn c after
  pub same_length : length new ≡ length old
  pub within : Within (length old) before → Within (length old) after
  pub less : length after + (freedom new + freedom new) ≤ length before + (freedom old + freedom old)

-- more is asked, but nothing that a solution lacks, and what is asked of classes is asked of their parts, but for some classes
pub record Spread (names : List TypeName) (parts : List ℕ) (nodes : List Node) (old new : List Asked) (work : List ℕ) : Type 0 where
  pub there : (s : Assign) → Respects parts nodes s → Meets names old s → Meets names new s
  pub lower : (c : ℕ) → Below (asked_at old c) (asked_at new c)
  pub same_length : length new ≡ length old
  pub closed : ClosedBut names parts nodes new work
  pub within : Within (length nodes) work

-- no assignment that respects the nodes has what is asked
abbrev pub LacksAsked : List TypeName → List ℕ → List Node → List Asked → Type 0
LacksAsked names parts nodes asked = (s : Assign) → Respects parts nodes s → Meets names asked s → ⊥

-- no less is asked
pub record Lowers (old new : List Asked) : Type 0 where
  pub lower : (c : ℕ) → Below (asked_at old c) (asked_at new c)
  pub same_length : length new ≡ length old
