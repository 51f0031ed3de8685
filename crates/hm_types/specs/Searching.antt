-- Types that hold themselves. Of this project.
use Rattle.std.proofs.Math.Dec.{ltb}
use Rattle.std.specs.Prelude.{◌≡◌, ℕ, suc, ◌+◌, ◌<◌, ◌≤◌, List, [], ◌∷◌, length, ◌⊎◌, if◌then◌else◌}
use Rattle.std.proofs.Common.{get_or}
use Rattle.hm_types.specs.declared.node.Node.{Node}
use Rattle.hm_types.specs.declared.node.Node.TheVariants.{Variable, Made, Link}
use Rattle.hm_types.specs.declared.node.Asked.{Asked}
use Rattle.hm_types.specs.Classes.{Assign, at, asked_at, part_list, Respects}
use Rattle.hm_types.specs.Joining.{IsIn}

-- d stands directly in the node
abbrev pub Child : List ℕ → Node → ℕ → Type 0
Child parts Variable d = ⊥
Child parts (Made f i k) d = IsIn d (part_list parts i k)
Child parts (Link e) d = e ≡ d

-- no type holds itself: the numbers fall towards the parts
abbrev pub Ranked : List ℕ → List Node → (ℕ → ℕ) → Type 0
Ranked parts nodes r = (c d : ℕ) → Child parts (at nodes c) d → r d < r c

abbrev pub mark_at : List ℕ → ℕ → ℕ
mark_at marks c = get_or marks c 0

-- the class needs no search before those above it: it is older, or has a number
abbrev pub IsReady : List Asked → List ℕ → ℕ → ℕ → ℕ → Type 0
IsReady asked marks floor birth d = ((asked_at asked d).birth < birth) ⊎ (floor < mark_at marks d)

-- the classes with numbers have their parts numbered lower, or older
pub record Numbered (parts : List ℕ) (nodes : List Node) (asked : List Asked) (marks : List ℕ) (floor stamp : ℕ) : Type 0 where
  pub long : length marks ≡ length nodes
  pub after : floor ≤ stamp
  pub below : (c : ℕ) → mark_at marks c ≤ stamp
  pub falls : (c d : ℕ) → floor < mark_at marks c → Child parts (at nodes c) d →
      ((asked_at asked d).birth < (asked_at asked c).birth) ⊎ ((floor < mark_at marks d) × (mark_at marks d < mark_at marks c))

-- the classes on the way, each standing in the one before it, are just those that are on the floor
pub record IsPath (parts : List ℕ) (nodes : List Node) (marks : List ℕ) (floor : ℕ) (path : List ℕ) : Type 0 where
  pub within : (p : ℕ) → p < length path → get_or path p 0 < length nodes
  pub opened : (p : ℕ) → p < length path → mark_at marks (get_or path p 0) ≡ floor
  pub apart : (p q : ℕ) → p < q → q < length path → get_or path p 0 ≡ get_or path q 0 → ⊥
  pub leads : (p : ℕ) → suc p < length path → Child parts (at nodes (get_or path p 0)) (get_or path (suc p) 0)
  pub all : (c : ℕ) → mark_at marks c ≡ floor → IsIn c path

-- how many classes are still unseen
unfoldable pub unseen : ℕ → List ℕ → ℕ
unseen floor [] = 0
unseen floor (m ∷ marks) = (if ltb m floor then 1 else 0) + unseen floor marks

abbrev pub Stamped : ℕ → List ℕ → ℕ → Type 0
Stamped n marks stamp = (length marks ≡ n) × ((c : ℕ) → mark_at marks c ≤ stamp)

-- no assignment respects the nodes
abbrev pub IsEndless : List ℕ → List Node → Type 0
IsEndless parts nodes = (s : Assign) → Respects parts nodes s → ⊥

-- the listed classes have numbers, and those with numbers have their parts numbered lower, or older
pub record Searched (parts : List ℕ) (nodes : List Node) (asked : List Asked) (marks : List ℕ) (floor : ℕ) (changed : List ℕ) : Type 0 where
  pub falls : (c d : ℕ) → floor < mark_at marks c → Child parts (at nodes c) d →
      ((asked_at asked d).birth < (asked_at asked c).birth) ⊎ ((floor < mark_at marks d) × (mark_at marks d < mark_at marks c))
  pub all : (c : ℕ) → IsIn c changed → floor < mark_at marks c
