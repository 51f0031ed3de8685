-- Joining classes: what is still to be made equal. Of this project.
use Rattle.std.specs.Prelude.{◌≡◌, ℕ, suc, ◌+◌, ◌<◌, ◌≤◌, List, [], ◌∷◌, length, Bool, true, false, ◌⊎◌}
use Rattle.std.proofs.Common.{get_or}
use Rattle.hm_types.specs.declared.node.Node.{Node}
use Rattle.hm_types.specs.declared.node.Node.TheVariants.{Variable, Made, Link}
use Rattle.hm_types.specs.Classes.{Assign, at, Respects}

-- parts stand in the list of parts, and links lead to older classes
abbrev pub Fine : List ℕ → ℕ → Node → Type 0
Fine parts c Variable = Unit {0}
Fine parts c (Made f i k) = i + k ≤ length parts
Fine parts c (Link d) = d < c

abbrev pub IsFine : List ℕ → List Node → Type 0
IsFine parts nodes = (c : ℕ) → Fine parts c (at nodes c)

abbrev pub IsLink : Node → Bool
IsLink Variable = false
IsLink (Made f i k) = false
IsLink (Link d) = true

-- every class of the list is of the table
abbrev pub Within : ℕ → List ℕ → Type 0
Within n parts = (i : ℕ) → i < length parts → get_or parts i 0 < n

abbrev pub IsIn : ℕ → List ℕ → Type 0
IsIn d xs = (j : ℕ) × (j < length xs) × (get_or xs j 0 ≡ d)

-- the pairs have equal types
unfoldable pub Pairs : Assign → List (ℕ × ℕ) → Type 0
Pairs s [] = Unit {0}
Pairs s (p ∷ w) = (s (p.0) ≡ s (p.1)) × Pairs s w

unfoldable pub PairsIn : ℕ → List (ℕ × ℕ) → Type 0
PairsIn n [] = Unit {0}
PairsIn n (p ∷ w) = (p.0 < n) × (p.1 < n) × PairsIn n w

unfoldable pub pairs_of : List ℕ → List ℕ → List (ℕ × ℕ)
pairs_of [] ys = []
pairs_of (x ∷ xs) [] = []
pairs_of (x ∷ xs) (y ∷ ys) = (x, y) ∷ pairs_of xs ys

abbrev pub size_of : Node → ℕ
size_of Variable = 1
size_of (Made f i k) = suc k
size_of (Link d) = 0

unfoldable pub weight : List Node → ℕ
weight [] = 0
weight (v ∷ nodes) = size_of v + weight nodes

-- another table and what is left to do, under which the same assignments stand
pub record Steps (parts : List ℕ) (old : List Node) (work : List (ℕ × ℕ)) (new : List Node) (left : List (ℕ × ℕ)) : Type 0 where
  pub there : (s : Assign) → Respects parts old s → Pairs s work → Respects parts new s × Pairs s left
  pub back : (s : Assign) → Respects parts new s → Pairs s left → Respects parts old s × Pairs s work
  pub fine : IsFine parts new
  pub same_length : length new ≡ length old
  pub pairs_in : PairsIn (length new) left
  pub comes : (c f i k : ℕ) → at new c ≡ Made f i k → (d : ℕ) × (at old d ≡ Made f i k)

-- classes that aren't listed are what they were
pub record Frame (old new : List Node) (before after : List ℕ) : Type 0 where
  pub kept : (c : ℕ) → IsIn c before → IsIn c after
  pub same : (c : ℕ) → (at new c ≡ at old c) ⊎ IsIn c after
  pub within : Within (length old) before → Within (length old) after

abbrev pub NoSolution : List ℕ → List Node → List (ℕ × ℕ) → Type 0
NoSolution parts nodes work = (s : Assign) → Respects parts nodes s → Pairs s work → ⊥

-- the nodes are still those of a table
pub record Keeps (parts : List ℕ) (old new : List Node) : Type 0 where
  pub fine : IsFine parts new
  pub same_length : length new ≡ length old
  pub comes : (c f i k : ℕ) → at new c ≡ Made f i k → (d : ℕ) × (at old d ≡ Made f i k)
