-- The solutions of a table, and what each call does to them. Of this project.
use Rattle.std.specs.Prelude.{◌≡◌, ℕ, ◌+◌, ◌<◌, ◌≤◌, [], ◌∷◌, ◌++◌, length, false}
use Rattle.hm_types.specs.Classes.{Assign, TypeGraph, Respects, Meets, Allows, at, asked_at}
use Rattle.hm_types.specs.declared.node.Node.TheVariants.{Variable}
use Rattle.hm_types.specs.declared.node.Equality.{Equality}

-- an assignment solves the table: each class has what its node says and what is asked of it; after a clash none does
pub record Solves (g : TypeGraph) (s : Assign) : Type 0 where
  pub sound : g.clashed ≡ false
  pub holds : Respects g.parts g.nodes s
  pub meets : Meets g.names g.asked s

-- the solutions of the second table are those of the first that have the property
pub record Joins (g h : TypeGraph) (P : Assign → Type 0) : Type 0 where
  pub old : (s : Assign) → Solves h s → Solves g s
  pub new : (s : Assign) → Solves h s → P s
  pub both : (s : Assign) → Solves g s → P s → Solves h s

-- The table is in solved form: what its variables stand for may be chosen, in each allowed way, and the choice gives all of a solution.
pub record Solved (g : TypeGraph) : Type 0 where
  pub each : (v : Assign) → ((c : ℕ) → c < length g.nodes → at g.nodes c ≡ Variable → Allows g.names (asked_at g.asked c) (v c)) →
      (s : Assign) × Solves g s × ((c : ℕ) → c < length g.nodes → at g.nodes c ≡ Variable → s c ≡ v c)
  pub only : (s u : Assign) → Solves g s → Solves g u → ((c : ℕ) → c < length g.nodes → at g.nodes c ≡ Variable → s c ≡ u c) →
      (c : ℕ) → c < length g.nodes → s c ≡ u c
  pub some : (s : Assign) × Solves g s

-- a most general unifier: the solutions left are those that make the two equal, and there is one
pub record MostGeneral (g h : TypeGraph) (a b : ℕ) : Type 0 where
  pub joins : Joins g h (λ s. s a ≡ s b)
  pub solved : Solved h

-- no solution makes the two equal
abbrev pub HasNoUnifier : TypeGraph → ℕ → ℕ → Type 0
HasNoUnifier g a b = (s : Assign) → Solves g s → s a ≡ s b → ⊥

-- as many classes as before, and the same type names and parts
pub record SameClasses (g h : TypeGraph) : Type 0 where
  pub names : h.names ≡ g.names
  pub parts : h.parts ≡ g.parts
  pub nodes : length h.nodes ≡ length g.nodes
  pub asked : length h.asked ≡ length g.asked

-- one class more than before, the same type names, and the flags as they were
pub record OneMore (g h : TypeGraph) : Type 0 where
  pub names : h.names ≡ g.names
  pub nodes : length h.nodes ≡ length g.nodes + 1
  pub clashed : h.clashed ≡ g.clashed
  pub spent : h.spent ≡ g.spent
  pub older : (c : ℕ) → c < length g.nodes → (at h.nodes c ≡ at g.nodes c) × (asked_at h.asked c ≡ asked_at g.asked c)

-- one type name more, born now; nothing else changes
pub record IsDeclared (g h : TypeGraph) (arity : ℕ) (equality : Equality) : Type 0 where
  pub names : h.names ≡ g.names ++ record { arity = arity; equality = equality; birth = length g.nodes } ∷ []
  pub parts : h.parts ≡ g.parts
  pub nodes : h.nodes ≡ g.nodes
  pub asked : h.asked ≡ g.asked
  pub clashed : h.clashed ≡ g.clashed
  pub spent : h.spent ≡ g.spent

-- some classes more than before, the same type names, and the flags as they were
pub record Grows (g h : TypeGraph) : Type 0 where
  pub names : h.names ≡ g.names
  pub nodes : length g.nodes ≤ length h.nodes
  pub clashed : h.clashed ≡ g.clashed
  pub spent : h.spent ≡ g.spent
  pub older : (c : ℕ) → c < length g.nodes → (at h.nodes c ≡ at g.nodes c) × (asked_at h.asked c ≡ asked_at g.asked c)
