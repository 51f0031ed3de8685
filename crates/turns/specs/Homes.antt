-- The slots of objects: while nobody has the turn of an object, its value lies at home in its slot, and is what it should be.
use Rattle.std.specs.Prelude.{◌≡◌, ℕ, ◌<◌, false, List}
use mathlib.Core.Option.{Option, some}
use lib.ListN.{get_elem?}
use Rattle.turns.specs.Turns.{Stand, At}

-- nobody has the turn of the object
abbrev pub IsFree : ℕ → List Stand → Type 0
IsFree object stands = (j : ℕ) (v : Stand) → At stands j v → v.object ≡ object → v.turn ≡ false

-- `lies` says of an object's value that it is what it should be
pub record AreHome {S : Type 0} (objects : ℕ) (lies : ℕ → S → Type 0) (stands : List Stand) (homes : List (Option S)) : Type 0 where
  pub home : (o : ℕ) → o < objects → IsFree o stands → (y : S) × (get_elem? homes o ≡ some (some y)) × lies o y
