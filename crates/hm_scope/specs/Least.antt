-- The least place that something holds of, and what a search for it has seen. Of this project.
use Rattle.std.specs.Prelude.{◌≡◌, ◌⊎◌, ℕ, ◌≤◌, List, [], ◌∷◌, Option, Some, None}
use Rattle.sml_syntax.specs.declared.tree.Ty.{Ty}
use Rattle.sml_syntax.specs.declared.tree.Dec.{Dec}
use Rattle.sml_syntax.specs.declared.tree.Piece.{Piece}
use Rattle.typing_rules.specs.Scope.{Names, IsOneOf, Adds, AddsAll, inside, antiquoted, Constructors, UnboundInType, UnboundInExp, UnboundInDec, UnboundInDecs, first_parts, TypeBinding, DatatypeBinding, as_constructors, constructor_names, type_names, datatype_names}

-- the least place that P holds of, none where it holds of none
abbrev pub IsLeast : (ℕ → Type 0) → Option ℕ → Type 0
IsLeast P None = (p : ℕ) → P p → ⊥
IsLeast P (Some place) = P place × ((p : ℕ) → P p → place ≤ p)

-- A search: the names in scope, and the least place found so far.
pub record Seen : Type 0 where
  pub names : Names
  pub first : Option ℕ

-- the place is the one found before, or one that P holds of
abbrev pub With : Option ℕ → (ℕ → Type 0) → ℕ → Type 0
With found P p = (found ≡ Some p) ⊎ P p

-- the search has seen all that P holds of; the names are as before
pub record Sees (P : ℕ → Type 0) (old new : Seen) : Type 0 where
  pub same : new.names ≡ old.names
  pub least : IsLeast (With old.first P) new.first

-- P holds of the place for one of the list
abbrev pub Some_of : {A : Type 0} → (A → ℕ → Type 0) → List A → ℕ → Type 0
Some_of {A} P xs place = (x : A) × IsOneOf x xs × P x place

-- the same, where a declaration has added these names
pub record SeesDec (d : Dec) (old new : Seen) : Type 0 where
  pub more : Names
  pub adds : Adds old.names d more
  pub names : new.names ≡ inside more old.names
  pub least : IsLeast (With old.first (UnboundInDec old.names d)) new.first

pub record SeesDecs (ds : List Dec) (old new : Seen) : Type 0 where
  pub more : Names
  pub adds : AddsAll old.names ds more
  pub names : new.names ≡ inside more old.names
  pub least : IsLeast (With old.first (UnboundInDecs old.names ds)) new.first

-- in the argument of one constructor
abbrev pub InArgument : Names → List (List ℕ) → List ℕ × Option Ty → ℕ → Type 0
InArgument scope variables constructor place = (t : Ty) × (constructor.1 ≡ Some t) × UnboundInType scope variables t place

-- in the argument of one of the constructors
abbrev pub InArguments : Names → List (List ℕ) → Constructors → ℕ → Type 0
InArguments scope variables = Some_of (InArgument scope variables)

-- in a part of a quotation
abbrev pub InPiece : Names → Piece → ℕ → Type 0
InPiece scope piece = Some_of (UnboundInExp scope) (antiquoted (piece ∷ []))

-- abbreviations were seen, and have added their names
pub record SeesAbbreviations (binds : List TypeBinding) (old new : Seen) : Type 0 where
  pub names : new.names ≡ inside (record { values = []; types = type_names binds }) old.names
  pub least : IsLeast (With old.first (Some_of (λ bind. UnboundInType old.names bind.0 bind.2) binds)) new.first

-- datatypes were seen inside their names, and have added these and their constructors
pub record SeesDatatypes (binds : List DatatypeBinding) (old new : Seen) : Type 0 where
  pub names : new.names ≡ inside (record { values = as_constructors (constructor_names binds); types = datatype_names binds }) old.names
  pub least : IsLeast (With old.first (Some_of (λ bind. InArguments (inside (record { values = []; types = datatype_names binds }) old.names) bind.0 bind.2) binds)) new.first

-- exceptions were seen, and have added their constructors
pub record SeesExceptions (binds : Constructors) (old new : Seen) : Type 0 where
  pub names : new.names ≡ inside (record { values = as_constructors (first_parts binds); types = [] }) old.names
  pub least : IsLeast (With old.first (InArguments old.names [] binds)) new.first
