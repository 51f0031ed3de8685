-- What the calls of the table of types do. Of this project.
use Rattle.std.specs.Prelude.{◌≡◌, ℕ, ◌<◌, List, length}
use Rattle.hm_types.specs.Classes.{TypeGraph, name_at, terms_of}
use Rattle.hm_types.specs.Joining.{Within}
use Rattle.hm_types.specs.Solving.{Joins, OneMore}
use Rattle.type_terms.specs.TypeTerms.{made}

-- the name is one of the table, the parts are its classes, and as many as the name takes
abbrev pub IsApplied : TypeGraph → ℕ → List ℕ → Type 0
IsApplied g name parts = (name < length g.names) × (length parts ≡ (name_at g.names name).arity) × Within (length g.nodes) parts

-- the class is new, and stands for the name over the parts
abbrev pub IsMade : TypeGraph → TypeGraph → ℕ → List ℕ → ℕ → Type 0
IsMade g h name parts c = (c ≡ length g.nodes) × OneMore g h × Joins g h (λ s. s c ≡ made name (terms_of s parts))
