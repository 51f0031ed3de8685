-- Fields, one by one.
use Rattle.std.specs.Prelude.{ℕ, Bool, true, false, List, [], ◌∷◌, if◌then◌else◌}
use Rattle.http_read.specs.Head.{Field, is_named}

-- after one field with the name or none, exactly one of all has it
abbrev pub is_lone_after : List ℕ → Bool → List Field → Bool
is_lone_after name seen [] = seen
is_lone_after name seen (field ∷ fields) =
    if is_named name field then (if seen then false else is_lone_after name true fields) else is_lone_after name seen fields
