-- The front of a text.
use Rattle.std.specs.Prelude.{ℕ, Bool, true, false, ◌==◌, ◌&&◌, List, [], ◌∷◌}

-- whether the text begins with these bytes
abbrev pub begins_with : List ℕ → List ℕ → Bool
begins_with [] text = true
begins_with (f ∷ front) [] = false
begins_with (f ∷ front) (b ∷ text) = f == b && begins_with front text
