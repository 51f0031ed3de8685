-- The databases that the words of a command give, against those that a project names.
use Rattle.std.specs.Prelude.{ℕ, Bool, ◌&&◌, List, []}
use Rattle.std.specs.List.{list_any, list_all}
use Rattle.std.specs.Str.{bytes_eq}

-- whether a name is one of these
abbrev pub is_among : List (List ℕ) → List ℕ → Bool
is_among names name = list_any (bytes_eq name) names

-- whether each of these names is one of others
abbrev pub are_among : List (List ℕ) → List (List ℕ) → Bool
are_among others names = list_all (is_among others) names

-- whether two lists hold the same names, in whatever order and however often
abbrev pub same_names : List (List ℕ) → List (List ℕ) → Bool
same_names given named = are_among named given && are_among given named

-- the names of the databases that the words of a command give: so far no word gives one
abbrev pub given_by : List (List ℕ) → List (List ℕ)
given_by words = []
