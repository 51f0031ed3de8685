-- How code compares two values of a type. Of this project.
use Rattle.std.specs.Prelude.{ℕ, nat_le, Bool, true, false, if◌then◌else◌, List, [], ◌∷◌, Option, Some, None}
use Rattle.std.specs.Option.{option_map_or}
use Rattle.std.specs.List.{slice_get}
use Rattle.region_syntax.specs.GroundTypes as g
use Rattle.region_syntax.specs.GroundTypes.{GroundType, many_types}
use Rattle.region_syntax.specs.GroundTerms.{Datatype}
use Rattle.region_syntax.specs.Effects.{same_ground}

-- by their words, as texts, part after part, by the function that runs, or by a function whose closure lies in a region that is made for it and ended behind it
pub data Way : Type 0 where
  Words : Way
  Texts : Way
  Parts : Way
  Itself : Way
  Function : Way

unfoldable pub all_constant : List (List ℕ × Option GroundType) → Bool
all_constant [] = true
all_constant ((name, None) ∷ cs) = all_constant cs
all_constant ((name, Some a) ∷ cs) = false

-- values of the type are equal exactly where their words are
unfoldable pub is_word : List Datatype → GroundType → Bool
is_word ds g.Int = true
is_word ds g.Char = true
is_word ds g.Unit = true
is_word ds (g.Ref a) = true
is_word ds (g.Data n ts) = option_map_or (λ d. all_constant d.constructors) (slice_get ds n) false
is_word ds _ = false

-- a tuple of few parts
unfoldable pub is_small : GroundType → Bool
is_small (g.Tuple ts) = nat_le (many_types ts) 4
is_small _ = false

unfoldable pub is_text : GroundType → Bool
is_text g.Str = true
is_text _ = false

-- the type of the function of equality that runs is this one
unfoldable pub is_own : Option GroundType → GroundType → Bool
is_own None a = false
is_own (Some own) a = same_ground own a

-- In the function of equality of a type, or outside of any; a small tuple is compared part after part where it may be taken apart: outside of
-- other tuples.
abbrev pub way_of : List Datatype → Option GroundType → Bool → GroundType → Way
way_of ds own apart a =
    if is_word ds a then Words else if is_text a then Texts else if (if apart then is_small a else false) then Parts else if is_own own a then Itself else Function
