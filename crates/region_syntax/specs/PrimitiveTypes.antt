-- The types with places that a primitive may have. Of this project, over the table of the basis.
-- A value that a primitive makes has one place for itself and all its parts. It follows the boxed parts of its arguments that its row names; values
-- that it compares or that a cache keeps it follows with all their parts. Making a `bool` or an `order` has no effect.
use Rattle.std.specs.Prelude.{ℕ, nat_eq, Bool, true, false, ◌&&◌, ◌||◌, if◌then◌else◌, List, [], ◌∷◌, Option, Some, None, codes}
use Rattle.std.specs.Option.{option_and_then, option_map_or}
use Rattle.std.specs.List.{list_all}
use Rattle.type_terms.specs.TypeTerms as s
use Rattle.type_terms.specs.TypeTerms.{Schemes}
use Rattle.basis_table.specs.BasisTable as b
use Rattle.basis_table.specs.BasisTable.{BasisScheme, TypeName, basis_values}
use Rattle.std.specs.Str.{bytes_eq}
use Rattle.region_syntax.specs.declared.types.Place.{Place}
use Rattle.region_syntax.specs.declared.types.Place.TheVariants as place
use Rattle.region_syntax.specs.declared.types.Effect.{Effect}
use Rattle.region_syntax.specs.GroundTypes as g
use Rattle.region_syntax.specs.GroundTypes.{GroundType, GroundTypes}
use Rattle.region_syntax.specs.RegionTypes as t
use Rattle.region_syntax.specs.RegionTypes.{RegionType, RegionTypes, erased_type}
use Rattle.region_syntax.specs.Effects.{same_place, is_place_in, no_effect, on, both, within, same_ground, same_type, all_of}

-- The row of a primitive in the table of the basis. `ref`, which stands there too, is no primitive but a constructor.
abbrev pub scheme_among : List ℕ → List (List ℕ × BasisScheme) → Option BasisScheme
scheme_among name [] = None
scheme_among name (row ∷ rows) = if bytes_eq row.0 name then Some row.1 else scheme_among name rows

unfoldable pub primitive_scheme : List ℕ → Option BasisScheme
primitive_scheme name = if bytes_eq name (codes "ref") then None else scheme_among name basis_values

-- what a variable of a row stands for: a type with places, or one without, in a cache or description
pub data Filled : Type 0 where
  with_places : RegionType → Filled
  without_places : GroundType → Filled

-- the variables so far, and the places that are followed or made in
pub record Matched : Type 0 where
  pub filled : List (ℕ × Filled)
  pub places : Effect

abbrev pub matched : List (ℕ × Filled) → Effect → Matched
matched filled places = record { filled = filled; places = places }

abbrev pub also : Effect → Matched → Matched
also e m = matched m.filled (both e m.places)

unfoldable pub filled_at : ℕ → List (ℕ × Filled) → Option Filled
filled_at n [] = None
filled_at n (f ∷ fs) = if nat_eq f.0 n then Some f.1 else filled_at n fs

-- the number of the datatype that a type of the basis is
unfoldable pub is_datatype : ℕ → ℕ → Bool
is_datatype n k = (nat_eq n 5 && nat_eq k 0) || (nat_eq n 6 && nat_eq k 1) || (nat_eq n 7 && nat_eq k 2) || (nat_eq n 8 && nat_eq k 3) || (nat_eq n 9 && nat_eq k 4) || (nat_eq n 13 && nat_eq k 5)

-- a type without places at a variable
unfoldable pub ground_at_variable : ℕ → GroundType → Option Filled → Matched → Option Matched
ground_at_variable n a None m = Some (matched ((n, without_places a) ∷ m.filled) m.places)
ground_at_variable n a (Some (with_places c)) m = if same_ground a (erased_type c) then Some m else None
ground_at_variable n a (Some (without_places c)) m = if same_ground a c then Some m else None

-- a type without parts of the basis
unfoldable pub is_plain : ℕ → GroundType → Bool
is_plain n g.Int = nat_eq n 0
is_plain n g.Char = nat_eq n 1
is_plain n g.Str = nat_eq n 2
is_plain n g.Exn = nat_eq n 3
is_plain n g.Unit = nat_eq n 4
is_plain n _ = false

-- a type without places as a row has it
unfoldable mutual
  pub ground_at : BasisScheme → GroundType → Matched → Option Matched
  ground_at (s.place e n) a m = ground_at_variable n a (filled_at n m.filled) m
  ground_at (s.open_made (b.Basis n) ss) (g.Data k ts) m = if is_datatype n k then grounds_at ss ts m else None
  ground_at (s.open_made (b.Tuple k) ss) (g.Tuple ts) m = grounds_at ss ts m
  ground_at (s.open_made (b.Basis n) s.no_schemes) a m = if is_plain n a then Some m else None
  ground_at _ a m = None

  pub grounds_at : Schemes TypeName → GroundTypes → Matched → Option Matched
  grounds_at s.no_schemes g.no_types m = Some m
  grounds_at (s.schemes x xs) (g.types a ts) m = option_and_then (grounds_at xs ts) (ground_at x a m)
  grounds_at _ _ m = None

-- a type at a variable: the first one fills it, any other is the same; with equality, or from a cache, all its parts are followed or made
unfoldable pub type_at_variable : Bool → ℕ → RegionType → Option Filled → Matched → Option Matched
type_at_variable equality n a None m = Some (matched ((n, with_places a) ∷ m.filled) (if equality then both (all_of a) m.places else m.places))
type_at_variable equality n a (Some (with_places c)) m = if same_type a c then Some m else None
type_at_variable equality n a (Some (without_places c)) m = if same_ground (erased_type a) c then Some (also (all_of a) m) else None

-- the place of a datatype's value: that of a `bool` or `order` is neither followed nor made in
unfoldable pub on_data : ℕ → Place → Effect
on_data k p = if nat_eq k 0 || nat_eq k 3 then no_effect else on p

-- a type as a row has it
unfoldable mutual
  pub type_matches : BasisScheme → RegionType → Matched → Option Matched
  type_matches (s.place e n) a m = type_at_variable e n a (filled_at n m.filled) m
  type_matches (s.open_made (b.Basis n) ss) (t.Data k ts p e) m = if is_datatype n k then types_match ss ts (also (on_data k p) m) else None
  type_matches (s.open_made (b.Tuple k) ss) (t.Tuple p ts) m = types_match ss ts (also (on p) m)
  type_matches (s.open_made (b.Basis n) (s.schemes x s.no_schemes)) (t.Ref p a) m = if nat_eq n 10 then type_matches x a (also (on p) m) else None
  type_matches (s.open_made (b.Basis n) (s.schemes x s.no_schemes)) (t.Desc a) m = if nat_eq n 11 then ground_at x a m else None
  type_matches (s.open_made (b.Basis n) (s.schemes x (s.schemes y s.no_schemes))) (t.Cache p a c) m =
      if nat_eq n 12 then option_and_then (ground_at y c) (ground_at x a (also (on p) m)) else None
  type_matches (s.open_made (b.Basis n) s.no_schemes) (t.Str p) m = if nat_eq n 2 then Some (also (on p) m) else None
  type_matches (s.open_made (b.Basis n) s.no_schemes) t.Exn m = if nat_eq n 3 then Some (also (on place.Global) m) else None
  type_matches (s.open_made (b.Basis n) s.no_schemes) a m = if is_plain n (erased_type a) then Some m else None
  type_matches _ a m = None

  pub types_match : Schemes TypeName → RegionTypes → Matched → Option Matched
  types_match s.no_schemes t.no_types m = Some m
  types_match (s.schemes x xs) (t.types a ts) m = option_and_then (types_match xs ts) (type_matches x a m)
  types_match _ _ m = None

-- all these places are one
unfoldable pub is_one_place : List Place → Bool
is_one_place [] = true
is_one_place (p ∷ ps) = list_all (same_place p) ps

-- the arguments are followed, and the result is made in one place, within the function's effect
unfoldable pub result_fits : Effect → Effect → Matched → Bool
result_fits effect followed made = is_one_place made.places.regions && within followed effect && within made.places effect

-- A type as a row has it. A primitive with some of its arguments is a value where its type says, which the call before makes.
unfoldable pub row_fits : BasisScheme → RegionType → Matched → Bool
row_fits (s.open_made b.Arrow (s.schemes x (s.schemes (s.open_made b.Arrow ss) s.no_schemes))) (t.Arrow p a e (t.Arrow q c f d)) m =
    is_place_in q e.regions && option_map_or (row_fits (s.open_made b.Arrow ss) (t.Arrow q c f d)) (type_matches x a m) false
row_fits (s.open_made b.Arrow (s.schemes x (s.schemes y s.no_schemes))) (t.Arrow p a e c) m =
    option_map_or (λ n. option_map_or (result_fits e n.places) (type_matches y c (matched n.filled no_effect)) false) (type_matches x a m) false
row_fits x a m = option_map_or (λ n. true) (type_matches x a m) false

-- the text of a cache's name lies in the place of the cache
unfoldable pub name_lies_there : RegionType → Bool
name_lies_there (t.Arrow p (t.Tuple q (t.types a (t.types c (t.types (t.Str name) ts)))) e (t.Cache r k v)) = same_place name r
name_lies_there _ = true

-- a primitive of the table at a type
unfoldable pub primitive_fits : List ℕ → RegionType → Bool
primitive_fits name a = option_map_or (λ scheme. row_fits scheme a (matched [] no_effect) && name_lies_there a) (primitive_scheme name) false
