-- What is asked of the datatypes that a type names: that they are there, and that equality can go through them. Of this project.
use Rattle.std.specs.Prelude.{ℕ, zero, suc, nat_eq, nat_lt, Bool, true, false, ◌&&◌, if◌then◌else◌, List, [], ◌∷◌, ◌++◌, length, Option, Some, None}
use Rattle.std.specs.Option.{option_map_or}
use Rattle.std.specs.List.{list_all, slice_get}
use Rattle.region_syntax.specs.GroundTypes as g
use Rattle.region_syntax.specs.GroundTypes.{GroundType, GroundTypes, many_types}
use Rattle.region_syntax.specs.GroundTerms.{Datatype}
use Rattle.region_syntax.specs.Effects.{is_number_in}
use Rattle.region_syntax.specs.Cost.{distinct}

-- Each datatype that a type names is there and has as many arguments as parameters, and the type names none but so many parameters.
unfoldable mutual
  pub stands_over : ℕ → List Datatype → GroundType → Bool
  stands_over params ds (g.Tuple ts) = each_stands_over params ds ts
  stands_over params ds (g.Arrow a b) = stands_over params ds a && stands_over params ds b
  stands_over params ds (g.Data n ts) = option_map_or (λ d. nat_eq d.params (many_types ts)) (slice_get ds n) false && each_stands_over params ds ts
  stands_over params ds (g.Ref a) = stands_over params ds a
  stands_over params ds (g.Cache a b) = stands_over params ds a && stands_over params ds b
  stands_over params ds (g.Desc a) = stands_over params ds a
  stands_over params ds (g.Var n) = nat_lt n params
  stands_over params ds _ = true

  pub each_stands_over : ℕ → List Datatype → GroundTypes → Bool
  each_stands_over params ds g.no_types = true
  each_stands_over params ds (g.types x xs) = stands_over params ds x && each_stands_over params ds xs

-- The type of a term names no parameter.
abbrev pub type_stands : List Datatype → GroundType → Bool
type_stands ds a = stands_over 0 ds a

-- the arguments of a datatype's constructors, which name its parameters
abbrev pub declaration_stands : List Datatype → Datatype → Bool
declaration_stands ds d = list_all (λ c. option_map_or (λ a. stands_over d.params ds a) c.1 true) d.constructors

-- the argument of an exception, which names no parameter
abbrev pub argument_stands : List Datatype → Option GroundType → Bool
argument_stands ds a = option_map_or (type_stands ds) a true

-- the datatypes that a type names
unfoldable mutual
  pub named_in : GroundType → List ℕ
  named_in (g.Tuple ts) = named_in_each ts
  named_in (g.Arrow a b) = named_in a ++ named_in b
  named_in (g.Data n ts) = n ∷ named_in_each ts
  named_in (g.Ref a) = named_in a
  named_in (g.Cache a b) = named_in a ++ named_in b
  named_in (g.Desc a) = named_in a
  named_in _ = []

  pub named_in_each : GroundTypes → List ℕ
  named_in_each g.no_types = []
  named_in_each (g.types x xs) = named_in x ++ named_in_each xs

-- those that constructors name
unfoldable pub named_by : List (List ℕ × Option GroundType) → List ℕ
named_by [] = []
named_by ((name, None) ∷ cs) = named_by cs
named_by ((name, Some a) ∷ cs) = named_in a ++ named_by cs

-- those that the declarations of these name
unfoldable pub named_by_each : List Datatype → List ℕ → List ℕ
named_by_each ds [] = []
named_by_each ds (n ∷ ns) = option_map_or (λ d. named_by d.constructors) (slice_get ds n) [] ++ named_by_each ds ns

-- these datatypes, and those that so many declarations in turn lead to
unfoldable pub led_to : ℕ → List Datatype → List ℕ → List ℕ
led_to zero ds ns = ns
led_to (suc k) ds ns = led_to k ds (distinct (ns ++ named_by_each ds ns))

-- these datatypes, and all that their declarations lead to
abbrev pub reached : List Datatype → List ℕ → List ℕ
reached ds ns = led_to (length ds) ds ns

unfoldable pub are_parameters : GroundTypes → Bool
are_parameters g.no_types = true
are_parameters (g.types (g.Var n) ts) = are_parameters ts
are_parameters _ = false

-- each datatype of these that a type names has parameters alone as arguments
unfoldable mutual
  pub at_parameters : (ℕ → Bool) → GroundType → Bool
  at_parameters these (g.Tuple ts) = each_at_parameters these ts
  at_parameters these (g.Arrow a b) = at_parameters these a && at_parameters these b
  at_parameters these (g.Data n ts) = (if these n then are_parameters ts else true) && each_at_parameters these ts
  at_parameters these (g.Ref a) = at_parameters these a
  at_parameters these (g.Cache a b) = at_parameters these a && at_parameters these b
  at_parameters these (g.Desc a) = at_parameters these a
  at_parameters these _ = true

  pub each_at_parameters : (ℕ → Bool) → GroundTypes → Bool
  each_at_parameters these g.no_types = true
  each_at_parameters these (g.types x xs) = at_parameters these x && each_at_parameters these xs

unfoldable pub constructors_at_parameters : (ℕ → Bool) → List (List ℕ × Option GroundType) → Bool
constructors_at_parameters these [] = true
constructors_at_parameters these ((name, None) ∷ cs) = constructors_at_parameters these cs
constructors_at_parameters these ((name, Some a) ∷ cs) = at_parameters these a && constructors_at_parameters these cs

-- A datatype is uniform: in its declaration it has parameters alone as arguments, and so has each datatype that leads back to it.
abbrev pub is_uniform : List Datatype → ℕ → Bool
is_uniform ds n =
    option_map_or (λ d. constructors_at_parameters (λ k. is_number_in n (reached ds (k ∷ []))) d.constructors) (slice_get ds n) false

-- All datatypes under a type are uniform. So the types of the parts of its values are finitely many.
abbrev pub are_uniform : List Datatype → GroundType → Bool
are_uniform ds a = list_all (is_uniform ds) (reached ds (named_in a))
