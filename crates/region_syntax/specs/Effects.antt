-- Places and effects as sets, and what stands in a type. Tofte and Talpin's region calculus: free regions, substitution; the rest is of this project.
use Rattle.std.specs.Prelude.{ℕ, zero, suc, nat_eq, Bool, true, false, ◌&&◌, if◌then◌else◌, List, [], ◌∷◌, ◌++◌, Option, Some, None, map}
use Rattle.std.specs.Option.{option_map}
use Rattle.std.specs.List.{list_all}
use Rattle.region_syntax.specs.declared.types.Place.{Place}
use Rattle.region_syntax.specs.declared.types.Place.TheVariants as place
use Rattle.region_syntax.specs.declared.types.Effect.{Effect}
use Rattle.region_syntax.specs.GroundTypes as g
use Rattle.region_syntax.specs.GroundTypes.{GroundType, GroundTypes, with_types}
use Rattle.region_syntax.specs.RegionTypes as t
use Rattle.region_syntax.specs.RegionTypes.{RegionType, RegionTypes, erased_types}

unfoldable pub same_place : Place → Place → Bool
same_place place.Global place.Global = true
same_place (place.Reg a) (place.Reg b) = nat_eq a b
same_place _ _ = false

unfoldable pub is_place_in : Place → List Place → Bool
is_place_in p [] = false
is_place_in p (q ∷ qs) = if same_place p q then true else is_place_in p qs

unfoldable pub is_number_in : ℕ → List ℕ → Bool
is_number_in n [] = false
is_number_in n (m ∷ ms) = if nat_eq n m then true else is_number_in n ms

abbrev pub effect_of : List Place → List ℕ → Effect
effect_of regions vars = record { regions = regions; vars = vars }

abbrev pub no_effect : Effect
no_effect = effect_of [] []

-- the effect of making or following a value there
abbrev pub on : Place → Effect
on p = effect_of (p ∷ []) []

abbrev pub both : Effect → Effect → Effect
both a b = effect_of (a.regions ++ b.regions) (a.vars ++ b.vars)

-- each place and variable of the first stands in the second
unfoldable pub within : Effect → Effect → Bool
within a b = list_all (λ p. is_place_in p b.regions) a.regions && list_all (λ n. is_number_in n b.vars) a.vars

unfoldable pub same_effect : Effect → Effect → Bool
same_effect a b = within a b && within b a

-- the places that aren't among these regions
unfoldable pub places_without : List ℕ → List Place → List Place
places_without rs [] = []
places_without rs (place.Global ∷ ps) = place.Global ∷ places_without rs ps
places_without rs (place.Reg n ∷ ps) = if is_number_in n rs then places_without rs ps else place.Reg n ∷ places_without rs ps

-- an effect without these regions
unfoldable pub without : List ℕ → Effect → Effect
without rs a = effect_of (places_without rs a.regions) a.vars

-- equality of types, those of functions with equal effects
unfoldable mutual
  pub same_ground : GroundType → GroundType → Bool
  same_ground g.Int g.Int = true
  same_ground g.Char g.Char = true
  same_ground g.Str g.Str = true
  same_ground g.Unit g.Unit = true
  same_ground g.Exn g.Exn = true
  same_ground (g.Tuple xs) (g.Tuple ys) = same_grounds xs ys
  same_ground (g.Arrow a b) (g.Arrow c d) = same_ground a c && same_ground b d
  same_ground (g.Data n xs) (g.Data m ys) = nat_eq n m && same_grounds xs ys
  same_ground (g.Ref a) (g.Ref b) = same_ground a b
  same_ground (g.Cache a b) (g.Cache c d) = same_ground a c && same_ground b d
  same_ground (g.Desc a) (g.Desc b) = same_ground a b
  same_ground (g.Var n) (g.Var m) = nat_eq n m
  same_ground _ _ = false

  pub same_grounds : GroundTypes → GroundTypes → Bool
  same_grounds g.no_types g.no_types = true
  same_grounds (g.types x xs) (g.types y ys) = same_ground x y && same_grounds xs ys
  same_grounds _ _ = false

unfoldable mutual
  pub same_type : RegionType → RegionType → Bool
  same_type t.Int t.Int = true
  same_type t.Char t.Char = true
  same_type t.Unit t.Unit = true
  same_type (t.Str p) (t.Str q) = same_place p q
  same_type (t.Tuple p xs) (t.Tuple q ys) = same_place p q && same_types xs ys
  same_type (t.Arrow p a e b) (t.Arrow q c f d) = same_place p q && same_effect e f && same_type a c && same_type b d
  same_type (t.Data n xs p e) (t.Data m ys q f) = nat_eq n m && same_place p q && same_effect e f && same_types xs ys
  same_type (t.Ref p a) (t.Ref q b) = same_place p q && same_type a b
  same_type t.Exn t.Exn = true
  same_type (t.Cache p a b) (t.Cache q c d) = same_place p q && same_ground a c && same_ground b d
  same_type (t.Desc a) (t.Desc b) = same_ground a b
  same_type _ _ = false

  pub same_types : RegionTypes → RegionTypes → Bool
  same_types t.no_types t.no_types = true
  same_types (t.types x xs) (t.types y ys) = same_type x y && same_types xs ys
  same_types _ _ = false

-- every place and effect variable that stands in a type, those of its functions' effects too
unfoldable mutual
  pub all_of : RegionType → Effect
  all_of t.Int = no_effect
  all_of t.Char = no_effect
  all_of t.Unit = no_effect
  all_of (t.Str p) = on p
  all_of (t.Tuple p xs) = both (on p) (all_of_each xs)
  all_of (t.Arrow p a e b) = both (on p) (both (all_of a) (both e (all_of b)))
  all_of (t.Data n xs p e) = both (on p) (both e (all_of_each xs))
  all_of (t.Ref p a) = both (on p) (all_of a)
  all_of t.Exn = on place.Global
  all_of (t.Cache p a b) = on p
  all_of (t.Desc a) = no_effect

  pub all_of_each : RegionTypes → Effect
  all_of_each t.no_types = no_effect
  all_of_each (t.types x xs) = both (all_of x) (all_of_each xs)

-- none of these regions, and none of these variables, stands in an effect
unfoldable pub is_free_of : List ℕ → List ℕ → Effect → Bool
is_free_of rs es a = list_all (λ r. if is_place_in (place.Reg r) a.regions then false else true) rs && list_all (λ e. if is_number_in e a.vars then false else true) es

-- the place of a boxed value of a type
unfoldable pub place_of : RegionType → Option Place
place_of (t.Str p) = Some p
place_of (t.Tuple p xs) = Some p
place_of (t.Arrow p a e b) = Some p
place_of (t.Data n xs p e) = Some p
place_of (t.Ref p a) = Some p
place_of t.Exn = Some place.Global
place_of (t.Cache p a b) = Some p
place_of _ = None

-- making or following a value of a type
abbrev pub on_some : Option Place → Effect
on_some None = no_effect
on_some (Some p) = on p

unfoldable pub on_type : RegionType → Effect
on_type a = on_some (place_of a)

-- the places and effects that an instance puts in
abbrev pub Instance : Type 0
Instance = (ℕ → Place) × (ℕ → Effect)

-- by position: the place or effect for a bound one, any other stays
unfoldable pub place_for : List ℕ → List Place → ℕ → Place
place_for (r ∷ rs) (p ∷ ps) n = if nat_eq r n then p else place_for rs ps n
place_for _ _ n = place.Reg n

unfoldable pub effect_for : List ℕ → List Effect → ℕ → Effect
effect_for (e ∷ es) (f ∷ fs) n = if nat_eq e n then f else effect_for es fs n
effect_for _ _ n = effect_of [] (n ∷ [])

unfoldable pub put_place : Instance → Place → Place
put_place i place.Global = place.Global
put_place i (place.Reg n) = i.0 n

unfoldable pub put_vars : Instance → List ℕ → Effect
put_vars i [] = no_effect
put_vars i (n ∷ ns) = both (i.1 n) (put_vars i ns)

unfoldable pub put_effect : Instance → Effect → Effect
put_effect i a = both (effect_of (map (put_place i) a.regions) []) (put_vars i a.vars)

unfoldable mutual
  pub put : Instance → RegionType → RegionType
  put i t.Int = t.Int
  put i t.Char = t.Char
  put i t.Unit = t.Unit
  put i (t.Str p) = t.Str (put_place i p)
  put i (t.Tuple p xs) = t.Tuple (put_place i p) (put_each i xs)
  put i (t.Arrow p a e b) = t.Arrow (put_place i p) (put i a) (put_effect i e) (put i b)
  put i (t.Data n xs p e) = t.Data n (put_each i xs) (put_place i p) (put_effect i e)
  put i (t.Ref p a) = t.Ref (put_place i p) (put i a)
  put i t.Exn = t.Exn
  put i (t.Cache p a b) = t.Cache (put_place i p) a b
  put i (t.Desc a) = t.Desc a

  pub put_each : Instance → RegionTypes → RegionTypes
  put_each i t.no_types = t.no_types
  put_each i (t.types x xs) = t.types (put i x) (put_each i xs)

unfoldable pub type_at : RegionTypes → ℕ → Option RegionType
type_at t.no_types n = None
type_at (t.types x xs) zero = Some x
type_at (t.types x xs) (suc n) = type_at xs n

-- what a function makes of two things, where both are there
abbrev pub of_both : {A B C : Type 0} → (A → B → C) → Option A → Option B → Option C
of_both f (Some a) (Some b) = Some (f a b)
of_both f _ _ = None

-- A type that a datatype's declaration names, at arguments, a place and an effect: all its boxed parts other than the arguments
-- lie there, and its functions have this effect. Below a cache or a description stand types without places.
unfoldable mutual
  pub placed : RegionTypes → Place → Effect → GroundType → Option RegionType
  placed xs p e g.Int = Some t.Int
  placed xs p e g.Char = Some t.Char
  placed xs p e g.Str = Some (t.Str p)
  placed xs p e g.Unit = Some t.Unit
  placed xs p e g.Exn = Some t.Exn
  placed xs p e (g.Tuple ts) = option_map (t.Tuple p) (placed_each xs p e ts)
  placed xs p e (g.Arrow a b) = of_both (λ y z. t.Arrow p y e z) (placed xs p e a) (placed xs p e b)
  placed xs p e (g.Data n ts) = option_map (λ ys. t.Data n ys p e) (placed_each xs p e ts)
  placed xs p e (g.Ref a) = option_map (t.Ref p) (placed xs p e a)
  placed xs p e (g.Cache a b) = Some (t.Cache p (with_types (erased_types xs) a) (with_types (erased_types xs) b))
  placed xs p e (g.Desc a) = Some (t.Desc (with_types (erased_types xs) a))
  placed xs p e (g.Var n) = type_at xs n

  pub placed_each : RegionTypes → Place → Effect → GroundTypes → Option RegionTypes
  placed_each xs p e g.no_types = Some t.no_types
  placed_each xs p e (g.types y ys) = of_both t.types (placed xs p e y) (placed_each xs p e ys)
