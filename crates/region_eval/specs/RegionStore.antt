-- The values of region terms, and the store in which boxed ones lie. Tofte and Talpin's region calculus, stores; numbers are of this project.
use Rattle.std.specs.Prelude.{ℕ, suc, ℤ, nat_eq, Bool, true, false, List, [], ◌∷◌, ◌++◌, length, set, slice_get, Option, Some, None, if◌then◌else◌}
use Rattle.std.specs.Str.{bytes_eq}
use Rattle.web_data.specs.declared.datum.Desc as datum
use Rattle.web_data.specs.declared.cache.CacheId.{CacheId}
use Rattle.region_syntax.specs.declared.types.Place.{Place}
use Rattle.region_syntax.specs.declared.types.Place.TheVariants as place
use Rattle.sml_syntax.specs.declared.constructor.Constructor.{Constructor}
use Rattle.region_syntax.specs.GroundTypes.{GroundType}
use Rattle.region_syntax.specs.GroundTerms.{Datatype}
use Rattle.region_syntax.specs.RegionTypes as t
use Rattle.region_syntax.specs.RegionTypes.{RegionType}
use Rattle.region_syntax.specs.RegionTerms as r
use Rattle.region_syntax.specs.Effects.{is_number_in, place_of}
use Rattle.region_syntax.specs.UsedRegions.{Choice}
use Rattle.sml_evaluation.specs.RunState.{RunState, Ending, Done, NoRule, storing}

-- a value, which stands by itself, or lies at an address: the serial of its region, and its place among the region's objects
pub data Value : Type 0 where
  Int : ℤ → Value
  Char : ℕ → Value
  Unit : Value
  -- a constructor without an argument: the numbers of its datatype and of itself in it
  Con : ℕ → ℕ → Value
  Desc : datum.Desc → Value
  Address : ℕ → ℕ → Value

-- what names stand for, the innermost binding first
abbrev pub Env : Type 0
Env = List (List ℕ × Value)

-- the serials of regions by their numbers, the innermost first
abbrev pub Regions : Type 0
Regions = List (ℕ × ℕ)

-- what lies in a region
pub data Object : Type 0 where
  Str : List ℕ → Object
  Tuple : List Value → Object
  -- a constructor on its argument
  Applied : ℕ → ℕ → Value → Object
  -- a packet: an exception by its number, without an argument and on one
  Packet : ℕ → Object
  PacketOf : ℕ → Value → Object
  Ref : Value → Object
  -- a function: its rules, and what the regions and the names free in it stand for
  Closure : r.Rules → Regions → Env → Object
  -- a function of a group: the regions and how many effect variables it binds, its rules, and what the regions and the names free in it stand for,
  -- those of the group too
  Group : List ℕ → ℕ → r.Rules → Regions → Env → Object
  -- an instance of such a function: where the function lies, the regions that are put in, and how many effects are
  Instance : Value → List ℕ → ℕ → Object
  -- a constructor that stands for a function, and the region in which it makes values
  Maker : Constructor → ℕ → Object
  -- a primitive by its name, its type, the regions of what it gives at each further argument, and the arguments so far
  Prim : List ℕ → GroundType → List ℕ → List Value → Object
  Cache : CacheId → Object

-- the objects of each region, by its serial; how many regions were ever made, which is the newest serial; and how many objects were
pub record Store : Type 0 where
  pub objects : ℕ → List Object
  pub made : ℕ
  pub total : ℕ

-- what stands around a term: the datatypes of the program, which regions a `LetRegion` makes, the serials of the live regions, and what the regions'
-- numbers stand for
pub record Around : Type 0 where
  pub datatypes : List Datatype
  pub choice : Choice
  pub live : List ℕ
  pub regions : Regions

abbrev pub around_with : Around → Regions → Around
around_with a regions = record a { regions = regions }

abbrev pub State : Type 0
State = RunState Store

-- the outcomes of the evaluation of specialised terms, and that no rule fits
pub data NoneFits : Type 0 where
  none_fits : NoneFits

abbrev pub Outcome : Type 0 → Type 0
Outcome A = Ending NoneFits Value Store A

abbrev pub no_rule : {A : Type 0} → State → Outcome A
no_rule s = NoRule none_fits s

-- what code relies on: where it doesn't hold, no rule fits
abbrev pub where_it_holds : {A : Type 0} → Bool → (State → Outcome A) → State → Outcome A
where_it_holds true f s = f s
where_it_holds false f s = no_rule s

abbrev pub found : {A B : Type 0} → (A → State → Outcome B) → Option A → State → Outcome B
found f None s = no_rule s
found f (Some x) s = f x s

-- ---- names and regions

-- what a name stands for, by its innermost binding
abbrev pub value_at : List ℕ → Env → Option Value
value_at name [] = None
value_at name (b ∷ env) = if bytes_eq b.0 name then Some b.1 else value_at name env

-- the bindings of these names
abbrev pub with_value : List ℕ → Option Value → Env → Env
with_value name None env = env
with_value name (Some v) env = (name, v) ∷ env

abbrev pub bindings_of : List (List ℕ) → Env → Env
bindings_of [] env = []
bindings_of (name ∷ names) env = with_value name (value_at name env) (bindings_of names env)

-- a region that nothing around binds, or that isn't made, is the global one
abbrev pub serial_at : ℕ → Regions → ℕ
serial_at n [] = 1
serial_at n (b ∷ regions) = if nat_eq b.0 n then b.1 else serial_at n regions

abbrev pub serial_of : Regions → Place → ℕ
serial_of regions place.Global = 1
serial_of regions (place.Reg n) = serial_at n regions

-- the region of a boxed value of a type
abbrev pub serial_of_place : Regions → Option Place → ℕ
serial_of_place regions None = 1
serial_of_place regions (Some p) = serial_of regions p

abbrev pub serial_of_type : Regions → RegionType → ℕ
serial_of_type regions a = serial_of_place regions (place_of a)

-- the regions of what a function gives, and what that gives when it is applied, and so on
abbrev pub result_serials : Regions → RegionType → List ℕ
result_serials regions (t.Arrow p a e b) = serial_of_type regions b ∷ result_serials regions b
result_serials regions _ = []

-- ---- objects

abbrev pub replaced : {A : Type 0} → ℕ → A → (ℕ → A) → ℕ → A
replaced n x f m = if nat_eq n m then x else f m

-- one object more in a live region
abbrev pub put : List ℕ → ℕ → Object → Store → Option (Value × Store)
put live p o store =
    if is_number_in p live
    then Some (Address p (length (store.objects p)), record { objects = replaced p (store.objects p ++ o ∷ []) store.objects; made = store.made; total = suc store.total })
    else None

abbrev pub stored : {A : Type 0} → (A → State → Outcome Value) → Option (A × Store) → State → Outcome Value
stored f None s = no_rule s
stored f (Some x) s = f x.0 (storing x.1 s)

abbrev pub alloc : List ℕ → ℕ → Object → State → Outcome Value
alloc live p o s = stored (λ v s1. Done v s1) (put live p o s.store) s

-- the object at an address in a live region
abbrev pub object_at : List ℕ → ℕ → ℕ → Store → Option Object
object_at live p i store = if is_number_in p live then slice_get (store.objects p) i else None

abbrev pub followed : List ℕ → Value → Store → Option Object
followed live (Address p i) store = object_at live p i store
followed live _ store = None

abbrev pub follow : {A : Type 0} → List ℕ → Value → (Object → State → Outcome A) → State → Outcome A
follow live v f s = found f (followed live v s.store) s

-- another object at an address
abbrev pub object_set : ℕ → ℕ → Object → Store → Store
object_set p i o store = record { objects = replaced p (set (store.objects p) i o) store.objects; made = store.made; total = store.total }

-- a fresh region, which is empty: its serial is the newest
abbrev pub with_region : Store → Store
with_region store = record { objects = replaced (suc store.made) [] store.objects; made = suc store.made; total = store.total }

abbrev pub with_live : ℕ → Around → Around
with_live p a = record a { live = p ∷ a.live }

-- fresh regions for these numbers
abbrev pub opened : List ℕ → Around → Store → Around × Store
opened [] a store = (a, store)
opened (n ∷ ns) a store = opened ns (with_live (suc store.made) (around_with a ((n, suc store.made) ∷ a.regions))) (with_region store)
