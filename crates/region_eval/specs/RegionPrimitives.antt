-- The primitives of the basis on the values of region terms: arguments are read from live regions, and what a primitive gives is written into one.
use Rattle.std.specs.Prelude.{ℕ, zero, suc, ◌+◌, nat_eq, nat_lt, Bool, true, false, not, ◌&&◌, List, [], ◌∷◌, ◌++◌, length, Option, Some, None, codes, if◌then◌else◌}
use Rattle.std.specs.Option.{option_map, option_map_or, option_and_then}
use Rattle.std.specs.Str.{bytes_eq}
use Rattle.sml_evaluation.specs.declared.value.Value as plain
use Rattle.sml_evaluation.specs.declared.value.Bound.TheOpen.{Value-F}
use Rattle.sml_evaluation.specs.declared.value.Bound.TheFolds.{fold-Value}
use Rattle.sml_evaluation.specs.Values as make
use Rattle.sml_evaluation.specs.DataValues.{both_of}
use Rattle.sml_evaluation.specs.Primitives.{Row, Constant, Contents, Assigned, Same, primitives, row_of, prim_result}
use Rattle.web_data.specs.declared.datum.Desc.{Desc as Description}
use Rattle.web_data.specs.declared.cache.CacheId.{CacheId}
use Rattle.region_syntax.specs.Descriptions.{description, same_description}
use Rattle.region_syntax.specs.GroundTypes as g
use Rattle.region_syntax.specs.GroundTypes.{GroundType}
use Rattle.region_syntax.specs.RegionTypes.{RegionType, erased_type}
use Rattle.sml_evaluation.specs.RunState.{Done, Raised, Waits, then_do, counted, storing}
use Rattle.region_eval.specs.Carried.{plain_state, Carrying, carried}
use Rattle.region_eval.specs.GroundPrimitives.{never, wanted_by}
use Rattle.region_eval.specs.RegionStore.{Value, Int, Char, Unit, Con, Desc, Address, Object, Str, Tuple, Applied, Packet, PacketOf, Ref, Prim, Cache, Store, Around, State, Outcome, no_rule, where_it_holds, found, followed, serial_of_type, result_serials, put, stored, alloc, object_at, follow, object_set, NoneFits}

-- ---- a value as a primitive sees it, which has none of functions, packets and references

-- the parts of a value, from left to right
abbrev pub each_read : (Value → Option plain.Value) → List Value → Option (List plain.Value)
each_read part [] = Some []
each_read part (v ∷ vs) = both_of (λ x xs. x ∷ xs) (part v) (each_read part vs)

abbrev pub read_object : (Value → Option plain.Value) → Object → Option plain.Value
read_object part (Str bytes) = Some (make.text_value bytes)
read_object part (Tuple vs) = option_map make.tuple_value (each_read part vs)
read_object part (Applied d i v) = option_map (make.applied_value d i) (part v)
read_object part (Cache id) = Some (make.cache_value id)
read_object part _ = None

-- a value of at most so many objects one in another
abbrev pub read_within : ℕ → List ℕ → Store → Value → Option plain.Value
read_within n live store (Int k) = Some (make.int_value k)
read_within n live store (Char c) = Some (make.char_value c)
read_within n live store Unit = Some make.unit_value
read_within n live store (Con d i) = Some (make.con_value d i)
read_within n live store (Desc d) = Some (make.desc_value d)
read_within zero live store (Address p i) = None
read_within (suc n) live store (Address p i) = option_and_then (read_object (read_within n live store)) (object_at live p i store)

-- no value has more objects one in another than were ever made
abbrev pub read : List ℕ → Store → Value → Option plain.Value
read live store v = read_within store.total live store v

-- ---- what a primitive gives, written into a region; packets lie in the global one

abbrev pub Writing : Type 0
Writing = List ℕ → ℕ → Store → Option (Value × Store)

abbrev pub each_written : List Writing → List ℕ → ℕ → Store → Option (List Value × Store)
each_written [] live p store = Some ([], store)
each_written (w ∷ ws) live p store =
    option_and_then (λ v. option_map (λ vs. (v.0 ∷ vs.0, vs.1)) (each_written ws live p v.1)) (w live p store)

abbrev pub put_on : List ℕ → ℕ → (Value → Object) → Option (Value × Store) → Option (Value × Store)
put_on live p f v = option_and_then (λ x. put live p (f x.0) x.1) v

abbrev pub written_by : Value-F ℕ Writing ℕ → Writing
written_by (Value-F.Int n) live p store = Some (Int n, store)
written_by (Value-F.Char c) live p store = Some (Char c, store)
written_by (Value-F.Str bytes) live p store = put live p (Str bytes) store
written_by Value-F.Unit live p store = Some (Unit, store)
written_by (Value-F.Tuple ws) live p store = option_and_then (λ vs. put live p (Tuple vs.0) vs.1) (each_written ws live p store)
written_by (Value-F.Con d i) live p store = Some (Con d i, store)
written_by (Value-F.Applied d i w) live p store = put_on live p (Applied d i) (w live p store)
written_by (Value-F.Exn number None) live p store = put live 1 (Packet number) store
written_by (Value-F.Exn number (Some w)) live p store = put_on live 1 (PacketOf number) (w live 1 store)
written_by (Value-F.Desc d) live p store = Some (Desc d, store)
written_by (Value-F.Cache id) live p store = put live p (Cache id) store
written_by _ live p store = None

abbrev pub written : plain.Value → Writing
written v = fold-Value ℕ Writing ℕ (λ b. 0) written_by (λ c. 0) v

-- ---- applications

-- where no call was made, no rule fits
abbrev pub waiting : ℕ → State → Outcome Value
waiting calls s = if nat_eq (length s.shared.calls) calls then no_rule s else Waits s

abbrev pub carrying : List ℕ → ℕ → ℕ → Carrying NoneFits Value Store
carrying live p calls = record {
  value = λ v s. stored (λ w s1. Done w s1) (written v live p s.store) s;
  packet = λ v s. stored (λ w s1. Raised w s1) (written v live 1 s.store) s;
  wait = waiting calls;
}

-- the cache at an address
abbrev pub cache_in : Option Object → Option CacheId
cache_in (Some (Cache id)) = Some id
cache_in _ = None

-- the types of the keys and values of a cache, and what a cache's own descriptions must be
abbrev pub is_described : GroundType → Description → Bool
is_described a d = option_map_or (same_description d) (description a) false

abbrev pub cache_fits : GroundType → Option CacheId → Bool
cache_fits (g.Cache a b) (Some id) = is_described a id.key && is_described b id.value
cache_fits _ _ = false

-- the first part of a tuple, and the serial of its third part
abbrev pub first_part : Option Object → Option Value
first_part (Some (Tuple (v ∷ vs))) = Some v
first_part _ = None

abbrev pub third_serial : Option Object → Option ℕ
third_serial (Some (Tuple (v ∷ w ∷ Address p i ∷ vs))) = Some p
third_serial _ = None

abbrev pub first_type : GroundType → GroundType
first_type (g.Tuple (g.types a ts)) = a
first_type a = a

abbrev pub argument_type : GroundType → GroundType
argument_type (g.Arrow a b) = a
argument_type a = a

-- the cache at an address, where there is one
abbrev pub cache_at : List ℕ → Store → Option Value → Option CacheId
cache_at live store v = option_and_then (λ w. cache_in (followed live w store)) v

abbrev pub first_of : List Value → Option Value
first_of [] = None
first_of (v ∷ vs) = Some v

-- What code relies on at the primitives of caches: that a cache has the descriptions of the types that the primitive stands at, and that the text of its
-- name lies in the region in which the cache is made.
abbrev pub relies_on : List ℕ → ℕ → List ℕ → GroundType → List Value → Value → Store → Bool
relies_on live p name a arguments v store =
    if bytes_eq name (codes "Web.Cache.get") then option_map_or (nat_eq p) (third_serial (followed live v store)) false
    else if bytes_eq name (codes "Web.Cache.lookup") then cache_fits (argument_type a) (cache_at live store (first_of arguments))
    else if bytes_eq name (codes "Web.Cache.insert") then cache_fits (first_type (argument_type a)) (cache_at live store (first_part (followed live v store)))
    else if bytes_eq name (codes "Web.Cache.flush") then cache_fits (argument_type a) (cache_at live store (Some v))
    else true

-- a primitive of this type with the arguments before the last one, and that one, with the region of what it gives
abbrev pub called : List ℕ → ℕ → List ℕ → GroundType → List Value → Value → State → Outcome Value
called live p name a arguments v s =
    found (λ xs s1. found (λ x s2.
    where_it_holds (relies_on live p name a arguments v s2.store)
    (λ s3. carried (carrying live p (length s3.shared.calls)) s3.store (prim_result never name xs x (plain_state s3))) s2)
    (read live s1.store v) s1) (each_read (read live s.store) arguments) s

-- what a reference holds, and a new content
abbrev pub contents : Object → State → Outcome Value
contents (Ref v) s = Done v s
contents _ s = no_rule s

abbrev pub assigned_at : ℕ → ℕ → Value → Object → State → Outcome Value
assigned_at p i v (Ref old) s = Done Unit (storing (object_set p i (Ref v) s.store) s)
assigned_at p i v _ s = no_rule s

abbrev pub assigned : List ℕ → Object → State → Outcome Value
assigned live (Tuple (Address p i ∷ v ∷ [])) s = follow live (Address p i) (assigned_at p i v) s
assigned live _ s = no_rule s

-- where two values are compared: in the function of equality of a type, if in one, and whether a tuple is taken apart
pub record Inside : Type 0 where
  pub own : Option GroundType
  pub apart : Bool

abbrev pub inside_of : Option GroundType → Bool → Inside
inside_of own apart = record { own = own; apart = apart }

-- how two values of a type are compared
abbrev pub Comparing : Type 0
Comparing = Around → Inside → GroundType → Value → Value → State → Outcome Bool

abbrev pub bool_value : Bool → Value
bool_value b = if b then Con 0 1 else Con 0 0

-- the two parts of an argument of this type
abbrev pub equality : Comparing → Around → Bool → GroundType → Object → State → Outcome Value
equality same around wanted (g.Arrow (g.Tuple (g.types a ts)) b) (Tuple (v ∷ w ∷ [])) s =
    then_do (same around (inside_of None true) a v w s) (λ b1 s1. Done (bool_value (if wanted then b1 else not b1)) s1)
equality same around wanted _ _ s = no_rule s

-- the region of what is given now, and those of what is given later
abbrev pub next_serial : List ℕ → ℕ
next_serial [] = 1
next_serial (p ∷ ps) = p

abbrev pub later_serials : List ℕ → List ℕ
later_serials [] = []
later_serials (p ∷ ps) = ps

-- a primitive that holds an argument more: one word, and one for each argument
abbrev pub held : List ℕ → List ℕ → GroundType → List ℕ → List Value → State → Outcome Value
held live name a serials arguments s =
    alloc live (next_serial serials) (Prim name a (later_serials serials) arguments) (counted (1 + length arguments) s)

-- a row with the arguments so far, applied to one more
abbrev pub row_result : Comparing → Around → List ℕ → GroundType → List ℕ → Row → List Value → Value → State → Outcome Value
row_result same around name a serials (Same wanted) arguments v s = follow around.live v (equality same around wanted a) s
row_result same around name a serials Contents arguments v s = follow around.live v contents s
row_result same around name a serials Assigned arguments v s = follow around.live v (assigned around.live) s
row_result same around name a serials row arguments v s =
    if nat_lt (suc (length arguments)) (wanted_by row)
    then held around.live name a serials (arguments ++ v ∷ []) s
    else called around.live (next_serial serials) name a arguments v s

-- a primitive with the arguments so far, applied to one more
abbrev pub prim_application : Comparing → Around → List ℕ → GroundType → List ℕ → List Value → Value → State → Outcome Value
prim_application same around name a serials arguments v s = found (λ row s1. row_result same around name a serials row arguments v s1) (row_of name primitives) s

-- what the name of a primitive gives: a constant, or a function at the place of its type
abbrev pub row_named : Around → List ℕ → RegionType → Row → State → Outcome Value
row_named around name a (Constant v) s = stored (λ w s1. Done w s1) (written v around.live 1 s.store) s
row_named around name a _ s =
    alloc around.live (serial_of_type around.regions a) (Prim name (erased_type a) (result_serials around.regions a) []) s

abbrev pub prim_named : Around → List ℕ → RegionType → State → Outcome Value
prim_named around name a s = found (λ row s1. row_named around name a row s1) (row_of name primitives) s
