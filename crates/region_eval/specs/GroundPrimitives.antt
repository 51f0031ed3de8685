-- The primitives of the basis on the values of specialised terms: what they are on the values of programs, other than those on references and
-- the tests of equality.
use Rattle.std.specs.Prelude.{ℕ, suc, Bool, not, nat_lt, List, [], ◌∷◌, length, set, slice_get, Option, Some, None, if◌then◌else◌, ◌+◌}
use Rattle.std.specs.Option.{option_map}
use Rattle.sml_evaluation.specs.declared.value.Value as plain
use Rattle.sml_evaluation.specs.declared.value.Bound.TheOpen.{Value-F}
use Rattle.sml_evaluation.specs.declared.value.Bound.TheFolds.{fold-Value}
use Rattle.sml_evaluation.specs.Values as make
use Rattle.sml_evaluation.specs.Outcome as source
use Rattle.sml_evaluation.specs.DataValues.{both_of}
use Rattle.sml_evaluation.specs.Primitives.{Row, Constant, First, Second, Third, Contents, Assigned, Same, primitives, row_of, row_value, prim_result}
use Rattle.sml_evaluation.specs.RunState.{RunState, Ending, Done, Raised, Waits, then_do, found, counted, storing}
use Rattle.region_eval.specs.Carried.{plain_state, Carrying, carried}
use Rattle.region_eval.specs.GroundValues.{Value, Int, Char, Str, Unit, Tuple, Con, Applied, Packet, PacketOf, Ref, Fun, Maker, Prim, Desc, Cache, Values, no_values, values, many_values, and_value, bool_value}

-- the references by their numbers
abbrev pub State : Type 0
State = RunState (List Value)

abbrev pub Outcome : Type 0 → Type 0
Outcome A = Ending ⊥ Value (List Value) A

-- ---- a value as a primitive sees it, which has none of functions, packets and references

abbrev mutual
  pub seen : Value → Option plain.Value
  seen (Int n) = Some (make.int_value n)
  seen (Char c) = Some (make.char_value c)
  seen (Str bytes) = Some (make.text_value bytes)
  seen Unit = Some make.unit_value
  seen (Tuple vs) = option_map make.tuple_value (all_seen vs)
  seen (Con d i) = Some (make.con_value d i)
  seen (Applied d i v) = option_map (make.applied_value d i) (seen v)
  seen (Desc d) = Some (make.desc_value d)
  seen (Cache id) = Some (make.cache_value id)
  seen _ = None

  pub all_seen : Values → Option (List plain.Value)
  all_seen no_values = Some []
  all_seen (values v vs) = both_of (λ x xs. x ∷ xs) (seen v) (all_seen vs)

-- ---- what a primitive gives, as a value here

abbrev pub all_taken : List (Option Value) → Option Values
all_taken [] = Some no_values
all_taken (v ∷ vs) = both_of values v (all_taken vs)

abbrev pub taken_by : Value-F ℕ (Option Value) ℕ → Option Value
taken_by (Value-F.Int n) = Some (Int n)
taken_by (Value-F.Char c) = Some (Char c)
taken_by (Value-F.Str bytes) = Some (Str bytes)
taken_by Value-F.Unit = Some Unit
taken_by (Value-F.Tuple vs) = option_map Tuple (all_taken vs)
taken_by (Value-F.Con d i) = Some (Con d i)
taken_by (Value-F.Applied d i v) = option_map (Applied d i) v
taken_by (Value-F.Exn number None) = Some (Packet number)
taken_by (Value-F.Exn number (Some v)) = option_map (PacketOf number) v
taken_by (Value-F.Maker c) = Some (Maker c)
taken_by (Value-F.Ref number) = None
taken_by (Value-F.Fun closure) = None
taken_by (Value-F.Prim name vs) = option_map (Prim name) (all_taken vs)
taken_by (Value-F.Desc d) = Some (Desc d)
taken_by (Value-F.Cache id) = Some (Cache id)

abbrev pub taken : plain.Value → Option Value
taken v = fold-Value ℕ (Option Value) ℕ (λ b. 0) taken_by (λ c. 0) v

-- ---- applications

abbrev pub carrying : Carrying ⊥ Value (List Value)
carrying = record {
  value = λ v s. found (λ w s1. Done w s1) (taken v) s;
  packet = λ v s. found (λ w s1. Raised w s1) (taken v) s;
  wait = λ s. Waits s;
}

-- no two values are compared by the other primitives
abbrev pub never : plain.Value → plain.Value → source.State → source.Outcome Bool
never v w s = Waits s

-- a primitive with the arguments before the last one, and that one
abbrev pub called : List ℕ → Values → Value → State → Outcome Value
called name arguments v s =
    found (λ xs s1. found (λ x s2. carried carrying s2.store (prim_result never name xs x (plain_state s2))) (seen v) s1) (all_seen arguments) s

-- what a reference holds, and a new content
abbrev pub contents : Value → State → Outcome Value
contents (Ref number) s = found (λ v s1. Done v s1) (slice_get s.store number) s
contents _ s = Waits s

abbrev pub assigned : Value → State → Outcome Value
assigned (Tuple (values (Ref number) (values v no_values))) s =
    if nat_lt number (length s.store) then Done Unit (storing (set s.store number v) s) else Waits s
assigned _ s = Waits s

-- how two values are compared
abbrev pub Comparing : Type 0
Comparing = Value → Value → State → Outcome Bool

abbrev pub equality : Comparing → Bool → Value → State → Outcome Value
equality same wanted (Tuple (values a (values b no_values))) s = then_do (same a b s) (λ b1 s1. Done (bool_value (if wanted then b1 else not b1)) s1)
equality same wanted _ s = Waits s

-- a primitive that holds an argument more: one word, and one for each argument
abbrev pub held : List ℕ → Values → State → Outcome Value
held name arguments s = Done (Prim name arguments) (counted (1 + many_values arguments) s)

-- the arguments that a row wants
abbrev pub wanted_by : Row → ℕ
wanted_by (Constant v) = 0
wanted_by (First f) = 1
wanted_by (Second f) = 2
wanted_by (Third f) = 3
wanted_by Contents = 1
wanted_by Assigned = 1
wanted_by (Same b) = 1

-- a row with the arguments so far, applied to one more
abbrev pub row_result : Comparing → List ℕ → Row → Values → Value → State → Outcome Value
row_result same name (Same wanted) arguments v s = equality same wanted v s
row_result same name Contents arguments v s = contents v s
row_result same name Assigned arguments v s = assigned v s
row_result same name row arguments v s = if nat_lt (suc (many_values arguments)) (wanted_by row) then held name (and_value arguments v) s else called name arguments v s

-- a primitive with the arguments so far, applied to one more
abbrev pub prim_application : Comparing → List ℕ → Values → Value → State → Outcome Value
prim_application same name arguments v s = found (λ row s1. row_result same name row arguments v s1) (row_of name primitives) s

-- what the name of a primitive gives
abbrev pub prim_named : List ℕ → State → Outcome Value
prim_named name s = found (λ row s1. found (λ v s2. Done v s2) (taken (row_value name row)) s1) (row_of name primitives) s
