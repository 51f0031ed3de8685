-- What reading from left to right comes to, and where it stops. Of this project.
use Rattle.std.specs.Prelude.{◌≡◌, ℕ, zero, suc, ◌-◌, ◌*◌, ◌^◌, ◌≤◌, ◌<◌, List, ◌∷◌, ◌++◌, length, Bool, true, false, ◌==◌, ◌&&◌, ◌||◌, nat_lt, not}
use Rattle.std.specs.List.{list_all, flat_map}
use Rattle.web_data.specs.declared.datum.Datum.{Datum}
use Rattle.web_data.specs.declared.datum.Desc.{Desc}
use Rattle.web_data.specs.Data.{has_desc}
use Rattle.web_data.specs.Pickles.{number_within, list_pickle, pickle, IsPickle}
use Rattle.value_pickle.specs.declared.refusal.Halt.{Halt}
use Rattle.value_pickle.specs.declared.refusal.Halt.TheVariants as halt
use Rattle.value_pickle.specs.Reading.{NoPickle}

-- Reading stops where so many bytes are left: with some bytes behind it, what was read would be whole, and with the next
-- byte behind it, it begins nothing whole.
pub record Stops (Whole : List ℕ → Type 0) (bytes : List ℕ) (left : ℕ) : Type 0 where
  pub front : List ℕ
  pub back : List ℕ
  pub parts : bytes ≡ front ++ back
  pub left_is : left ≡ length back
  pub wanting : List ℕ
  pub some : 0 < length wanting
  pub begins : Whole (front ++ wanting)
  pub ends : (b : ℕ) (tail rest : List ℕ) → back ≡ b ∷ tail → Whole (front ++ b ∷ rest) → ⊥

-- reading stops there, or memory is wanting
abbrev pub Halts : (List ℕ → Type 0) → List ℕ → Halt → Type 0
Halts Whole bytes (halt.Left left) = Stops Whole bytes left
Halts Whole bytes halt.NoMemory = Unit {0}

-- no 0 or 1 stands at the front
abbrev pub HaltsAtFlag : List ℕ → Halt → Type 0
HaltsAtFlag bytes e = (e ≡ halt.Left (length bytes)) × ((b : ℕ) (tail : List ℕ) → bytes ≡ b ∷ tail → 1 < b)

-- all bytes were to be a pickle
abbrev pub HaltsWhole : Desc → List ℕ → Halt → Type 0
HaltsWhole desc bytes (halt.Left left) = (left ≤ length bytes) × NoPickle desc bytes (length bytes - left)
HaltsWhole desc bytes halt.NoMemory = Unit {0}

-- the bytes are the pickle of some datum
abbrev pub IsWhole : Desc → List ℕ → Type 0
IsWhole desc bytes = (x : Datum) × IsPickle desc x bytes

-- the pickle of the datum stands at the front
pub record Reads (desc : Desc) (bytes : List ℕ) (x : Datum) (rest : List ℕ) : Type 0 where
  pub described : has_desc desc x ≡ true
  pub parts : bytes ≡ pickle desc x ++ rest

-- all the items have a description
abbrev pub all_have : Desc → List Datum → Bool
all_have desc xs = list_all (has_desc desc) xs

-- the bytes are the pickle of some list of such items
abbrev pub AreItems : Desc → List ℕ → Type 0
AreItems desc bytes = (xs : List Datum) × (all_have desc xs ≡ true) × (bytes ≡ list_pickle (pickle desc) xs)

-- the bytes of items, each behind a 1
abbrev pub item_bytes : Desc → List Datum → List ℕ
item_bytes desc xs = flat_map (λ x. 1 ∷ pickle desc x) xs

-- the pickle of the list of items stands at the front
pub record ReadsItems (desc : Desc) (bytes : List ℕ) (xs : List Datum) (rest : List ℕ) : Type 0 where
  pub described : all_have desc xs ≡ true
  pub parts : bytes ≡ list_pickle (pickle desc) xs ++ rest

-- a text with its length before it stands at the front
pub record ReadsText (bytes text rest : List ℕ) : Type 0 where
  pub short : length text < 2 ^ 64
  pub parts : bytes ≡ (number_within 9 (length text) ++ text) ++ rest

-- the bytes are a text with its length before it
abbrev pub IsCounted : List ℕ → Type 0
IsCounted bytes = (text : List ℕ) × (length text < 2 ^ 64) × (bytes ≡ number_within 9 (length text) ++ text)

-- the least number that isn't read in `suc more` bytes
abbrev pub limit : ℕ → ℕ
limit zero = 2
limit (suc more) = 128 * limit more

-- the bytes are a number in at most `suc more` bytes, which isn't 0 behind other bytes of it
abbrev pub IsNumber : ℕ → Bool → List ℕ → Type 0
IsNumber more first bytes = (n : ℕ) × (n < limit more) × (first ≡ false → 0 < n) × (bytes ≡ number_within more n)

-- such a number stands at the front
pub record ReadsNumber (more : ℕ) (first : Bool) (bytes : List ℕ) (n : ℕ) (rest : List ℕ) : Type 0 where
  pub below : n < limit more
  pub shortest : first ≡ false → 0 < n
  pub parts : bytes ≡ number_within more n ++ rest

-- such a number may begin with this byte
abbrev pub may_stand : ℕ → Bool → ℕ → Bool
may_stand more first b = (first || not (b == 0)) && (nat_lt 0 more || nat_lt b 2)
