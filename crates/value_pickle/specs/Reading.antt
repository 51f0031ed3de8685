-- What reading a pickle comes to. Of this project, as pickles are.
use Rattle.std.specs.Prelude.{◌≡◌, ◌⊎◌, ℕ, ◌≤◌, ◌<◌, List, length, take, Result, Ok, Err}
use Rattle.web_data.specs.declared.datum.Datum.{Datum}
use Rattle.web_data.specs.declared.datum.Desc.{Desc}
use Rattle.web_data.specs.Pickles.{IsPickle, BeginsPickle}
use Rattle.value_pickle.specs.declared.refusal.PickleRefusal.{PickleRefusal}
use Rattle.value_pickle.specs.declared.refusal.PickleRefusal.TheVariants as refusal

-- the bytes up to the place are the longest prefix that begins a pickle
pub record LongestBeginning (desc : Desc) (bytes : List ℕ) (place : ℕ) : Type 0 where
  pub within : place ≤ length bytes
  pub begins : BeginsPickle desc (take place bytes)
  pub longest : (n : ℕ) → place < n → n ≤ length bytes → BeginsPickle desc (take n bytes) → ⊥

-- the bytes are no pickle of the description, and begin one up to the place
pub record NoPickle (desc : Desc) (bytes : List ℕ) (place : ℕ) : Type 0 where
  pub none : (x : Datum) → IsPickle desc x bytes → ⊥
  pub longest : LongestBeginning desc bytes place

-- this datum, or want of memory
abbrev pub GivesDatum : Result Datum PickleRefusal → Datum → Type 0
GivesDatum result x = (result ≡ Ok x) ⊎ (result ≡ Err refusal.NoMemory)

-- this place, or want of memory
abbrev pub GivesPlace : Result Datum PickleRefusal → ℕ → Type 0
GivesPlace result place = (result ≡ Err (refusal.NotAPickle place)) ⊎ (result ≡ Err refusal.NoMemory)
