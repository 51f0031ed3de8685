-- The pickle of a datum: its one spelling as bytes, by its description. Numbers are spelled as in DWARF's unsigned LEB128,
-- in the fewest bytes, and integers as the numbers 0, 1, 2, 3, .. for 0, -1, 1, -2, ..
use Rattle.std.specs.Prelude.{◌≡◌, ℕ, zero, suc, ◌+◌, ◌*◌, ◌/◌, ◌%◌, ℤ, List, [], ◌∷◌, ◌++◌, length, Bool, true, false, if◌then◌else◌, Some, None, nat_lt}
use Rattle.std.specs.List.{flat_map}
use lib.IntN.{pos, negsuc}
use Rattle.web_data.specs.declared.datum.Datum.{Datum}
use Rattle.web_data.specs.declared.datum.Datum.TheOpen.{Datum-F}
use Rattle.web_data.specs.declared.datum.Desc.{Desc}
use Rattle.web_data.specs.declared.datum.Desc.TheOpen.{Desc-F}
use Rattle.web_data.specs.declared.datum.Desc.TheFolds.{fold-Desc}
use Rattle.web_data.specs.Data.{DatumLayer, form_of_datum, has_desc}

-- the number of an integer: twice its size, less one where it is below zero
abbrev pub zigzag : ℤ → ℕ
zigzag (pos n) = 2 * n
zigzag (negsuc n) = 2 * n + 1

-- a number in at most `suc more` bytes, the lowest seven bits first; each byte but the last is 128 or more
abbrev pub number_within : ℕ → ℕ → List ℕ
number_within zero n = n ∷ []
number_within (suc more) n = if nat_lt n 128 then n ∷ [] else (128 + n % 128) ∷ number_within more (n / 128)

-- a number of 64 bits, in at most ten bytes
abbrev pub number_pickle : ℕ → List ℕ
number_pickle n = number_within 9 n

abbrev pub bool_pickle : Bool → List ℕ
bool_pickle false = 0 ∷ []
bool_pickle true = 1 ∷ []

-- the items, each behind a 1, and a 0
abbrev pub list_pickle : (Datum → List ℕ) → List Datum → List ℕ
list_pickle a [] = 0 ∷ []
list_pickle a (x ∷ xs) = 1 ∷ a x ++ list_pickle a xs

-- The pickle of a datum of this form by a description of this form; a part of the description is the pickles that it gives.
-- A datum that doesn't have the description has no bytes.
abbrev pub form_pickle : Desc-F (Datum → List ℕ) → DatumLayer → List ℕ
form_pickle Desc-F.Int (Datum-F.Int n) = number_pickle (zigzag n)
form_pickle Desc-F.Bool (Datum-F.Bool b) = bool_pickle b
form_pickle Desc-F.Char (Datum-F.Char c) = c ∷ []
form_pickle Desc-F.Str (Datum-F.Str bytes) = number_pickle (length bytes) ++ bytes
form_pickle (Desc-F.Pair a b) (Datum-F.Pair x y) = a x ++ b y
form_pickle (Desc-F.Triple a b c) (Datum-F.Triple x y z) = a x ++ b y ++ c z
form_pickle (Desc-F.Opt a) (Datum-F.Opt None) = 0 ∷ []
form_pickle (Desc-F.Opt a) (Datum-F.Opt (Some x)) = 1 ∷ a x
form_pickle (Desc-F.List a) (Datum-F.List xs) = list_pickle a xs
form_pickle _ _ = []

abbrev pub pickle_of_form : Desc-F (Datum → List ℕ) → Datum → List ℕ
pickle_of_form d x = form_pickle d (form_of_datum x)

-- the pickle of a datum by a description
abbrev pub pickle : Desc → Datum → List ℕ
pickle = fold-Desc (Datum → List ℕ) pickle_of_form

-- the size of a datum
abbrev pub datum_size : Desc → Datum → ℕ
datum_size desc x = length (pickle desc x)

-- the bytes are the pickle of a datum
pub record IsPickle (desc : Desc) (x : Datum) (bytes : List ℕ) : Type 0 where
  pub described : has_desc desc x ≡ true
  pub spelled : bytes ≡ pickle desc x

-- the bytes begin a pickle: with some bytes behind them they are one
pub record BeginsPickle (desc : Desc) (bytes : List ℕ) : Type 0 where
  pub datum : Datum
  pub rest : List ℕ
  pub whole : IsPickle desc datum (bytes ++ rest)
