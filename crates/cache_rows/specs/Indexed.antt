-- Rows by their keys and by the order in which they leave: what maps with births mean, and what is true of them.
use Rattle.std.specs.Prelude.{◌≡◌, ℕ, ◌≤◌, ◌<◌, List, [], ◌∷◌, ◌++◌, suc, map, length, Bool, true, Option, Some, None, nat_eq}
use Rattle.std.specs.Ordering.{nat_cmp, ordering_then}
use Rattle.std.specs.declared.cmp.Ordering.{Ordering}
use Rattle.std.specs.Cmp.Lexicographic.{pointwise}
use Rattle.std.specs.List.{AllByRecursion, IsDistinct}
use Rattle.std.specs.Map.{keys_of, lookup, set_value}
use Rattle.std.specs.BTreeMap.{is_at}
use Rattle.std.specs.declared.alloc.Global.{Global}
use Rattle.std.specs.declared.vec.Vec.{Vec}
use Rattle.web_data.specs.declared.cache.Kind.{Kind}
use Rattle.cache_rows.specs.declared.table.Cell.{Cell}
use Rattle.cache_rows.specs.RowMachine.{PickleRow, Named, NoneNamed, key_of, used, stays, current, new_row, sizes, pickle_size}

abbrev pub Entry : Type 0
Entry = Vec ℕ Global × Cell

-- the row of an entry
abbrev pub row_of : Entry → PickleRow
row_of e = record { key = e.0.items; value = e.1.value; stamp = e.1.stamp }

abbrev pub rows_of : List Entry → List PickleRow
rows_of es = map row_of es

-- a row's place in the order in which rows leave
abbrev pub place_of : Entry → ℕ × ℕ
place_of e = (e.1.stamp, e.1.birth)

-- the births rise from `low`, and are below `high`
abbrev pub BirthsRise : ℕ → List Entry → ℕ → Type 0
BirthsRise low [] high = low ≤ high
BirthsRise low (e ∷ es) high = (low ≤ e.1.birth) × BirthsRise (suc e.1.birth) es high

-- each row's place in the order, with its key
abbrev pub placed : List Entry → List ((ℕ × ℕ) × List ℕ)
placed es = map (λ e. (place_of e, e.0.items)) es

-- the order of places: by stamp, then by birth
abbrev pub by_place : ℕ × ℕ → ℕ × ℕ → Ordering
by_place p q = ordering_then (nat_cmp p.0 q.0) (nat_cmp p.1 q.1)

abbrev pub key_at : ℕ × ℕ → List ((ℕ × ℕ) × List ℕ) → Option (List ℕ)
key_at q ps = lookup (is_at (by_place q)) ps

abbrev pub same_key : Vec ℕ Global → Vec ℕ Global → Bool
same_key x y = pointwise nat_eq x.items y.items

-- the test of a key's bytes
abbrev pub is_key : List ℕ → Vec ℕ Global → Bool
is_key key k = pointwise nat_eq key k.items

-- where the key has an entry, that entry gets a stamp
abbrev pub Restamps : List ℕ → ℕ → List Entry → List Entry → Type 0
Restamps key stamp old new = (cell : Cell) → lookup (is_key key) old ≡ Some cell → new ≡ set_value (is_key key) old (record { value = cell.value; stamp = stamp; birth = cell.birth })

-- what is true of rows by their keys, `es`, and their keys in the order in which they leave, `os`
pub record Indexed (es : List Entry) (os : List ((ℕ × ℕ) × List ℕ)) (births total : ℕ) : Type 0 where
  pub rise : BirthsRise 0 es births
  pub differ : IsDistinct same_key (keys_of es)
  pub ordered : (q : ℕ × ℕ) → key_at q os ≡ key_at q (placed es)
  pub total_is : total ≡ sizes pickle_size (rows_of es)

-- a row under the key that stays is found, and may get a stamp
pub record Touches (kind : Kind) (moment : ℕ) (key : List ℕ) (old : List PickleRow) (value : List ℕ) (new : List PickleRow) : Type 0 where
  pub before : List PickleRow
  pub row : PickleRow
  pub after : List PickleRow
  pub found : Named key_of key old before row after
  pub alive : stays kind.time moment row.stamp ≡ true
  pub answer : value ≡ row.value
  pub rows : new ≡ before ++ used kind.used moment row ∷ after

abbrev pub Answers : Kind → ℕ → List ℕ → List PickleRow → Option (List ℕ) → List PickleRow → Type 0
Answers kind moment key old (Some value) new = Touches kind moment key old value new
Answers kind moment key old None new = NoneNamed key_of key (current kind.time moment old) × (new ≡ old)

-- the key's row with this stamp, if there is one, is left out
pub record LeavesStamp (key : List ℕ) (old : List PickleRow) (stamp : ℕ) (rest : List PickleRow) : Type 0 where
  pub before : List PickleRow
  pub row : PickleRow
  pub after : List PickleRow
  pub found : Named key_of key old before row after
  pub stamp_is : stamp ≡ row.stamp
  pub rest_is : rest ≡ before ++ after

abbrev pub Leaves : List ℕ → List PickleRow → Option ℕ → List PickleRow → Type 0
Leaves key old (Some stamp) rest = LeavesStamp key old stamp rest
Leaves key old None rest = rest ≡ old

-- a new row stands last, and no other has its key
pub record Replaces (moment : ℕ) (key value : List ℕ) (old : List PickleRow) (stamp : Option ℕ) (new : List PickleRow) : Type 0 where
  pub rest : List PickleRow
  pub left_out : Leaves key old stamp rest
  pub absent : NoneNamed key_of key rest
  pub rows : new ≡ rest ++ new_row key value moment ∷ []

-- the row with the least stamp, among equal stamps the one born first, is left out
pub record LeavesFirst (old rest : List PickleRow) : Type 0 where
  pub before : List PickleRow
  pub row : PickleRow
  pub after : List PickleRow
  pub whole : old ≡ before ++ row ∷ after
  pub rest_is : rest ≡ before ++ after
  pub older : AllByRecursion (λ r. row.stamp < r.stamp) before
  pub younger : AllByRecursion (λ r. row.stamp ≤ r.stamp) after

-- the place of the row with the least stamp, among equal stamps of the one born first
pub record FirstToLeave (rows : List PickleRow) (at least : ℕ) : Type 0 where
  pub before : List PickleRow
  pub row : PickleRow
  pub after : List PickleRow
  pub whole : rows ≡ before ++ row ∷ after
  pub at_is : at ≡ length before
  pub least_is : least ≡ row.stamp
  pub older : AllByRecursion (λ r. row.stamp < r.stamp) before
  pub younger : AllByRecursion (λ r. row.stamp ≤ r.stamp) after
