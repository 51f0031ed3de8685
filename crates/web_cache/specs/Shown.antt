-- Rows of pickles that show rows of data.
use Rattle.std.specs.Prelude.{◌≡◌, ℕ, ◌≤◌, List, [], ◌∷◌, map, Bool, true, ⊤, Option, Some, None}
use Rattle.std.specs.Coded.{Coded, Coded-set, ×_prop, Unit-prop, coded_list, coded_ℕ, coded_bool, coded×, code_by}
use Rattle.std.proofs.Common.{ap, sym, ◌∙◌, refl}
use Rattle.std.specs.List.{AllByRecursion}
use mathlib.Core.HLevel.{Σ_prop_path}
use Rattle.web_data.specs.declared.datum.Datum.{Datum}
use Rattle.web_data.specs.declared.datum.Desc.{Desc}
use Rattle.web_data.specs.declared.cache.CacheId.{CacheId}
use Rattle.web_data.specs.declared.cache.CacheAns.{CacheAns}
use Rattle.web_data.specs.declared.cache.CacheAns.TheVariants as ans
use Rattle.web_data.specs.Data.{has_desc}
use Rattle.web_data.specs.Pickles.{pickle, IsPickle}
use Rattle.cache_rows.specs.RowMachine.{PickleRow, Looks, Puts}
use Rattle.value_pickle.proofs.OneForm.{equal_pickles}
use Rattle.web_cache.specs.CacheMachine.{DataRow, Standing, row_size}

-- the row of a row's pickles
abbrev pub pickled : CacheId → DataRow → PickleRow
pickled id r = record { key = pickle id.key r.key; value = pickle id.value r.value; stamp = r.stamp }

-- a row's key and value have the descriptions of the cache
abbrev pub IsOf : CacheId → DataRow → Type 0
IsOf id r = (has_desc id.key r.key ≡ true) × (has_desc id.value r.value ≡ true)

abbrev pub AllOf : CacheId → List DataRow → Type 0
AllOf id rows = AllByRecursion (IsOf id) rows

-- rows of data whose pickles these are
abbrev pub Shown : CacheId → List PickleRow → Type 0
Shown id rows = (these : List DataRow) × (AllOf id these × (rows ≡ map (pickled id) these))

same_row : (id : CacheId) (r s : DataRow) → IsOf id r → IsOf id s → pickled id r ≡ pickled id s → r ≡ s
same_row id r s h g e =
    let k = equal_pickles id.key r.key s.key h.0 g.0 (ap (λ (x : PickleRow). x.key) e) in
    let v = equal_pickles id.value r.value s.value h.1 g.1 (ap (λ (x : PickleRow). x.value) e) in
    let t = ap (λ (x : PickleRow). x.stamp) e in
    λ i. record { key = k i; value = v i; stamp = t i }

head_of : PickleRow → List PickleRow → PickleRow
head_of r [] = r
head_of r (x ∷ xs) = x

tail_of : List PickleRow → List PickleRow
tail_of [] = []
tail_of (x ∷ xs) = xs

-- rows of data with the same pickles are the same
pub same_rows : (id : CacheId) (xs ys : List DataRow) → AllOf id xs → AllOf id ys → map (pickled id) xs ≡ map (pickled id) ys → xs ≡ ys
unfolding head_of tail_of
same_rows id [] [] h g e = refl
same_rows id [] (y ∷ ys) h g e = absurd cc
same_rows id (x ∷ xs) [] h g e = absurd cc
same_rows id (x ∷ xs) (y ∷ ys) h g e =
    let first = same_row id x y h.0 g.0 (ap (head_of (pickled id x)) e) in
    let rest = same_rows id xs ys h.1 g.1 (ap tail_of e) in
    λ i. first i ∷ rest i

-- two equations of truth values, and of lists of rows, have one proof each
row_code : Coded PickleRow
row_code = code_by (List ℕ × (List ℕ × ℕ)) (coded× (coded_list coded_ℕ) (coded× (coded_list coded_ℕ) coded_ℕ)) (λ r. (r.key, (r.value, r.stamp))) (λ t. record { key = t.0; value = t.1.0; stamp = t.1.1 }) (λ _. refl)

all_of_once : (id : CacheId) (rows : List DataRow) → IsProp (AllOf id rows)
all_of_once id [] = Unit-prop
all_of_once id (x ∷ xs) = ×_prop (×_prop (Coded-set coded_bool (has_desc id.key x.key) true) (Coded-set coded_bool (has_desc id.value x.value) true)) (all_of_once id xs)

-- rows of pickles show one list of rows of data at most
pub shown_once : (id : CacheId) (rows : List PickleRow) → IsProp (Shown id rows)
shown_once id rows s t = Σ_prop_path (λ (these : List DataRow). ×_prop (all_of_once id these) (Coded-set (coded_list row_code) rows (map (pickled id) these))) (same_rows id s.0 t.0 s.1.0 t.1.0 (sym s.1.1 ∙ t.1.1))

-- a cache that stands, with its last moment
pub record Kept : Type 0 where
  pub id : CacheId
  pub rows : List DataRow
  pub last : ℕ

abbrev pub standing_of : Kept → Standing
standing_of c = record { id = c.id; rows = c.rows }

-- no cache has a later moment
abbrev pub IsBy : ℕ → List Kept → Type 0
IsBy moment caches = AllByRecursion (λ c. c.last ≤ moment) caches

-- what a lookup makes of the rows that are shown
abbrev pub LooksAs : CacheId → ℕ → Datum → List PickleRow → Option Datum → List PickleRow → Type 0
LooksAs id moment key old answer new = (s : Shown id old) → (t : Shown id new) × Looks id.kind moment key s.0 answer t.0

-- what an insert makes of them
abbrev pub PutsAs : CacheId → ℕ → Datum → Datum → List PickleRow → Bool → List PickleRow → Type 0
PutsAs id moment key value old fresh new = (s : Shown id old) → (t : Shown id new) × Puts (row_size id) id.kind moment key value s.0 fresh t.0

-- the datum that is read from a pickle, if there is one
abbrev pub Reads : Desc → Option (List ℕ) → Option Datum → Type 0
Reads desc None None = ⊤
Reads desc (Some text) (Some value) = IsPickle desc value text
Reads desc _ _ = ⊥

-- the answer to a lookup
abbrev pub found : Option Datum → CacheAns
found (Some value) = ans.Found value
found None = ans.Absent
