-- The cache machine over data: sixteen groups, each with its last moment and the caches that stand in it, each with its rows
-- in the order of birth; what a call answers and makes of them at a moment.
use Rattle.std.specs.Prelude.{◌≡◌, ◌⊎◌, ℕ, zero, suc, ◌+◌, ◌%◌, ◌≤◌, ◌<◌, List, [], ◌∷◌, ◌++◌, length, sum, Bool, Option, Some, None, slice_get, slice_set}
use Rattle.web_data.specs.declared.datum.Datum.{Datum}
use Rattle.web_data.specs.declared.cache.CacheId.{CacheId}
use Rattle.web_data.specs.declared.cache.CacheOp.{CacheOp}
use Rattle.web_data.specs.declared.cache.CacheOp.TheVariants as op
use Rattle.web_data.specs.declared.cache.CacheCall.{CacheCall}
use Rattle.web_data.specs.declared.cache.CacheAns.{CacheAns}
use Rattle.web_data.specs.declared.cache.CacheAns.TheVariants as ans
use Rattle.web_data.specs.Pickles.{datum_size}
use Rattle.cache_rows.specs.declared.row.Row.{Row}
use Rattle.cache_rows.specs.RowMachine.{Named, NoneNamed, Looks, Puts}

-- a row of data
abbrev pub DataRow : Type 0
DataRow = Row Datum Datum

-- a cache that stands
pub record Standing : Type 0 where
  pub id : CacheId
  pub rows : List DataRow

-- a group: its number, its last moment, and the caches that stand in the order of their first inserts
pub record Group : Type 0 where
  pub number : ℕ
  pub last : ℕ
  pub caches : List Standing

-- a group at the start
abbrev pub new_group : ℕ → Group
new_group number = record { number = number; last = 0; caches = [] }

-- that many groups at the start, by their numbers
abbrev pub new_groups : ℕ → List Group
new_groups zero = []
new_groups (suc n) = new_groups n ++ new_group n ∷ []

-- the number of a name's group
abbrev pub group_number : List ℕ → ℕ
group_number name = sum name % 16

-- how many caches of a group may stand
abbrev pub most_caches : ℕ
most_caches = 64

abbrev pub id_of : Standing → CacheId
id_of cache = cache.id

-- the size of a row of a cache
abbrev pub row_size : CacheId → Datum → Datum → ℕ
row_size id key value = datum_size id.key key + datum_size id.value value

-- what an operation answers and makes of the rows of a cache that stands
abbrev pub RowsStep : CacheId → ℕ → CacheOp → List DataRow → CacheAns → List DataRow → Type 0
RowsStep id moment (op.Look key) old (ans.Found value) new = Looks id.kind moment key old (Some value) new
RowsStep id moment (op.Look key) old ans.Absent new = Looks id.kind moment key old None new
RowsStep id moment (op.Put key value) old (ans.Fresh fresh) new = Puts (row_size id) id.kind moment key value old fresh new
RowsStep id moment op.Flush old ans.Flushed new = new ≡ []
RowsStep id moment _ old _ new = ⊥

-- an insert makes a cache stand, where the group has room for it
pub record PutsFirst (id : CacheId) (moment : ℕ) (key value : Datum) (fresh : Bool) (old new : List Standing) : Type 0 where
  pub room : length old < most_caches
  pub rows : List DataRow
  pub puts : Puts (row_size id) id.kind moment key value [] fresh rows
  pub new_is : new ≡ old ++ record { id = id; rows = rows } ∷ []

-- What an operation on a cache that doesn't stand answers and makes of the caches of its group. Where the group is full, an
-- insert changes nothing.
abbrev pub AbsentStep : CacheId → ℕ → CacheOp → List Standing → CacheAns → List Standing → Type 0
AbsentStep id moment (op.Look key) old ans.Absent new = new ≡ old
AbsentStep id moment (op.Put key value) old (ans.Fresh fresh) new = PutsFirst id moment key value fresh old new
AbsentStep id moment (op.Put key value) old ans.Full new = (most_caches ≤ length old) × (new ≡ old)
AbsentStep id moment op.Flush old ans.Flushed new = new ≡ old
AbsentStep id moment _ old _ new = ⊥

-- a call on a cache that stands
pub record Acts (id : CacheId) (moment : ℕ) (op : CacheOp) (old : List Standing) (answer : CacheAns) (new : List Standing) : Type 0 where
  pub before : List Standing
  pub cache : Standing
  pub after : List Standing
  pub found : Named id_of id old before cache after
  pub rows : List DataRow
  pub step : RowsStep id moment op cache.rows answer rows
  pub new_is : new ≡ before ++ record { id = id; rows = rows } ∷ after

-- what an operation on a cache answers and makes of the caches of its group
abbrev pub OpStep : CacheId → ℕ → CacheOp → List Standing → CacheAns → List Standing → Type 0
OpStep id moment op old answer new = Acts id moment op old answer new ⊎ (NoneNamed id_of id old × AbsentStep id moment op old answer new)

-- what a call answers and makes of its group
pub record GroupStep (old : Group) (call : CacheCall) (moment : ℕ) (new : Group) (answer : CacheAns) : Type 0 where
  pub number : new.number ≡ old.number
  pub last : new.last ≡ moment
  pub caches : OpStep call.id moment call.op old.caches answer new.caches

abbrev pub last_of : Option Group → ℕ
last_of None = 0
last_of (Some group) = group.last

-- the last moment of the group with a number
abbrev pub last_moment : List Group → ℕ → ℕ
last_moment groups number = last_of (slice_get groups number)

-- what a call answers and makes of the sixteen groups
pub record CacheStep (old : List Group) (call : CacheCall) (moment : ℕ) (new : List Group) (answer : CacheAns) : Type 0 where
  pub group : Group
  pub more : Group
  pub there : slice_get old (group_number call.id.name) ≡ Some group
  pub step : GroupStep group call moment more answer
  pub new_is : new ≡ slice_set old (group_number call.id.name) more
