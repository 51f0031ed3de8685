-- The row machine: what a lookup, an insert and a flush answer and make of the rows of one cache, which stand in the
-- order of birth. Keys and values may be data or their pickles: `size` is the size of a row's key and value.
use Rattle.std.specs.Prelude.{◌≡◌, ℕ, ◌+◌, ◌-◌, ◌≤◌, List, [], ◌∷◌, ◌++◌, length, Bool, true, false, if◌then◌else◌, Option, Some, None, nat_lt, nat_le, filter, ⊤}
use Rattle.std.specs.List.{AllByRecursion}
use Rattle.web_data.specs.declared.cache.Kind.{Kind}
use Rattle.cache_rows.specs.declared.row.Row.{Row}
use Rattle.cache_rows.specs.declared.row.RowCall.{RowCall}
use Rattle.cache_rows.specs.declared.row.RowCall.TheVariants as call
use Rattle.cache_rows.specs.declared.row.RowAns.{RowAns}
use Rattle.cache_rows.specs.declared.row.RowAns.TheVariants as ans

-- the one item of a list that has a name, with those before it and behind it
pub record Named {A B : Type 0} (name : A → B) (b : B) (xs before : List A) (x : A) (after : List A) : Type 0 where
  pub whole : xs ≡ before ++ x ∷ after
  pub named : name x ≡ b

-- no item has the name
abbrev pub NoneNamed : {A B : Type 0} → (A → B) → B → List A → Type 0
NoneNamed name b xs = AllByRecursion (λ x. name x ≡ b → ⊥) xs

-- whether a row with this stamp stays at a moment, by the cache's time
abbrev pub stays : Option ℕ → ℕ → ℕ → Bool
stays None moment stamp = true
stays (Some time) moment stamp = nat_lt (moment - stamp) time

module _ {K V : Type 0} where
  abbrev pub key_of : Row K V → K
  key_of r = r.key

  -- the rows that stay at a moment
  abbrev pub current : Option ℕ → ℕ → List (Row K V) → List (Row K V)
  current time moment rows = filter (λ r. stays time moment r.stamp) rows

  -- a row that is found gets the moment as its stamp where the cache is `WhileUsed`
  abbrev pub used : Bool → ℕ → Row K V → Row K V
  used true moment r = record { key = r.key; value = r.value; stamp = moment }
  used false moment r = r

  -- a lookup finds a row
  pub record Finds (kind : Kind) (moment : ℕ) (key : K) (old : List (Row K V)) (value : V) (new : List (Row K V)) : Type 0 where
    pub before : List (Row K V)
    pub row : Row K V
    pub after : List (Row K V)
    pub found : Named key_of key (current kind.time moment old) before row after
    pub answer : value ≡ row.value
    pub rows : new ≡ before ++ used kind.used moment row ∷ after

  -- a lookup finds no row
  pub record Misses (kind : Kind) (moment : ℕ) (key : K) (old new : List (Row K V)) : Type 0 where
    pub absent : NoneNamed key_of key (current kind.time moment old)
    pub rows : new ≡ current kind.time moment old

  -- what a lookup answers and makes of the rows
  abbrev pub Looks : Kind → ℕ → K → List (Row K V) → Option V → List (Row K V) → Type 0
  Looks kind moment key old (Some value) new = Finds kind moment key old value new
  Looks kind moment key old None new = Misses kind moment key old new

  -- a row is taken out
  pub record TakesOut (key : K) (old rest : List (Row K V)) : Type 0 where
    pub before : List (Row K V)
    pub row : Row K V
    pub after : List (Row K V)
    pub found : Named key_of key old before row after
    pub rest_is : rest ≡ before ++ after

  -- the rows without the key's row, and whether there was none
  abbrev pub LeavesOut : K → List (Row K V) → Bool → List (Row K V) → Type 0
  LeavesOut key old false rest = TakesOut key old rest
  LeavesOut key old true rest = NoneNamed key_of key old × (rest ≡ old)

abbrev pub new_row : {K V : Type 0} → K → V → ℕ → Row K V
new_row key value moment = record { key = key; value = value; stamp = moment }

module _ {K V : Type 0} (size : K → V → ℕ) where
  -- the sum of the rows' sizes
  abbrev pub sizes : List (Row K V) → ℕ
  sizes [] = 0
  sizes (r ∷ rows) = size r.key r.value + sizes rows

  -- the sizes of a row with this stamp and of the rows that leave after it: of those born before it the ones with a greater
  -- stamp, and of itself and those born after it the ones with as great a stamp
  abbrev pub sizes_from : ℕ → List (Row K V) → List (Row K V) → ℕ
  sizes_from stamp before rows = sizes (filter (λ r. nat_lt stamp r.stamp) before) + sizes (filter (λ r. nat_le stamp r.stamp) rows)

  -- the rows of which each, with those that leave after it, has at most so many bytes; `before` were born before them
  abbrev pub kept : ℕ → List (Row K V) → List (Row K V) → List (Row K V)
  kept most before [] = []
  kept most before (r ∷ rows) = if nat_le (sizes_from r.stamp before (r ∷ rows)) most then r ∷ kept most (r ∷ before) rows else kept most (r ∷ before) rows

  -- the rows after a new one, by the cache's size: one that is too large alone isn't kept; else those with the least stamps
  -- leave, among equal stamps those born first, until all have at most that size
  abbrev pub settled : Option ℕ → List (Row K V) → Row K V → List (Row K V)
  settled None rest r = rest ++ r ∷ []
  settled (Some most) rest r = if nat_le (size r.key r.value) most then kept most [] (rest ++ r ∷ []) else rest

  -- what an insert answers and makes of the rows
  pub record Puts (kind : Kind) (moment : ℕ) (key : K) (value : V) (old : List (Row K V)) (fresh : Bool) (new : List (Row K V)) : Type 0 where
    pub rest : List (Row K V)
    pub left_out : LeavesOut key (current kind.time moment old) fresh rest
    pub rows : new ≡ settled kind.size rest (new_row key value moment)

-- a lookup at a moment answers this
abbrev pub Foretells : {K V : Type 0} → Kind → ℕ → K → List (Row K V) → Option V → Type 0
Foretells {K = K} {V = V} kind moment key rows answer = (told : Option V) (new : List (Row K V)) → Looks kind moment key rows told new → told ≡ answer

-- a row of pickles
abbrev pub PickleRow : Type 0
PickleRow = Row (List ℕ) (List ℕ)

-- the size of a row of pickles
abbrev pub pickle_size : List ℕ → List ℕ → ℕ
pickle_size key value = length key + length value

-- the rows of a cache, with its kind and its last moment
pub record CacheRows : Type 0 where
  pub kind : Kind
  pub rows : List PickleRow
  pub last : ℕ

pub record LookStep (old : CacheRows) (moment : ℕ) (key : List ℕ) (answer : Option (List ℕ)) (new : CacheRows) : Type 0 where
  pub kind : new.kind ≡ old.kind
  pub last : new.last ≡ moment
  pub rows : Looks old.kind moment key old.rows answer new.rows

pub record PutStep (old : CacheRows) (moment : ℕ) (key value : List ℕ) (fresh : Bool) (new : CacheRows) : Type 0 where
  pub kind : new.kind ≡ old.kind
  pub last : new.last ≡ moment
  pub rows : Puts pickle_size old.kind moment key value old.rows fresh new.rows

-- no rows, by a flush
abbrev pub flushed : CacheRows → CacheRows
flushed old = record { kind = old.kind; rows = []; last = old.last }

-- what a call answers and makes of a cache's rows
abbrev pub RowStep : CacheRows → RowCall → RowAns → CacheRows → Type 0
RowStep old (call.Look moment key) (ans.Found answer) new = LookStep old moment key answer new
RowStep old (call.Put moment key value) (ans.Fresh fresh) new = PutStep old moment key value fresh new
RowStep old (call.Flush moment) ans.Flushed new = new ≡ flushed old
RowStep old _ _ new = ⊥

-- what a list of calls answers and makes of them
pub data RowRun : CacheRows → List RowCall → List RowAns → CacheRows → Type 0 where
  Stays : (rows : CacheRows) → RowRun rows [] [] rows
  Goes : (old middle new : CacheRows) (c : RowCall) (calls : List RowCall) (a : RowAns) (answers : List RowAns) → RowStep old c a middle → RowRun middle calls answers new → RowRun old (c ∷ calls) (a ∷ answers) new

abbrev pub moment_of : RowCall → ℕ
moment_of (call.Look moment key) = moment
moment_of (call.Put moment key value) = moment
moment_of (call.Flush moment) = moment

-- the moments of the calls don't fall, and none is below `last`
abbrev pub MomentsRise : ℕ → List RowCall → Type 0
MomentsRise last [] = ⊤
MomentsRise last (c ∷ calls) = (last ≤ moment_of c) × MomentsRise (moment_of c) calls
