-- Groups in which no two caches are one and no two rows of a cache have one key. The machine makes no others, and has one
-- answer to a call there.
use Rattle.std.specs.Prelude.{◌≡◌, ℕ, List, [], ◌∷◌, ⊤}
use Rattle.std.specs.List.{AllByRecursion}
use Rattle.web_data.specs.declared.cache.CacheCall.{CacheCall}
use Rattle.web_data.specs.declared.cache.CacheAns.{CacheAns}
use Rattle.cache_rows.specs.RowMachine.{NoneNamed, key_of}
use Rattle.web_cache.specs.CacheMachine.{Standing, Group, CacheStep, id_of, new_groups}

-- no two items have one name
abbrev pub Apart : {A B : Type 0} → (A → B) → List A → Type 0
Apart name [] = ⊤
Apart name (x ∷ xs) = NoneNamed name (name x) xs × Apart name xs

-- no two rows of the cache have one key
abbrev pub KeysApart : Standing → Type 0
KeysApart cache = Apart key_of cache.rows

-- no two caches of the group are one, and no two rows of a cache have one key
pub record IsApart (group : Group) : Type 0 where
  pub ids : Apart id_of group.caches
  pub keys : AllByRecursion KeysApart group.caches

abbrev pub AreApart : List Group → Type 0
AreApart groups = AllByRecursion IsApart groups

-- a call at a moment has one answer, and makes one thing of the groups
abbrev pub OneAnswer : Type 0
OneAnswer = (old : List Group) (call : CacheCall) (moment : ℕ) (new other : List Group) (a b : CacheAns) → AreApart old → CacheStep old call moment new a → CacheStep old call moment other b → (a ≡ b) × (new ≡ other)

-- the groups at the start are such, and stay so
abbrev pub StayApart : Type 0
StayApart = AreApart (new_groups 16) × ((old : List Group) (call : CacheCall) (moment : ℕ) (new : List Group) (a : CacheAns) → AreApart old → CacheStep old call moment new a → AreApart new)
