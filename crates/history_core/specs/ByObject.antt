-- The entries on one object, and histories that are legal object by object. An object is a group of caches or a database.
use Rattle.std.specs.Prelude.{◌≡◌, ◌≤◌, ◌<◌, ◌==◌, ℕ, List, [], ◌∷◌, Bool, true, false, filter, slice_get, Some, ⊤, bytes_eq}
use Rattle.std.specs.List.{AllByRecursion}
use Rattle.web_data.specs.declared.cache.CacheCall.{CacheCall}
use Rattle.web_data.specs.declared.cache.CacheAns.{CacheAns}
use Rattle.web_data.specs.declared.database.DbCmd.{DbCmd}
use Rattle.web_data.specs.declared.database.DbAns.{DbAns}
use Rattle.web_data.specs.declared.database.WebCall.{WebCall}
use Rattle.web_data.specs.declared.database.WebCall.TheVariants as call
use Rattle.web_data.specs.declared.database.WebAns.{WebAns}
use Rattle.web_data.specs.declared.database.WebAns.TheVariants as answer
use Rattle.web_data.specs.CacheCalls.{cache_call_fits}
use Rattle.web_cache.specs.CacheMachine.{Group, GroupStep, group_number, new_group}
use Rattle.history_core.specs.declared.entry.Entry.{Entry}
use Rattle.history_core.specs.LegalHistory.{Database, KeepersEntry}

-- whether a call is on the group of a number
abbrev pub is_on_group : ℕ → WebCall → Bool
is_on_group number (call.Cache c) = group_number c.id.name == number
is_on_group number (call.Db name c) = false

-- whether a call is on the database of a name
abbrev pub is_on_database : List ℕ → WebCall → Bool
is_on_database name (call.Cache c) = false
is_on_database name (call.Db other c) = bytes_eq other name

-- the entries on a group, and on a database
abbrev pub group_entries : ℕ → List Entry → List Entry
group_entries number entries = filter (λ e. is_on_group number e.call) entries

abbrev pub database_entries : List ℕ → List Entry → List Entry
database_entries name entries = filter (λ e. is_on_database name e.call) entries

-- a cache call on its group alone
pub record GroupEntry (old : Group) (c : CacheCall) (moment : ℕ) (a : CacheAns) (new : Group) : Type 0 where
  pub fits : cache_call_fits c ≡ true
  pub moment_is : old.last ≤ moment
  pub step : GroupStep old c moment new a

abbrev pub GroupCall : WebCall → ℕ → WebAns → Group → Group → Type 0
GroupCall (call.Cache c) moment (answer.Cache a) old new = GroupEntry old c moment a new
GroupCall _ moment _ old new = ⊥

abbrev pub OnGroup : Group → Entry → Group → Type 0
OnGroup old e new = GroupCall e.call e.moment e.answer old new

-- a command on its database alone
pub record DatabaseEntry (old : Database) (c : DbCmd) (moment : ℕ) (a : DbAns) (new : Database) : Type 0 where
  pub moment_is : moment ≡ 0
  pub name : new.name ≡ old.name
  pub keepers : KeepersEntry c a old.keepers new.keepers

abbrev pub DatabaseCall : WebCall → ℕ → WebAns → Database → Database → Type 0
DatabaseCall (call.Db name c) moment (answer.Db a) old new = DatabaseEntry old c moment a new
DatabaseCall _ moment _ old new = ⊥

abbrev pub OnOne : Database → Entry → Database → Type 0
OnOne old e new = DatabaseCall e.call e.moment e.answer old new

-- entries on one object, one after the other
abbrev pub Alone : {X : Type 0} → (X → Entry → X → Type 0) → X → List Entry → X → Type 0
Alone {X} step old [] new = new ≡ old
Alone {X} step old (e ∷ entries) new = (middle : X) × step old e middle × Alone step middle entries new

-- legal by themselves: the entries on each group, and those on each database
pub record LegalByObject (databases : List Database) (entries : List Entry) : Type 0 where
  pub groups : (number : ℕ) → number < 16 → (end : Group) × Alone OnGroup (new_group number) (group_entries number entries) end
  pub databases_are : (place : ℕ) (database : Database) → slice_get databases place ≡ Some database →
      (end : Database) × Alone OnOne database (database_entries database.name entries) end

-- the names of the databases differ
abbrev pub NamesDiffer : List Database → Type 0
NamesDiffer databases = (i j : ℕ) (a b : Database) → slice_get databases i ≡ Some a → slice_get databases j ≡ Some b → a.name ≡ b.name → i ≡ j

-- the database that a call names is there
abbrev pub NamesOne : List Database → WebCall → Type 0
NamesOne databases (call.Cache c) = ⊤
NamesOne databases (call.Db name c) = (place : ℕ) × (database : Database) × (slice_get databases place ≡ Some database) × (database.name ≡ name)

abbrev pub EachNamesOne : List Database → List Entry → Type 0
EachNamesOne databases entries = AllByRecursion (λ e. NamesOne databases e.call) entries
