-- Legal histories: each answer is the one that the cache machine and the database machine give after the entries before it.
--     Machines         the groups of caches, and the databases with their keepers
--     EntryStep        what an entry makes of the machines
--     LegalRun         what a list of entries makes of them, one after the other
--     LegalHistory     a list of entries from the machines of the start
use Rattle.std.specs.Prelude.{◌≡◌, ◌≤◌, ℕ, List, [], ◌∷◌, true, slice_get, slice_set, Some}
use Rattle.web_data.specs.declared.cache.CacheCall.{CacheCall}
use Rattle.web_data.specs.declared.cache.CacheAns.{CacheAns}
use Rattle.web_data.specs.declared.database.DbCmd.{DbCmd}
use Rattle.web_data.specs.declared.database.DbAns.{DbAns}
use Rattle.web_data.specs.declared.database.DbAns.TheVariants as db
use Rattle.web_data.specs.declared.database.WebCall.{WebCall}
use Rattle.web_data.specs.declared.database.WebCall.TheVariants as call
use Rattle.web_data.specs.declared.database.WebAns.{WebAns}
use Rattle.web_data.specs.declared.database.WebAns.TheVariants as answer
use Rattle.web_data.specs.CacheCalls.{cache_call_fits}
use Rattle.outside_world.specs.FaultPlan.{FailsAsPlanned, plan_after}
use Rattle.db_keeper.specs.Keeping.{KeeperMeaning}
use Rattle.db_pool.specs.Handling.{IsFault, KeeperAnswers, replaced}
use Rattle.web_cache.specs.CacheMachine.{Group, CacheStep, group_number, last_moment, new_groups}
use Rattle.history_core.specs.declared.entry.Entry.{Entry}

-- a database: its name, the keeper that stands, and the spares behind it. A keeper's count of faults is the one that it had
-- when it was handed in, and from its first fault on the number of its last fault.
pub record Database : Type 0 where
  pub name : List ℕ
  pub keepers : List KeeperMeaning

-- the machines of a history
pub record Machines : Type 0 where
  pub groups : List Group
  pub databases : List Database

-- the machines at the start: no cache stands
abbrev pub start : List Database → Machines
start databases = record { groups = new_groups 16; databases = databases }

-- a cache call: its data have the descriptions of its cache, its moment isn't before the last one of its group, and its answer
-- is the cache machine's
pub record CacheEntry (old : List Group) (c : CacheCall) (moment : ℕ) (a : CacheAns) (new : List Group) : Type 0 where
  pub fits : cache_call_fits c ≡ true
  pub moment_is : last_moment old (group_number c.id.name) ≤ moment
  pub step : CacheStep old c moment new a

-- the count of a keeper after an answer
abbrev pub last_fault : ℕ → DbAns → ℕ
last_fault count (db.Fault n) = n
last_fault count a = count

-- A command on the keeper that stands. A fault's number rose above the count, and a fault leaves the tables. Any other answer is
-- one of those that the command has, and the machine's where the tables are told. A keeper that tells its failing calls fails
-- exactly at these.
pub record KeeperEntry (old : KeeperMeaning) (c : DbCmd) (a : DbAns) (new : KeeperMeaning) : Type 0 where
  pub answers : KeeperAnswers old c a new
  pub planned : FailsAsPlanned old.plan (IsFault a)
  pub plan : new.plan ≡ plan_after old.plan
  pub count : new.faults ≡ last_fault old.faults a

-- the keepers after an answer: after a fault the next spare stands, where one is left
abbrev pub after_answer : DbAns → List KeeperMeaning → List KeeperMeaning
after_answer (db.Fault n) keepers = replaced keepers
after_answer a keepers = keepers

-- a command on the keepers of a database
abbrev pub KeepersEntry : DbCmd → DbAns → List KeeperMeaning → List KeeperMeaning → Type 0
KeepersEntry c a [] new = ⊥
KeepersEntry c a (k ∷ ks) new = (k' : KeeperMeaning) × KeeperEntry k c a k' × (new ≡ after_answer a (k' ∷ ks))

-- a change of the keepers of the database of a name, while the others stay
pub record OnDatabase (Change : List KeeperMeaning → List KeeperMeaning → Type 0) (old : List Database) (name : List ℕ) (new : List Database) : Type 0 where
  pub place : ℕ
  pub database : Database
  pub keepers : List KeeperMeaning
  pub there : slice_get old place ≡ Some database
  pub named : database.name ≡ name
  pub change : Change database.keepers keepers
  pub new_is : new ≡ slice_set old place (record { name = database.name; keepers = keepers })

-- what an entry makes of the groups of caches
abbrev pub GroupsStep : WebCall → ℕ → WebAns → List Group → List Group → Type 0
GroupsStep (call.Cache c) moment (answer.Cache a) old new = CacheEntry old c moment a new
GroupsStep (call.Cache c) moment (answer.Db a) old new = ⊥
GroupsStep (call.Db name c) moment a old new = new ≡ old

-- what an entry makes of the databases
abbrev pub DatabasesStep : WebCall → ℕ → WebAns → List Database → List Database → Type 0
DatabasesStep (call.Cache c) moment a old new = new ≡ old
DatabasesStep (call.Db name c) moment (answer.Db a) old new = (moment ≡ 0) × OnDatabase (KeepersEntry c a) old name new
DatabasesStep (call.Db name c) moment (answer.Cache a) old new = ⊥

-- what an entry makes of the machines
pub record EntryStep (old : Machines) (e : Entry) (new : Machines) : Type 0 where
  pub groups : GroupsStep e.call e.moment e.answer old.groups new.groups
  pub databases : DatabasesStep e.call e.moment e.answer old.databases new.databases

-- what a list of entries makes of the machines
abbrev pub LegalRun : Machines → List Entry → Machines → Type 0
LegalRun old [] new = new ≡ old
LegalRun old (e ∷ entries) new = (middle : Machines) × EntryStep old e middle × LegalRun middle entries new

-- a history from its first entry on, over these databases
abbrev pub LegalHistory : List Database → List Entry → Type 0
LegalHistory databases entries = (end : Machines) × LegalRun (start databases) entries end
