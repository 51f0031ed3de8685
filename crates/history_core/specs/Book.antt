-- A book over caches and the handles of databases: what each call makes of it.
use Rattle.std.specs.Prelude.{◌≡◌, ◌≤◌, ℕ, List, [], ◌∷◌, map, max, Option, Some, None, ⊤}
use Rattle.web_data.specs.declared.cache.CacheCall.{CacheCall}
use Rattle.web_data.specs.declared.cache.CacheAns.{CacheAns}
use Rattle.web_data.specs.declared.database.DbCmd.{DbCmd}
use Rattle.web_data.specs.declared.database.DbAns.{DbAns}
use Rattle.web_data.specs.declared.database.WebCall.TheVariants as call
use Rattle.web_data.specs.declared.database.WebAns.TheVariants as answer
use Rattle.outside_world.specs.FaultPlan.{one_more}
use Rattle.db_keeper.specs.Keeping.{KeeperMeaning}
use Rattle.db_pool.specs.Handling.{HandleActs, HandleKept}
use Rattle.web_cache.specs.CacheMachine.{Group, group_number, last_moment}
use Rattle.history_core.specs.declared.entry.Entry.{Entry}
use Rattle.history_core.specs.LegalHistory.{Database, Machines, CacheEntry, OnDatabase, after_answer, start}
use Rattle.history_core.specs.Calling.{Act, Begins, AnswersCache, LacksForCache, AnswersCommand, LacksForCommand, Ends, CallsMeaning}

-- The caches and the databases as they are, how many calls were answered, how many requests began (both up to the end of a
-- `u64`), and the request that runs. A keeper counts its faults by itself, so that its count may also rise without one.
pub record Book : Type 0 where
  pub machines : Machines
  pub calls : ℕ
  pub requests : ℕ
  pub running : Option ℕ

abbrev pub new_book : List Database → Book
new_book databases = record { machines = start databases; calls = 0; requests = 0; running = None }

-- handles as databases, by what is known of a handle
abbrev pub databases_of : {H : Type 0} → (H → List ℕ) → (H → List KeeperMeaning) → List H → List Database
databases_of name keepers handles = map (λ h. record { name = name h; keepers = keepers h }) handles

abbrev pub names_of : List Database → List (List ℕ)
names_of databases = map (λ d. d.name) databases

abbrev pub seen : Book → CallsMeaning
seen b = record { names = names_of b.machines.databases; running = b.running; next = b.requests }

-- what a handle makes of an answered command: after a fault the next spare stands, where one is left
abbrev pub HandleAnswers : DbCmd → DbAns → List KeeperMeaning → List KeeperMeaning → Type 0
HandleAnswers c a old new = (middle : List KeeperMeaning) × HandleActs old c a middle × (new ≡ after_answer a middle)

abbrev pub with_groups : Book → List Group → Book
with_groups b groups = record { machines = record { groups = groups; databases = b.machines.databases }; calls = one_more b.calls; requests = b.requests; running = b.running }

abbrev pub with_databases : Book → List Database → ℕ → Book
with_databases b databases calls = record { machines = record { groups = b.machines.groups; databases = databases }; calls = calls; requests = b.requests; running = b.running }

-- a cache call: its moment is the greater of its group's last one and the reading
pub record BookCache (old : Book) (reading : ℕ) (e : Entry) (new : Book) : Type 0 where
  pub c : CacheCall
  pub a : CacheAns
  pub request : old.running ≡ Some e.request
  pub call_is : e.call ≡ call.Cache c
  pub answer_is : e.answer ≡ answer.Cache a
  pub moment_is : e.moment ≡ max (last_moment old.machines.groups (group_number c.id.name)) reading
  pub step : CacheEntry old.machines.groups c e.moment a new.machines.groups
  pub new_is : new ≡ with_groups old new.machines.groups

-- a command
pub record BookCommand (old : Book) (e : Entry) (new : Book) : Type 0 where
  pub name : List ℕ
  pub c : DbCmd
  pub a : DbAns
  pub request : old.running ≡ Some e.request
  pub call_is : e.call ≡ call.Db name c
  pub answer_is : e.answer ≡ answer.Db a
  pub moment_is : e.moment ≡ 0
  pub step : OnDatabase (HandleAnswers c a) old.machines.databases name new.machines.databases
  pub new_is : new ≡ with_databases old new.machines.databases (one_more old.calls)

-- a command for which memory was wanting
pub record BookLacks (old new : Book) : Type 0 where
  pub name : List ℕ
  pub step : OnDatabase HandleKept old.machines.databases name new.machines.databases
  pub new_is : new ≡ with_databases old new.machines.databases old.calls

-- a request begins
pub record BookBegins (old : Book) (number : ℕ) (new : Book) : Type 0 where
  pub number_is : number ≡ old.requests
  pub new_is : new ≡ record { machines = old.machines; calls = old.calls; requests = one_more old.requests; running = Some number }

abbrev pub book_ended : Book → Book
book_ended b = record { machines = b.machines; calls = b.calls; requests = b.requests; running = None }

-- one step
abbrev pub BookStep : Book → Act → Book → Type 0
BookStep old (Begins number) new = BookBegins old number new
BookStep old (AnswersCache reading e) new = BookCache old reading e new
BookStep old (LacksForCache reading) new = new ≡ old
BookStep old (AnswersCommand e) new = BookCommand old e new
BookStep old LacksForCommand new = BookLacks old new
BookStep old Ends new = new ≡ book_ended old

-- a keeper of a history and the keeper itself, which may have counted more
pub record KeeperShows (keeper itself : KeeperMeaning) : Type 0 where
  pub tables : itself.tables ≡ keeper.tables
  pub plan : itself.plan ≡ keeper.plan
  pub count : keeper.faults ≤ itself.faults

-- items side by side
abbrev pub Pairwise : {X : Type 0} → (X → X → Type 0) → List X → List X → Type 0
Pairwise R [] [] = ⊤
Pairwise R (x ∷ xs) (y ∷ ys) = R x y × Pairwise R xs ys
Pairwise R _ _ = ⊥

pub record DatabaseShows (database itself : Database) : Type 0 where
  pub name : database.name ≡ itself.name
  pub keepers : Pairwise KeeperShows database.keepers itself.keepers

-- the machines of a history and those of a book
pub record MachinesShow (machines : Machines) (b : Book) : Type 0 where
  pub groups : machines.groups ≡ b.machines.groups
  pub databases : Pairwise DatabaseShows machines.databases b.machines.databases
