-- The core: what each event asks of the pages, the databases' holders, the history and the requests, and what it changes.
--     Core             the state
--     CoreStep         an event
--     CoreRun          events one after another
--     IsWhole          what holds after every list of events
use Rattle.std.specs.Prelude.{◌≡◌, ℕ, zero, suc, ◌+◌, ◌-◌, ◌^◌, ◌<◌, ◌≤◌, ◌==◌, Bool, true, false, not, ◌&&◌, List, [], ◌∷◌, ◌++◌, map, filter, Option, Some, None, slice_get, slice_set, if◌then◌else◌}
use Rattle.std.specs.List.{AllByRecursion, list_any}
use Rattle.web_data.specs.declared.database.WebCall.{WebCall}
use Rattle.web_data.specs.declared.database.WebCall.TheVariants as call
use Rattle.web_data.specs.declared.database.WebAns.{WebAns}
use Rattle.web_data.specs.declared.database.WebAns.TheVariants as answer
use Rattle.history_core.specs.declared.entry.Entry.{Entry}
use Rattle.history_core.specs.LegalHistory.{Database, LegalHistory}
use Rattle.history_core.specs.declared.event.Event.{Event}
use Rattle.history_core.specs.declared.event.Event.TheVariants as event
use Rattle.history_core.specs.declared.event.Owner.{Owner}

pub record Core : Type 0 where
  -- the pages that nobody owns, and each page that is owned with the request that owns it
  pub free : List ℕ
  pub owned : List Owner
  -- the request that holds each database
  pub holders : List (Option ℕ)
  -- the databases as they were handed in
  pub databases : List Database
  pub history : List Entry
  -- the requests that run, and how many began: their numbers are below that
  pub running : List ℕ
  pub begun : ℕ

-- so many numbers, from 0
abbrev pub numbers : ℕ → List ℕ
numbers zero = []
numbers (suc n) = numbers n ++ n ∷ []

-- the state at the start
abbrev pub core_start : ℕ → List Database → Core
core_start pages databases = record {
  free = numbers pages;
  owned = [];
  holders = map (λ d. None) databases;
  databases = databases;
  history = [];
  running = [];
  begun = 0;
}

abbrev pub has : ℕ → List ℕ → Bool
has n xs = list_any (λ k. k == n) xs

abbrev pub without : ℕ → List ℕ → List ℕ
without n xs = filter (λ k. not (k == n)) xs

-- whether this is the page, and its owner the request
abbrev pub is_of : ℕ → ℕ → Owner → Bool
is_of page request o = (o.page == page) && (o.request == request)

abbrev pub holds : ℕ → Option ℕ → Bool
holds request None = false
holds request (Some r) = r == request

abbrev pub entry_of : ℕ → WebCall → ℕ → WebAns → Entry
entry_of request c moment a = record { request = request; call = c; moment = moment; answer = a }

-- an entry goes last into the history, which stays legal
pub record Enters (old : Core) (e : Entry) (new : Core) : Type 0 where
  pub legal : LegalHistory old.databases (old.history ++ e ∷ [])
  pub new_is : new ≡ record old { history = old.history ++ e ∷ [] }

pub record Begins (old : Core) (request : ℕ) (new : Core) : Type 0 where
  pub next : request ≡ old.begun
  pub below : request < 2 ^ 64 - 1
  pub new_is : new ≡ record old { running = old.running ++ request ∷ []; begun = old.begun + 1 }

pub record TakesPage (old : Core) (request page : ℕ) (new : Core) : Type 0 where
  pub runs : has request old.running ≡ true
  pub is_free : has page old.free ≡ true
  pub new_is : new ≡ record old { free = without page old.free; owned = old.owned ++ record { page = page; request = request } ∷ [] }

pub record GivesPage (old : Core) (request page : ℕ) (new : Core) : Type 0 where
  pub owns : list_any (is_of page request) old.owned ≡ true
  pub new_is : new ≡ record old { free = old.free ++ page ∷ []; owned = filter (λ o. not (is_of page request o)) old.owned }

pub record TakesHandle (old : Core) (request database : ℕ) (new : Core) : Type 0 where
  pub runs : has request old.running ≡ true
  pub is_free : slice_get old.holders database ≡ Some None
  pub new_is : new ≡ record old { holders = slice_set old.holders database (Some request) }

pub record GivesHandle (old : Core) (request database : ℕ) (new : Core) : Type 0 where
  pub held : slice_get old.holders database ≡ Some (Some request)
  pub new_is : new ≡ record old { holders = slice_set old.holders database None }

pub record Ends (old : Core) (request : ℕ) (new : Core) : Type 0 where
  pub runs : has request old.running ≡ true
  pub owns_none : list_any (λ o. o.request == request) old.owned ≡ false
  pub holds_none : list_any (holds request) old.holders ≡ false
  pub new_is : new ≡ record old { running = without request old.running }

-- an event, where it is enabled. All that isn't said to change stays.
abbrev pub CoreStep : Core → Event → Core → Type 0
CoreStep old (event.Begin request) new = Begins old request new
CoreStep old (event.TakePage request page) new = TakesPage old request page new
CoreStep old (event.GivePage request page) new = GivesPage old request page new
CoreStep old (event.CacheCall request c moment a) new = (has request old.running ≡ true) × Enters old (entry_of request (call.Cache c) moment (answer.Cache a)) new
CoreStep old (event.TakeHandle request database) new = TakesHandle old request database new
CoreStep old (event.DbCall request database c a) new =
    (slice_get old.holders database ≡ Some (Some request)) × (d : Database) × (slice_get old.databases database ≡ Some d) × Enters old (entry_of request (call.Db d.name c) 0 (answer.Db a)) new
CoreStep old (event.GiveHandle request database) new = GivesHandle old request database new
CoreStep old (event.End request) new = Ends old request new

-- events one after another
abbrev pub CoreRun : Core → List Event → Core → Type 0
CoreRun old [] new = new ≡ old
CoreRun old (e ∷ events) new = (middle : Core) × CoreStep old e middle × CoreRun middle events new

-- how often a number stands in a list
abbrev pub times : ℕ → List ℕ → ℕ
times n [] = 0
times n (k ∷ ks) = (if k == n then 1 else 0) + times n ks

abbrev pub pages_of : List Owner → List ℕ
pages_of owned = map (λ o. o.page) owned

pub record IsWhole (pages : ℕ) (s : Core) : Type 0 where
  -- each page is free or owned, and that once
  pub each_page : (page : ℕ) → page < pages → times page s.free + times page (pages_of s.owned) ≡ 1
  pub no_other : (page : ℕ) → pages ≤ page → times page s.free + times page (pages_of s.owned) ≡ 0
  -- who owns a page or holds a database runs
  pub owners_run : AllByRecursion (λ o. has o.request s.running ≡ true) s.owned
  pub holders_run : (database request : ℕ) → slice_get s.holders database ≡ Some (Some request) → has request s.running ≡ true
  pub legal : LegalHistory s.databases s.history
  -- the request of each entry has begun
  pub begun : AllByRecursion (λ e. e.request < s.begun) s.history
  pub running_begun : AllByRecursion (λ r. r < s.begun) s.running
