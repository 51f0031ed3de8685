-- What is done through the caches and the databases, step by step.
--     Act                  what a step does
--     CallsMeaning         what is seen of an object that makes calls
--     Chain                steps one after another
use Rattle.std.specs.Prelude.{◌≡◌, ◌≤◌, ◌⊎◌, ℕ, List, [], ◌∷◌, Option, Some, None}
use Rattle.web_data.specs.declared.database.DbCmd.{DbCmd}
use Rattle.web_data.specs.declared.database.DbAns.{DbAns}
use Rattle.web_data.specs.declared.database.WebCall.{WebCall}
use Rattle.web_data.specs.declared.database.WebAns.{WebAns}
use Rattle.web_data.specs.DatabaseAnswers.{FitsCommand}
use Rattle.outside_world.specs.FaultPlan.{one_more}
use Rattle.db_pool.specs.Handling.{IsFault}
use Rattle.history_core.specs.declared.entry.Entry.{Entry}

pub data Act : Type 0 where
  -- a request begins, with its number
  Begins : ℕ → Act
  -- a cache call at a reading of the clock is answered
  AnswersCache : ℕ → Entry → Act
  -- memory was wanting for a cache call at a reading
  LacksForCache : ℕ → Act
  -- a command is answered
  AnswersCommand : Entry → Act
  -- memory was wanting for a command
  LacksForCommand : Act
  -- the request ends
  Ends : Act

-- the entries of some steps
abbrev pub entries_of : List Act → List Entry
entries_of [] = []
entries_of (Begins number ∷ acts) = entries_of acts
entries_of (AnswersCache reading e ∷ acts) = e ∷ entries_of acts
entries_of (LacksForCache reading ∷ acts) = entries_of acts
entries_of (AnswersCommand e ∷ acts) = e ∷ entries_of acts
entries_of (LacksForCommand ∷ acts) = entries_of acts
entries_of (Ends ∷ acts) = entries_of acts

-- steps one after another
abbrev pub Chain : {S : Type 0} → (S → Act → S → Type 0) → S → List Act → S → Type 0
Chain {S} step old [] new = new ≡ old
Chain {S} step old (act ∷ acts) new = (middle : S) × step old act middle × Chain step middle acts new

pub record CallsMeaning : Type 0 where
  -- the names of the databases, in order
  pub names : List (List ℕ)
  -- the number of the request that runs here
  pub running : Option ℕ
  -- no number that was given here is this or above it, until it stands at the end of a `u64`
  pub next : ℕ

-- a request began
pub record Began (old : CallsMeaning) (number : ℕ) (new : CallsMeaning) : Type 0 where
  pub above : old.next ≤ number
  pub new_is : new ≡ record { names = old.names; running = Some number; next = one_more number }

-- the request ended
abbrev pub ended : CallsMeaning → CallsMeaning
ended old = record { names = old.names; running = None; next = old.next }

abbrev pub IsRunning : CallsMeaning → Type 0
IsRunning m = (request : ℕ) × (m.running ≡ Some request)

-- a call was answered, and that is one step with its entry
pub record IsAnswered {S : Type 0} (step : S → Act → S → Type 0) (act : Entry → Act) (running : Option ℕ) (old : S) (c : WebCall) (a : WebAns) (new : S) : Type 0 where
  pub entry : Entry
  pub request : running ≡ Some entry.request
  pub call_is : entry.call ≡ c
  pub answer_is : entry.answer ≡ a
  pub step_is : step old (act entry) new

-- an answer that the command has, or a fault
abbrev pub FitsOrFails : DbCmd → DbAns → Type 0
FitsOrFails c a = FitsCommand c a ⊎ IsFault a
