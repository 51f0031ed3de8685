-- A run with answers: what code makes of a form, databases and a list of answers. Each call takes the next answer, if it fits.
use Rattle.std.specs.Prelude.{◌≡◌, ℕ, ◌+◌, ◌/◌, List, [], ◌∷◌, ◌++◌, length, if◌then◌else◌}
use Rattle.web_data.specs.declared.database.WebCall.{WebCall}
use Rattle.web_data.specs.declared.database.WebAns.{WebAns}
use Rattle.web_data.specs.CallAnswers.{call_answer_fits}
use Rattle.sml_evaluation.specs.Page.{PageEnd}
use Rattle.sml_evaluation.specs.Page as page
use Rattle.kam_code.specs.declared.code.Code.{Code}
use Rattle.kam_code.specs.State.{Region, State, start}
use Rattle.kam_code.specs.Step.{End, Halted, Uncaught, BadStatement, Next, Goes, Ends, Waits, Stuck, step, resumed}

-- a running state: the machine's, the answers that are left, and the calls made
pub record Run : Type 0 where
  pub state : State
  pub answers : List WebAns
  pub calls : List WebCall

abbrev pub run_of : List WebAns → List WebCall → State → Run
run_of answers calls state = record { state = state; answers = answers; calls = calls }

-- what comes next: a run, an end with the last run, a call for which no fitting answer is left, or nothing
pub data Turn : Type 0 where
  Runs : Run → Turn
  Finishes : End → Run → Turn
  Needs : WebCall → Run → Turn
  Lacks : Turn

-- once a call has its answer, it goes on, or there is no step
abbrev pub resumes : List WebAns → List WebCall → Next → Turn
resumes answers calls (Goes state) = Runs (run_of answers calls state)
resumes answers calls (Ends end state) = Finishes end (run_of answers calls state)
resumes answers calls (Waits call state) = Lacks
resumes answers calls Stuck = Lacks

-- a call: its step takes the next answer, whose words are charged, and the call is one of those made
abbrev pub answered : Code → WebCall → Run → List WebAns → Turn
answered code call run [] = Needs call run
answered code call run (answer ∷ answers) =
    if call_answer_fits call answer then resumes answers (run.calls ++ call ∷ []) (resumed code answer run.state) else Needs call run

abbrev pub told : Code → Run → Next → Turn
told code run (Goes state) = Runs (run_of run.answers run.calls state)
told code run (Ends end state) = Finishes end (run_of run.answers run.calls state)
told code run (Waits call state) = answered code call run run.answers
told code run Stuck = Lacks

-- one step of a run
abbrev pub turn : Code → Run → Turn
turn code run = told code run (step code run.state)

-- before the first instruction
abbrev pub start_run : List (List ℕ × List ℕ) → List (List ℕ) → List WebAns → Run
start_run form databases answers = run_of answers [] (start form databases)

-- the code reaches a run from another one
pub data Reaches (code : Code) (first : Run) : Run → Type 0 where
  here : Reaches code first first
  further : {before after : Run} → Reaches code first before → turn code before ≡ Runs after → Reaches code first after

-- the code reaches a run from a form, databases and answers
abbrev pub CodeReaches : Code → List (List ℕ × List ℕ) → List (List ℕ) → List WebAns → Run → Type 0
CodeReaches code form databases answers run = Reaches code (start_run form databases answers) run

-- an end as that of a page
abbrev pub page_end : End → State → PageEnd
page_end Halted state = page.Finished state.status state.content_type state.body
page_end (Uncaught name) state = page.Uncaught name
page_end (BadStatement place) state = page.Refused place

-- the code comes to this end of a page, with these calls made and this charge
pub record CodeEnds (code : Code) (form : List (List ℕ × List ℕ)) (databases : List (List ℕ)) (answers : List WebAns) (calls : List WebCall) (charge : ℕ) (end : PageEnd) : Type 0 where
  pub last : Run
  pub reached : CodeReaches code form databases answers last
  pub how : End
  pub final : Run
  pub ends : turn code last ≡ Finishes how final
  pub is_end : page_end how final.state ≡ end
  pub are_calls : final.calls ≡ calls
  pub is_charge : final.state.charge ≡ charge

-- how many pages of 128 words regions need
abbrev pub pages_of : List Region → ℕ
pages_of [] = 0
pages_of (region ∷ regions) = (length region.words + 127) / 128 + pages_of regions

-- how many pages a state's regions need
abbrev pub pages_needed : State → ℕ
pages_needed state = pages_of state.regions
