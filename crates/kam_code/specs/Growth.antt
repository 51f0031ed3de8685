-- How the charge, the number of regions made, and the calls go on.
use Rattle.std.specs.Prelude.{◌≡◌, ◌⊎◌, ℕ, ◌<◌, ◌≤◌, true, ◌∷◌, [], ◌++◌}
use Rattle.web_data.specs.declared.database.WebCall.{WebCall}
use Rattle.web_data.specs.declared.database.WebAns.{WebAns}
use Rattle.web_data.specs.CallAnswers.{call_answer_fits}
use Rattle.kam_code.specs.State.{State}
use Rattle.kam_code.specs.Step.{Next, Goes, Ends, Waits, Stuck}
use Rattle.kam_code.specs.Run.{Run, Turn, Runs, Finishes, Needs, Lacks}

-- neither the charge nor the number of regions made is lower
abbrev pub Later : State → State → Type 0
Later s t = (s.charge ≤ t.charge) × (s.made ≤ t.made)

-- a step makes the charge greater; an end lowers nothing, and a call leaves the state as it is
abbrev pub Grows : State → Next → Type 0
Grows s (Goes t) = (s.charge < t.charge) × (s.made ≤ t.made)
Grows s (Ends end t) = Later s t
Grows s (Waits call t) = t ≡ s
Grows s Stuck = Unit {0}

-- so does a step of a run
abbrev pub TurnGrows : Run → Turn → Type 0
TurnGrows run (Runs after) = (run.state.charge < after.state.charge) × (run.state.made ≤ after.state.made)
TurnGrows run (Finishes end after) = Later run.state after.state
TurnGrows run (Needs call after) = after ≡ run
TurnGrows run Lacks = Unit {0}

-- no call is made, or one is made and takes the first answer, which fits it
abbrev pub NoCall : Run → Run → Type 0
NoCall run after = (after.answers ≡ run.answers) × (after.calls ≡ run.calls)

pub record OneCall (run after : Run) : Type 0 where
  pub call : WebCall
  pub answer : WebAns
  pub first : run.answers ≡ answer ∷ after.answers
  pub fits : call_answer_fits call answer ≡ true
  pub made : after.calls ≡ run.calls ++ call ∷ []

abbrev pub TurnCalls : Run → Turn → Type 0
TurnCalls run (Runs after) = NoCall run after ⊎ OneCall run after
TurnCalls run (Finishes end after) = NoCall run after ⊎ OneCall run after
TurnCalls run (Needs call after) = after ≡ run
TurnCalls run Lacks = Unit {0}
