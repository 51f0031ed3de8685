-- Steps of runs.
use Rattle.std.proofs.Common.{◌≡◌, ◌⊎◌, ℕ, zero, suc, Bool, true, false, cond, List, [], ◌∷◌, ◌++◌, refl, sym, subst, ap, inl, inr, ◌∙◌}
use Rattle.web_data.specs.declared.database.WebCall.{WebCall}
use Rattle.web_data.specs.declared.database.WebAns.{WebAns}
use Rattle.web_data.specs.CallAnswers.{call_answer_fits}
use Rattle.kam_code.specs.declared.code.Code.{Code}
use Rattle.kam_code.specs.State.{State, start}
use Rattle.kam_code.specs.Step.{Next, Goes, Ends, Waits, Stuck, step, resumed, and_then, steps}
use Rattle.kam_code.specs.Run.{Run, run_of, Turn, Runs, Finishes, Needs, Lacks, resumes, answered, told, turn, start_run, Reaches, here, further, CodeReaches}
use Rattle.kam_code.specs.Growth.{Grows, TurnGrows, NoCall, OneCall, TurnCalls}
use Rattle.kam_code.proofs.Growth.{step_grows, resumed_grows}

-- ---- what a turn makes greater

resumes_grows : (run : Run) (answers : List WebAns) (calls : List WebCall) (next : Next) → Grows run.state next → TurnGrows run (resumes answers calls next)
resumes_grows run answers calls (Goes state) g = g
resumes_grows run answers calls (Ends end state) g = g
resumes_grows run answers calls (Waits call state) g = tt
resumes_grows run answers calls Stuck g = tt

if_turn_grows : (run : Run) (b : Bool) (x y : Turn) → TurnGrows run x → TurnGrows run y → TurnGrows run (cond b x y)
if_turn_grows run true x y p q = p
if_turn_grows run false x y p q = q

answered_grows : (code : Code) (call : WebCall) (run : Run) (answers : List WebAns) → TurnGrows run (answered code call run answers)
answered_grows code call run [] = refl
answered_grows code call run (answer ∷ answers) =
    if_turn_grows run (call_answer_fits call answer) (resumes answers (run.calls ++ call ∷ []) (resumed code answer run.state)) (Needs call run)
    (resumes_grows run answers (run.calls ++ call ∷ []) (resumed code answer run.state) (resumed_grows code answer run.state)) refl

told_grows : (code : Code) (run : Run) (next : Next) → Grows run.state next → TurnGrows run (told code run next)
told_grows code run (Goes state) g = g
told_grows code run (Ends end state) g = g
told_grows code run (Waits call state) g = answered_grows code call run run.answers
told_grows code run Stuck g = tt

pub turn_grows : (code : Code) (run : Run) → TurnGrows run (turn code run)
turn_grows code run = told_grows code run (step code run.state) (step_grows code run.state)

-- ---- which call it makes

called : (run : Run) (call : WebCall) (answer : WebAns) (answers : List WebAns) (state : State) → run.answers ≡ answer ∷ answers → call_answer_fits call answer ≡ true
    → OneCall run (run_of answers (run.calls ++ call ∷ []) state)
called run call answer answers state e f = record { call = call; answer = answer; first = e; fits = f; made = refl }

resumes_calls : (run : Run) (call : WebCall) (answer : WebAns) (answers : List WebAns) (next : Next) → run.answers ≡ answer ∷ answers → call_answer_fits call answer ≡ true
    → TurnCalls run (resumes answers (run.calls ++ call ∷ []) next)
resumes_calls run call answer answers (Goes state) e f = inr (called run call answer answers state e f)
resumes_calls run call answer answers (Ends end state) e f = inr (called run call answer answers state e f)
resumes_calls run call answer answers (Waits other state) e f = tt
resumes_calls run call answer answers Stuck e f = tt

if_turn_calls : (run : Run) (b : Bool) (x y : Turn) → (b ≡ true → TurnCalls run x) → TurnCalls run y → TurnCalls run (cond b x y)
if_turn_calls run true x y p q = p refl
if_turn_calls run false x y p q = q

answered_calls : (code : Code) (call : WebCall) (run : Run) (answers : List WebAns) → run.answers ≡ answers → TurnCalls run (answered code call run answers)
answered_calls code call run [] e = refl
answered_calls code call run (answer ∷ answers) e =
    if_turn_calls run (call_answer_fits call answer) (resumes answers (run.calls ++ call ∷ []) (resumed code answer run.state)) (Needs call run)
    (λ f. resumes_calls run call answer answers (resumed code answer run.state) e f) refl

told_calls : (code : Code) (run : Run) (next : Next) → TurnCalls run (told code run next)
told_calls code run (Goes state) = inl (refl, refl)
told_calls code run (Ends end state) = inl (refl, refl)
told_calls code run (Waits call state) = answered_calls code call run run.answers refl
told_calls code run Stuck = tt

pub turn_calls : (code : Code) (run : Run) → TurnCalls run (turn code run)
turn_calls code run = told_calls code run (step code run.state)

-- ---- steps without calls are reached

turn_goes : (code : Code) (run : Run) (state : State) → step code run.state ≡ Goes state → turn code run ≡ Runs (run_of run.answers run.calls state)
turn_goes code run state e = ap (told code run) e

first_goes : (code : Code) (answers : List WebAns) (calls : List WebCall) (first : Run) (before final : State) (next : Next) (more : State → Next) → step code before ≡ next
    → ((state : State) → Reaches code first (run_of answers calls state) → more state ≡ Goes final → Reaches code first (run_of answers calls final))
    → Reaches code first (run_of answers calls before) → and_then next more ≡ Goes final → Reaches code first (run_of answers calls final)
first_goes code answers calls first before final (Goes state) more e h r g =
    h state (further r (turn_goes code (run_of answers calls before) state e)) g
first_goes code answers calls first before final (Ends end state) more e h r g = absurd (cc)
first_goes code answers calls first before final (Waits call state) more e h r g = absurd (cc)
first_goes code answers calls first before final Stuck more e h r g = absurd (cc)

goes_state : {s t : State} → Goes s ≡ Goes t → s ≡ t
goes_state e = cc

pub steps_reached : (code : Code) (answers : List WebAns) (calls : List WebCall) (first : Run) (n : ℕ) (before final : State) → Reaches code first (run_of answers calls before)
    → steps code n before ≡ Goes final → Reaches code first (run_of answers calls final)
steps_reached code answers calls first zero before final r e = subst (λ s. Reaches code first (run_of answers calls s)) (goes_state e) r
steps_reached code answers calls first (suc n) before final r e =
    first_goes code answers calls first before final (step code before) (steps code n) refl (λ state q g. steps_reached code answers calls first n state final q g) r e

pub start_reached : (code : Code) (form : List (List ℕ × List ℕ)) (databases : List (List ℕ)) (answers : List WebAns) (n : ℕ) (final : State) → steps code n (start form databases) ≡ Goes final
    → CodeReaches code form databases answers (run_of answers [] final)
start_reached code form databases answers n final e = steps_reached code answers [] (start_run form databases answers) n (start form databases) final here e
