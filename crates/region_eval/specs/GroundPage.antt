-- What the items of a specialised program come to from an empty store: the calls that they make, and their end; and the work and depth of that.
use Rattle.std.specs.Prelude.{◌≡◌, ℕ, List, [], Option, Some, None}
use Rattle.std.specs.List.{slice_get}
use Rattle.web_data.specs.declared.database.WebCall.{WebCall}
use Rattle.web_data.specs.declared.database.WebAns.{WebAns}
use Rattle.sml_evaluation.specs.Page.{PageEnd, Finished, Uncaught, Refused, Waiting, Endless, start_state, IsOver}
use Rattle.region_syntax.specs.GroundTypes.{GroundType}
use Rattle.region_syntax.specs.GroundTerms.{Program}
use Rattle.region_syntax.specs.Cost.{IsWork, IsDepth}
use Rattle.sml_evaluation.specs.RunState.{Done, Raised, BadStatement, Over, Waits, state_of, count_of}
use Rattle.region_eval.specs.GroundValues.{Value, Packet, PacketOf, Env, no_names}
use Rattle.region_eval.specs.GroundPrimitives.{State, Outcome}
use Rattle.region_eval.specs.GroundEvaluation.{eval_decs}

-- a request's form, the databases, and the answers to the calls
pub record Request : Type 0 where
  pub form : List (List ℕ × List ℕ)
  pub databases : List (List ℕ)
  pub answers : List WebAns

abbrev pub start : Request → State
start q = state_of (start_state q.form q.databases q.answers) [] 0

-- the items at a height
abbrev pub run : ℕ → Program → Request → Outcome Env
run n p q = eval_decs n no_names (start q) p.items

-- a packet of the exception of this name
abbrev pub number_of_packet : Value → Option ℕ
number_of_packet (Packet number) = Some number
number_of_packet (PacketOf number v) = Some number
number_of_packet _ = None

abbrev pub IsNamed : Program → List ℕ → Option ℕ → Type 0
IsNamed p name None = ⊥
IsNamed p name (Some number) = (a : Option GroundType) × (slice_get p.exceptions number ≡ Some (name, a))

-- the outcome is this end, with these calls made
abbrev pub EndsAs : Program → Outcome Env → List WebCall → PageEnd → Type 0
EndsAs p (Done env s) calls (Finished status content_type body) =
    (s.shared.calls ≡ calls) × (s.shared.status ≡ status) × (s.shared.content_type ≡ content_type) × (s.shared.body ≡ body)
EndsAs p (Raised v s) calls (Uncaught name) = (s.shared.calls ≡ calls) × IsNamed p name (number_of_packet v)
EndsAs p (BadStatement place s) calls (Refused n) = (s.shared.calls ≡ calls) × (place ≡ n)
EndsAs p (Waits s) calls Waiting = s.shared.calls ≡ calls
EndsAs p _ calls end = ⊥

-- the program comes to this end with these calls at some height; or the height runs out at each one, and no calls are told
abbrev pub GroundPage : Program → Request → List WebCall → PageEnd → Type 0
GroundPage p q calls Endless = (calls ≡ []) × ((n : ℕ) → IsOver (run n p q))
GroundPage p q calls end = (n : ℕ) × EndsAs p (run n p q) calls end

-- the rules and words at a height; the greatest of them, and the least height at which they are that
abbrev pub work_at : Program → Request → ℕ → ℕ
work_at p q n = count_of (run n p q)

abbrev pub HasWork : Program → Request → ℕ → Type 0
HasWork p q work = IsWork (work_at p q) work

abbrev pub HasDepth : Program → Request → ℕ → ℕ → Type 0
HasDepth p q work depth = IsDepth (work_at p q) work depth
