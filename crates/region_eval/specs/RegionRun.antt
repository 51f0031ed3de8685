-- What the items of a region program come to from a store in which the one region is the global one, which is empty: the calls that they make,
-- and their end; and the work and depth of that.
use Rattle.std.specs.Prelude.{◌≡◌, ℕ, List, [], Option, Some, None}
use Rattle.std.specs.List.{slice_get}
use Rattle.web_data.specs.declared.database.WebCall.{WebCall}
use Rattle.sml_evaluation.specs.RunState.{Done, Raised, BadStatement, Over, Waits, state_of, count_of}
use Rattle.sml_evaluation.specs.Page.{PageEnd, Finished, Uncaught, Refused, Waiting, Endless, start_state, IsOver}
use Rattle.region_syntax.specs.RegionTypes.{RegionType}
use Rattle.region_syntax.specs.RegionTerms.{Program}
use Rattle.region_syntax.specs.UsedRegions.{Choice}
use Rattle.region_syntax.specs.Cost.{IsWork, IsDepth}
use Rattle.region_eval.specs.GroundPage.{Request}
use Rattle.region_eval.specs.RegionStore.{Value, Address, Object, Packet, PacketOf, Env, Store, State, Outcome}
use Rattle.region_eval.specs.RegionEvaluation.{eval_decs, start_store, start_around}

abbrev pub start : Request → State
start q = state_of (start_state q.form q.databases q.answers) start_store 0

-- the items at a height, where `LetRegion`s make the regions of a choice
abbrev pub run : ℕ → Choice → Program → Request → Outcome Env
run n choice p q = eval_decs n (start_around p.datatypes choice) [] (start q) p.items

-- a packet of the exception of this name, which lies in the global region
abbrev pub number_of_object : Option Object → Option ℕ
number_of_object (Some (Packet number)) = Some number
number_of_object (Some (PacketOf number v)) = Some number
number_of_object _ = None

abbrev pub number_of_packet : Value → Store → Option ℕ
number_of_packet (Address p i) store = number_of_object (slice_get (store.objects p) i)
number_of_packet _ store = None

abbrev pub IsNamed : Program → List ℕ → Option ℕ → Type 0
IsNamed p name None = ⊥
IsNamed p name (Some number) = (a : Option RegionType) × (slice_get p.exceptions number ≡ Some (name, a))

-- the outcome is this end, with these calls made
abbrev pub EndsAs : Program → Outcome Env → List WebCall → PageEnd → Type 0
EndsAs p (Done env s) calls (Finished status content_type body) =
    (s.shared.calls ≡ calls) × (s.shared.status ≡ status) × (s.shared.content_type ≡ content_type) × (s.shared.body ≡ body)
EndsAs p (Raised v s) calls (Uncaught name) = (s.shared.calls ≡ calls) × IsNamed p name (number_of_packet v s.store)
EndsAs p (BadStatement place s) calls (Refused n) = (s.shared.calls ≡ calls) × (place ≡ n)
EndsAs p (Waits s) calls Waiting = s.shared.calls ≡ calls
EndsAs p _ calls end = ⊥

-- the program comes to this end with these calls at some height; or the height runs out at each one, and no calls are told
abbrev pub RegionPage : Choice → Program → Request → List WebCall → PageEnd → Type 0
RegionPage choice p q calls Endless = (calls ≡ []) × ((n : ℕ) → IsOver (run n choice p q))
RegionPage choice p q calls end = (n : ℕ) × EndsAs p (run n choice p q) calls end

-- the rules and words at a height; the greatest of them, and the least height at which they are that
abbrev pub work_at : Choice → Program → Request → ℕ → ℕ
work_at choice p q n = count_of (run n choice p q)

abbrev pub HasWork : Choice → Program → Request → ℕ → Type 0
HasWork choice p q work = IsWork (work_at choice p q) work

abbrev pub HasDepth : Choice → Program → Request → ℕ → ℕ → Type 0
HasDepth choice p q work depth = IsDepth (work_at choice p q) work depth
