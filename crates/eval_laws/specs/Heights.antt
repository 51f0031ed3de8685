-- What a greater height and more answers do to an evaluation.
use Rattle.std.specs.Prelude.{◌≡◌, ℕ, ◌+◌, ◌≤◌, List, ◌++◌}
use Rattle.web_data.specs.declared.database.WebCall.{WebCall}
use Rattle.web_data.specs.declared.database.WebAns.{WebAns}
use Rattle.sml_evaluation.specs.RunState.{RunState, Ending, Done, Raised, BadStatement, Over, Waits, NoRule, sharing, state_left, count_of}

-- the outcome is another one only where the height ran out, and then counts at least k more
abbrev pub Betters : {N V H A : Type 0} → ℕ → Ending N V H A → Ending N V H A → Type 0
Betters k (Over s) o = s.count + k ≤ count_of o
Betters k (Done a s) o = o ≡ Done a s
Betters k (Raised v s) o = o ≡ Raised v s
Betters k (BadStatement place s) o = o ≡ BadStatement place s
Betters k (Waits s) o = o ≡ Waits s
Betters k (NoRule n s) o = o ≡ NoRule n s

-- the state with more answers behind those that are left
abbrev pub with_more : {H : Type 0} → List WebAns → RunState H → RunState H
with_more more s = sharing (record (s.shared) { answers = s.shared.answers ++ more }) s

-- these calls begin those
abbrev pub Begins : List WebCall → List WebCall → Type 0
Begins calls others = (rest : List WebCall) × (others ≡ calls ++ rest)

-- the calls in the state that an outcome leaves
abbrev pub calls_of : {N V H A : Type 0} → Ending N V H A → List WebCall
calls_of o = (state_left o).shared.calls

-- the outcome is another one only where the evaluation waits for an answer, and then its calls begin those of the other
abbrev pub Extends : {N V H A : Type 0} → List WebAns → Ending N V H A → Ending N V H A → Type 0
Extends more (Waits s) o = Begins s.shared.calls (calls_of o)
Extends more (Done a s) o = o ≡ Done a (with_more more s)
Extends more (Raised v s) o = o ≡ Raised v (with_more more s)
Extends more (BadStatement place s) o = o ≡ BadStatement place (with_more more s)
Extends more (Over s) o = o ≡ Over (with_more more s)
Extends more (NoRule n s) o = o ≡ NoRule n (with_more more s)
