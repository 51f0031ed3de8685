-- What an evaluation starts from and what it comes to, over the values and the store of the programs or terms at hand.
-- The Definition of Standard ML, section 6.3; the calls of the web, the height, the count and "no rule" are of this project.
use Rattle.std.specs.Prelude.{ℕ, ◌+◌, List, Option, Some, None}
use Rattle.web_data.specs.declared.database.WebCall.{WebCall}
use Rattle.web_data.specs.declared.database.WebAns.{WebAns}

-- the request, the reply and the calls
pub record EvalState : Type 0 where
  -- the pairs of the request's form, and the names of the databases: they never change
  pub form : List (List ℕ × List ℕ)
  pub databases : List (List ℕ)
  -- the reply so far
  pub body : List ℕ
  pub status : ℕ
  pub content_type : List ℕ
  -- the answers that are left, and the calls made
  pub answers : List WebAns
  pub calls : List WebCall

-- the state of an evaluation: these, what is stored, and the rules used and the words of the values made
pub record RunState (H : Type 0) : Type 0 where
  pub shared : EvalState
  pub store : H
  pub count : ℕ

abbrev pub state_of : {H : Type 0} → EvalState → H → ℕ → RunState H
state_of shared store count = record { shared = shared; store = store; count = count }

-- the state after so many more rules and words
abbrev pub counted : {H : Type 0} → ℕ → RunState H → RunState H
counted n s = state_of s.shared s.store (s.count + n)

-- the state with another store, and with another reply or other calls
abbrev pub storing : {H : Type 0} → H → RunState H → RunState H
storing store s = state_of s.shared store s.count

abbrev pub sharing : {H : Type 0} → EvalState → RunState H → RunState H
sharing shared s = state_of shared s.store s.count

-- the outcome of an evaluation, with the state that it leaves; "no rule" is one where N has a value
pub data Ending (N V H A : Type 0) : Type 0 where
  -- what it gives
  Done : A → RunState H → Ending N V H A
  -- a packet
  Raised : V → RunState H → Ending N V H A
  -- a statement outside the grammar, with the length of its longest prefix that begins one
  BadStatement : ℕ → RunState H → Ending N V H A
  -- the height ran out
  Over : RunState H → Ending N V H A
  -- no fitting answer is left, or nothing is said of such values
  Waits : RunState H → Ending N V H A
  -- no rule fits
  NoRule : N → RunState H → Ending N V H A

-- what comes after an evaluation that gives something; any other outcome stays
abbrev pub then_do : {N V H A B : Type 0} → Ending N V H A → (A → RunState H → Ending N V H B) → Ending N V H B
then_do (Done a s) next = next a s
then_do (Raised v s) next = Raised v s
then_do (BadStatement place s) next = BadStatement place s
then_do (Over s) next = Over s
then_do (Waits s) next = Waits s
then_do (NoRule n s) next = NoRule n s

-- a packet is handled, and any other outcome stays
abbrev pub handled : {N V H A : Type 0} → Ending N V H A → (V → RunState H → Ending N V H A) → Ending N V H A
handled (Raised v s) f = f v s
handled (Done a s) f = Done a s
handled (BadStatement place s) f = BadStatement place s
handled (Over s) f = Over s
handled (Waits s) f = Waits s
handled (NoRule n s) f = NoRule n s

-- what is there, or nothing is said
abbrev pub found : {N V H A B : Type 0} → (A → RunState H → Ending N V H B) → Option A → RunState H → Ending N V H B
found f None s = Waits s
found f (Some x) s = f x s

-- the state that an outcome leaves, and the count in it
abbrev pub state_left : {N V H A : Type 0} → Ending N V H A → RunState H
state_left (Done a s) = s
state_left (Raised v s) = s
state_left (BadStatement place s) = s
state_left (Over s) = s
state_left (Waits s) = s
state_left (NoRule n s) = s

abbrev pub count_of : {N V H A : Type 0} → Ending N V H A → ℕ
count_of o = (state_left o).count
