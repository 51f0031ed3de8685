-- Turns at objects 0, 1 and so on. Each has a ticket word, which says how many tickets were drawn, and a serving word, which says whose turn it is,
-- both modulo 2^64. They are a pair of words for each object, behind some words of other use.
--     Stand                        what a seat has to do with turns
--     queued_at, turn_at, ended    what it has to do with them after each step
--     AreTurns                     what is true of the words and of all seats
use Rattle.std.specs.Prelude.{◌≡◌, ℕ, ◌+◌, ◌*◌, ◌%◌, ◌^◌, ◌<◌, ◌≤◌, Bool, true, false, List, [], ◌∷◌, length, slice_index, if◌then◌else◌, ◌==◌}
use mathlib.Core.Option.{some}
use lib.ListN.{get_elem?}

-- what a seat has to do with turns
pub record Stand : Type 0 where
  -- its parts of the right to wait
  pub parts : ℕ
  -- 1 where it waits for a turn or has one, else 0
  pub waits : ℕ
  -- the object at whose ticket word it drew its ticket, and the ticket
  pub object : ℕ
  pub ticket : ℕ
  -- whether it has the turn
  pub turn : Bool

-- the parts of all seats together
abbrev pub all_parts : ℕ
all_parts = 4294967296

-- a seat that waits for nothing
abbrev pub idle : ℕ → Stand
idle parts = record { parts = parts; waits = 0; object = 0; ticket = 0; turn = false }

-- it waits for its turn at an object
abbrev pub queued_at : ℕ → ℕ → Stand → Stand
queued_at object ticket v = record { parts = v.parts; waits = 1; object = object; ticket = ticket; turn = false }

-- it has the turn that it waited for
abbrev pub turn_at : Stand → Stand
turn_at v = record { parts = v.parts; waits = v.waits; object = v.object; ticket = v.ticket; turn = true }

-- its turn is over
abbrev pub ended : Stand → Stand
ended v = idle v.parts

-- the seat j is so
abbrev pub At : {A : Type 0} → List A → ℕ → A → Type 0
At views j v = get_elem? views j ≡ some v

-- a number of each, added up
abbrev pub total : {A : Type 0} → (A → ℕ) → List A → ℕ
total f [] = 0
total f (x ∷ xs) = f x + total f xs

-- where the words of an object stand
abbrev pub ticket_word : ℕ → ℕ → ℕ
ticket_word first object = first + 2 * object

abbrev pub serving_word : ℕ → ℕ → ℕ
serving_word first object = first + 2 * object + 1

-- 1 where a seat waits for a turn at the object or has it
abbrev pub waits_at : ℕ → Stand → ℕ
waits_at object v = if v.object == object then v.waits else 0

abbrev pub parts_of : Stand → ℕ
parts_of v = v.parts

-- Behind `first` words of other use, so many objects have their words. Who waits at an object has a ticket of its own, among those drawn and not yet served;
-- who has the turn has the one that is served
pub record AreTurns (first objects : ℕ) (words : List ℕ) (stands : List Stand) : Type 0 where
  -- how many tickets were drawn at each object, and how many served
  pub drawn : ℕ → ℕ
  pub served : ℕ → ℕ
  pub wide : first + 2 * objects ≤ length words
  pub draws : (o : ℕ) → o < objects → slice_index words (ticket_word first o) ≡ drawn o % 2 ^ 64
  pub serves : (o : ℕ) → o < objects → slice_index words (serving_word first o) ≡ served o % 2 ^ 64
  pub parts : total parts_of stands ≡ all_parts
  pub waiting : (o : ℕ) → o < objects → served o + total (waits_at o) stands ≡ drawn o
  pub small : (j : ℕ) (v : Stand) → At stands j v → v.waits ≤ v.parts
  pub queued : (j : ℕ) (v : Stand) → At stands j v → v.waits ≡ 1 → (v.object < objects) × (served v.object ≤ v.ticket) × (v.ticket < drawn v.object)
  pub differ : (j k : ℕ) (v w : Stand) → At stands j v → At stands k w → v.waits ≡ 1 → w.waits ≡ 1 → v.object ≡ w.object → v.ticket ≡ w.ticket → j ≡ k
  pub turn_is : (j : ℕ) (v : Stand) → At stands j v → v.turn ≡ true → (v.waits ≡ 1) × (v.ticket ≡ served v.object)
