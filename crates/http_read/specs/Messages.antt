-- The messages of a list of bytes: RFC 9112, sections 2.1 (message format), 6.3 (body length) and 9.3.2 (pipelining).
-- A function of whole lists, as a relation: pieces don't occur in it.
use Rattle.std.specs.Prelude.{◌≡◌, ℕ, ◌+◌, ◌-◌, ◌<◌, ◌≤◌, ◌==◌, ◌⊎◌, Bool, true, false, ◌&&◌, nat_le, List, [], ◌∷◌, length, take, drop, count_by, slice_index}
use Rattle.httparse.specs.Grammar.{RequestHead, ReadsRequest}
use Rattle.web_messages.specs.declared.request.Request.{Request}
use Rattle.http_read.specs.Head.{Refuses, Takes, judgement, request_of}

-- Where a head ends

-- CR LF CR LF stands before the place
unfoldable pub ends_at : List ℕ → ℕ → Bool
ends_at bytes k =
    nat_le 4 k && (slice_index bytes (k - 4) == 13 && (slice_index bytes (k - 3) == 10 && (slice_index bytes (k - 2) == 13 && slice_index bytes (k - 1) == 10)))

-- how many LF there are
abbrev pub lines : List ℕ → ℕ
lines bytes = count_by (λ b. b == 10) bytes

-- the most bytes and the most LF of a head
abbrev pub most_head : ℕ
most_head = 16384

abbrev pub most_lines : ℕ
most_lines = 66

-- no front of so many bytes or fewer ends in CR LF CR LF
abbrev pub NoEndWithin : ℕ → List ℕ → Type 0
NoEndWithin n bytes = (k : ℕ) → k ≤ n → ends_at bytes k ≡ false

-- the first k bytes are a head: they are the shortest front that ends in CR LF CR LF, and within the limits
pub record HasHead (bytes : List ℕ) (k : ℕ) : Type 0 where
  pub within : k ≤ length bytes
  pub ends : ends_at bytes k ≡ true
  pub first : (j : ℕ) → j < k → ends_at bytes j ≡ false
  pub short : k ≤ most_head
  pub few : lines (take k bytes) ≤ most_lines

abbrev pub HasNoHead : List ℕ → Type 0
HasNoHead bytes = (k : ℕ) → HasHead bytes k → ⊥

-- exactly one request head of the grammar
abbrev pub IsHead : List ℕ → RequestHead → Type 0
IsHead bytes head = ReadsRequest bytes head []

-- the first k bytes are a head, and it is this one
pub record ReadsHead (bytes : List ℕ) (k : ℕ) (head : RequestHead) : Type 0 where
  pub has : HasHead bytes k
  pub is : IsHead (take k bytes) head

-- What stands at the front

pub data Front : Type 0 where
  -- more bytes are needed
  Held : Front
  -- bytes that are no message, with the status of the answer
  Fault : ℕ → Front
  -- a request, and how many bytes its head and its body have
  Message : Request → ℕ → Front

-- no head, within the limits
pub record IsUnended (bytes : List ℕ) : Type 0 where
  pub no_head : HasNoHead bytes
  pub short : length bytes < most_head
  pub few : lines bytes ≤ most_lines

-- no head, and past the limits
pub record IsTooLong (bytes : List ℕ) : Type 0 where
  pub no_head : HasNoHead bytes
  pub long : (most_head ≤ length bytes) ⊎ (most_lines < lines bytes)

-- a head whose body isn't whole
abbrev pub AwaitsBody : List ℕ → Type 0
AwaitsBody bytes = (k : ℕ) × (head : RequestHead) × (n : ℕ) × ReadsHead bytes k head × (judgement head ≡ Takes n) × (length bytes < k + n)

-- a head that isn't one of the grammar
abbrev pub IsMalformed : List ℕ → Type 0
IsMalformed bytes = (k : ℕ) × HasHead bytes k × ((head : RequestHead) → IsHead (take k bytes) head → ⊥)

-- a head that a rule refuses with this status
abbrev pub IsRefused : List ℕ → ℕ → Type 0
IsRefused bytes status = (k : ℕ) × (head : RequestHead) × ReadsHead bytes k head × (judgement head ≡ Refuses status)

-- a head and its body
pub record IsMessage (bytes : List ℕ) (request : Request) (size : ℕ) (k : ℕ) (head : RequestHead) (n : ℕ) : Type 0 where
  pub reads : ReadsHead bytes k head
  pub takes : judgement head ≡ Takes n
  pub whole : size ≤ length bytes
  pub size_is : size ≡ k + n
  pub request_is : request ≡ request_of head (take n (drop k bytes))

-- what stands at the front of the bytes
abbrev pub HasFront : List ℕ → Front → Type 0
HasFront bytes Held = IsUnended bytes ⊎ AwaitsBody bytes
HasFront bytes (Fault status) = (IsTooLong bytes × (status ≡ 431)) ⊎ ((IsMalformed bytes × (status ≡ 400)) ⊎ IsRefused bytes status)
HasFront bytes (Message request size) = (k : ℕ) × (head : RequestHead) × (n : ℕ) × IsMessage bytes request size k head n

-- Whole lists

-- the bytes begin with these messages, of which at most the last one is closing, and `rest` is what follows them
abbrev pub BeginsWith : List ℕ → List Request → List ℕ → Type 0
BeginsWith bytes [] rest = rest ≡ bytes
BeginsWith bytes (request ∷ []) rest = (size : ℕ) × HasFront bytes (Message request size) × (rest ≡ drop size bytes)
BeginsWith bytes (request ∷ next ∷ requests) rest =
    (size : ℕ) × HasFront bytes (Message request size) × (request.closing ≡ false) × BeginsWith (drop size bytes) (next ∷ requests) rest

-- what follows the messages
pub data After : Type 0 where
  -- nothing, or bytes of which more is needed: so many
  Open : ℕ → After
  -- bytes that are no message, with the status of the answer
  Bad : ℕ → After
  -- the last message was closing: nothing more is looked at
  Closing : After

-- whether the last message is closing
abbrev pub last_closes : List Request → Bool
last_closes [] = false
last_closes (request ∷ []) = request.closing
last_closes (request ∷ next ∷ requests) = last_closes (next ∷ requests)

abbrev pub IsAfter : List Request → List ℕ → After → Type 0
IsAfter requests rest (Open n) = (last_closes requests ≡ false) × HasFront rest Held × (n ≡ length rest)
IsAfter requests rest (Bad status) = (last_closes requests ≡ false) × HasFront rest (Fault status)
IsAfter requests rest Closing = last_closes requests ≡ true

-- the requests of the bytes, and what follows them
abbrev pub Messages : List ℕ → List Request → After → Type 0
Messages bytes requests after = (rest : List ℕ) × BeginsWith bytes requests rest × IsAfter requests rest after
