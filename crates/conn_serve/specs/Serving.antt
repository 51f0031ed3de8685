-- One connection: its messages are answered in order. RFC 9112, sections 9.3 (persistence), 9.3.2 (pipelining) and 9.6
-- (tear-down).
use Rattle.std.specs.Prelude.{◌≡◌, ℕ, ◌<◌, ◌≤◌, ◌^◌, ◌⊎◌, List, [], ◌∷◌, ◌++◌, length, Option}
use Rattle.outside_world.specs.Told.{Rose, grown, led, IsUsedUp, GrewByFront}
use Rattle.web_messages.specs.Answering.{Chain}
use Rattle.web_messages.specs.declared.request.Request.{Request}
use Rattle.web_messages.specs.declared.request.Reply.{Reply}
use Rattle.http_reply.specs.ReplyBytes.{bytes_of, fault_bytes}
use Rattle.http_read.specs.Messages.{BeginsWith, IsAfter, Open, Bad, Closing}
use Rattle.conn_serve.specs.declared.Ended.{Ended}
use Rattle.conn_serve.specs.declared.Ended.TheVariants as ended

-- the bytes of the replies to requests, in order
abbrev pub replies_bytes : List Request → List Reply → List ℕ
replies_bytes [] replies = []
replies_bytes (request ∷ requests) [] = []
replies_bytes (request ∷ requests) (reply ∷ replies) = bytes_of reply request.closing ++ replies_bytes requests replies

-- what a link tells, and its counts of faults
pub record LinkState : Type 0 where
  pub given : Option (List ℕ)
  pub left : Option (List ℕ)
  pub read_count : ℕ
  pub written : Option (List ℕ)
  pub write_count : ℕ

-- the state of a link, by the members that tell its parts
abbrev pub told_by : {L : Type 0} → (L → Option (List ℕ)) → (L → Option (List ℕ)) → (L → ℕ) → (L → Option (List ℕ)) → (L → ℕ) → L → LinkState
told_by {L} given left read_count written write_count link =
    record { given = given link; left = left link; read_count = read_count link; written = written link; write_count = write_count link }

-- the most bytes that are read of one connection
abbrev pub most_bytes : ℕ
most_bytes = 2 ^ 40

-- the replies were written, whole and in order
abbrev pub AreWritten : List Request → List Reply → LinkState → LinkState → Type 0
AreWritten requests replies old new = new.written ≡ grown old.written (replies_bytes requests replies)

-- the last reply was cut: of it a front was written, which may be none or all of it
pub record IsReplyCut (requests : List Request) (replies : List Reply) (old new : LinkState) (earlier : List Request) (said : List Reply) (request : Request) (reply : Reply) : Type 0 where
  pub requests_are : requests ≡ earlier ++ request ∷ []
  pub replies_are : replies ≡ said ++ reply ∷ []
  pub written : GrewByFront (grown old.written (replies_bytes earlier said)) (bytes_of reply request.closing) new.written

-- the answer to bytes that are no message was cut
pub record IsFaultCut (requests : List Request) (replies : List Reply) (rest : List ℕ) (old new : LinkState) (status : ℕ) : Type 0 where
  pub after : IsAfter requests rest (Bad status)
  pub written : GrewByFront (grown old.written (replies_bytes requests replies)) (fault_bytes status) new.written

-- the last answer was cut, and each one before it is whole
abbrev pub IsCut : List Request → List Reply → List ℕ → LinkState → LinkState → Type 0
IsCut requests replies rest old new =
    ((earlier : List Request) × (said : List Reply) × (request : Request) × (reply : Reply) × IsReplyCut requests replies old new earlier said request reply)
    ⊎ ((status : ℕ) × IsFaultCut requests replies rest old new status)

-- how a connection may end, where these requests were answered by these replies, and these bytes are left of those that
-- were read
abbrev pub Ends : Ended → List Request → List Reply → List ℕ → LinkState → LinkState → Type 0
Ends ended.AtEnd requests replies rest old new = IsAfter requests rest (Open 0) × IsUsedUp new.left × AreWritten requests replies old new
Ends ended.Closed requests replies rest old new = IsAfter requests rest Closing × AreWritten requests replies old new
Ends (ended.BadInput status) requests replies rest old new =
    IsAfter requests rest (Bad status) × (new.written ≡ grown old.written (replies_bytes requests replies ++ fault_bytes status))
Ends (ended.Truncated held) requests replies rest old new =
    IsAfter requests rest (Open held) × (0 < held) × IsUsedUp new.left × AreWritten requests replies old new
Ends ended.ReadFault requests replies rest old new =
    IsAfter requests rest (Open (length rest)) × Rose old.read_count new.read_count × AreWritten requests replies old new
Ends ended.WriteFault requests replies rest old new = IsCut requests replies rest old new × Rose old.write_count new.write_count
Ends ended.TurnsSpent requests replies rest old new = IsAfter requests rest (Open (length rest)) × AreWritten requests replies old new
Ends ended.NoMemory requests replies rest old new = AreWritten requests replies old new ⊎ IsCut requests replies rest old new

-- how many bytes may have been read where a connection ends so: all that it may read, or fewer, or no more than these
abbrev pub EndsAfter : Ended → ℕ → Type 0
EndsAfter ended.AtEnd n = n < most_bytes
EndsAfter ended.Closed n = n ≤ most_bytes
EndsAfter (ended.BadInput status) n = n ≤ most_bytes
EndsAfter (ended.Truncated held) n = n < most_bytes
EndsAfter ended.ReadFault n = n < most_bytes
EndsAfter ended.WriteFault n = n ≤ most_bytes
EndsAfter ended.TurnsSpent n = n ≡ most_bytes
EndsAfter ended.NoMemory n = n ≤ most_bytes

-- a connection that ended: these bytes were read, and they begin with the requests that were answered; the answerer's
-- states are a chain of its answers; and what was written is by how it ended
pub record Served {S : Type 0} (step : S → Request → Reply → S → Type 0) (old new : S) (link link' : LinkState) (end : Ended)
    (bytes rest : List ℕ) (requests : List Request) (replies : List Reply) : Type 0 where
  pub given : link'.given ≡ grown link.given bytes
  pub left : link.left ≡ led bytes link'.left
  pub within : EndsAfter end (length bytes)
  pub begins : BeginsWith bytes requests rest
  pub chain : Chain step old requests replies new
  pub ends : Ends end requests replies rest link link'

abbrev pub IsServed : {S : Type 0} → (S → Request → Reply → S → Type 0) → S → S → LinkState → LinkState → Ended → Type 0
IsServed {S} step old new link link' end =
    (bytes : List ℕ) × (rest : List ℕ) × (requests : List Request) × (replies : List Reply) × Served step old new link link' end bytes rest requests replies
