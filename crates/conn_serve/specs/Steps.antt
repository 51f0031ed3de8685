-- What the parts of serving a connection do: a reply, the messages at hand, a piece.
use Rattle.std.specs.Prelude.{◌≡◌, ℕ, ◌<◌, ◌≤◌, Bool, true, false, List, [], ◌++◌, length}
use Rattle.outside_world.specs.Told.{Rose, grown, led, GrewByFront}
use Rattle.web_messages.specs.Answering.{Chain}
use Rattle.web_messages.specs.declared.request.Request.{Request}
use Rattle.web_messages.specs.declared.request.Reply.{Reply}
use Rattle.http_reply.specs.ReplyBytes.{bytes_of, fault_bytes}
use Rattle.http_read.specs.Messages.{BeginsWith, HasFront, Held, last_closes}
use Rattle.http_read.specs.Reader.{ReaderState}
use Rattle.conn_serve.specs.Serving.{LinkState, AreWritten, Ends}
use Rattle.conn_serve.specs.declared.Ended.{Ended}
use Rattle.conn_serve.specs.declared.Ended.TheVariants as ended

-- the link took these bytes
abbrev pub Takes : List ℕ → LinkState → LinkState → Type 0
Takes bytes old new = new.written ≡ grown old.written bytes

-- the link didn't take all of these bytes, and this ended the connection
abbrev pub SendEnds : List ℕ → LinkState → LinkState → Ended → Type 0
SendEnds bytes old new ended.WriteFault = Rose old.write_count new.write_count × GrewByFront old.written bytes new.written
SendEnds bytes old new ended.NoMemory = GrewByFront old.written bytes new.written
SendEnds bytes old new ended.AtEnd = ⊥
SendEnds bytes old new ended.Closed = ⊥
SendEnds bytes old new (ended.BadInput status) = ⊥
SendEnds bytes old new (ended.Truncated held) = ⊥
SendEnds bytes old new ended.ReadFault = ⊥
SendEnds bytes old new ended.TurnsSpent = ⊥

-- a request was answered, and this is so of the bytes of the reply
abbrev pub Replied : {S : Type 0} → (S → Request → Reply → S → Type 0) → S → S → Request → (List ℕ → Type 0) → Type 0
Replied {S} step old new request IsSo = (reply : Reply) × step old request reply new × IsSo (bytes_of reply request.closing)

-- a reply ended the connection
abbrev pub ReplyEnds : Bool → LinkState → LinkState → Ended → List ℕ → Type 0
ReplyEnds closing old new ended.Closed bytes = (closing ≡ true) × Takes bytes old new
ReplyEnds closing old new ended.WriteFault bytes = SendEnds bytes old new ended.WriteFault
ReplyEnds closing old new ended.NoMemory bytes = SendEnds bytes old new ended.NoMemory
ReplyEnds closing old new ended.AtEnd bytes = ⊥
ReplyEnds closing old new (ended.BadInput status) bytes = ⊥
ReplyEnds closing old new (ended.Truncated held) bytes = ⊥
ReplyEnds closing old new ended.ReadFault bytes = ⊥
ReplyEnds closing old new ended.TurnsSpent bytes = ⊥

-- the answer to bytes that are no message ended the connection
abbrev pub FaultEnds : ℕ → LinkState → LinkState → Ended → Type 0
FaultEnds status old new (ended.BadInput told) = (told ≡ status) × Takes (fault_bytes status) old new
FaultEnds status old new ended.WriteFault = SendEnds (fault_bytes status) old new ended.WriteFault
FaultEnds status old new ended.NoMemory = SendEnds (fault_bytes status) old new ended.NoMemory
FaultEnds status old new ended.AtEnd = ⊥
FaultEnds status old new ended.Closed = ⊥
FaultEnds status old new (ended.Truncated held) = ⊥
FaultEnds status old new ended.ReadFault = ⊥
FaultEnds status old new ended.TurnsSpent = ⊥

-- the bytes begin with these requests, none of which was closing; they were answered, and `rest` is what follows them
pub record Goes {S : Type 0} (step : S → Request → Reply → S → Type 0) (old new : S) (link link' : LinkState)
    (bytes rest : List ℕ) (requests : List Request) (replies : List Reply) : Type 0 where
  pub begins : BeginsWith bytes requests rest
  pub goes_on : last_closes requests ≡ false
  pub chain : Chain step old requests replies new
  pub written : AreWritten requests replies link link'
  pub reads : link.read_count ≤ link'.read_count
  pub writes : link.write_count ≤ link'.write_count

-- the messages of the bytes were answered, and the reader asks for more
abbrev pub GoesOn : {S : Type 0} → (S → Request → Reply → S → Type 0) → S → S → LinkState → LinkState → List ℕ → ReaderState → Type 0
GoesOn {S} step old new link link' bytes reader =
    (reader.closed ≡ false) × HasFront reader.held Held × ((requests : List Request) × (replies : List Reply) × Goes step old new link link' bytes reader.held requests replies)

-- the messages of the bytes were answered, until the connection ended
pub record Stops {S : Type 0} (step : S → Request → Reply → S → Type 0) (old new : S) (link link' : LinkState) (end : Ended)
    (bytes rest : List ℕ) (requests : List Request) (replies : List Reply) : Type 0 where
  pub begins : BeginsWith bytes requests rest
  pub chain : Chain step old requests replies new
  pub ends : Ends end requests replies rest link link'

abbrev pub EndsOn : {S : Type 0} → (S → Request → Reply → S → Type 0) → S → S → LinkState → LinkState → List ℕ → Ended → Type 0
EndsOn {S} step old new link link' bytes end =
    (rest : List ℕ) × (requests : List Request) × (replies : List Reply) × Stops step old new link link' end bytes rest requests replies

-- what ends a connection while messages are answered
abbrev pub IsOfAnswers : Ended → Type 0
IsOfAnswers ended.Closed = Unit {0}
IsOfAnswers (ended.BadInput status) = Unit {0}
IsOfAnswers ended.WriteFault = Unit {0}
IsOfAnswers ended.NoMemory = Unit {0}
IsOfAnswers ended.AtEnd = ⊥
IsOfAnswers (ended.Truncated held) = ⊥
IsOfAnswers ended.ReadFault = ⊥
IsOfAnswers ended.TurnsSpent = ⊥

-- what ends a connection at a piece: without a byte it is the end of the input or a failed read
abbrev pub IsOfPiece : List ℕ → Ended → Type 0
IsOfPiece more ended.AtEnd = more ≡ []
IsOfPiece more (ended.Truncated held) = more ≡ []
IsOfPiece more ended.ReadFault = more ≡ []
IsOfPiece more ended.TurnsSpent = ⊥
IsOfPiece more ended.Closed = Unit {0}
IsOfPiece more (ended.BadInput status) = Unit {0}
IsOfPiece more ended.WriteFault = Unit {0}
IsOfPiece more ended.NoMemory = Unit {0}

-- the input ended, where these bytes were held
abbrev pub InputEnds : List ℕ → Ended → Type 0
InputEnds held ended.AtEnd = held ≡ []
InputEnds held (ended.Truncated n) = (0 < n) × (n ≡ length held)
InputEnds held ended.Closed = ⊥
InputEnds held (ended.BadInput status) = ⊥
InputEnds held ended.ReadFault = ⊥
InputEnds held ended.WriteFault = ⊥
InputEnds held ended.TurnsSpent = ⊥
InputEnds held ended.NoMemory = ⊥

-- a read gave these bytes
pub record Gives (more : List ℕ) (old new : LinkState) : Type 0 where
  pub given : new.given ≡ grown old.given more
  pub left : old.left ≡ led more new.left

-- a piece of so many bytes came, and its messages were answered
abbrev pub PieceGoesOn : {S : Type 0} → (S → Request → Reply → S → Type 0) → S → S → LinkState → LinkState → List ℕ → ReaderState → ℕ → Type 0
PieceGoesOn {S} step old new link link' held reader n =
    (0 < n) × ((more : List ℕ) × (length more ≡ n) × Gives more link link' × GoesOn step old new link link' (held ++ more) reader)

-- a piece of at most so many bytes came, and the connection ended
abbrev pub PieceEnds : {S : Type 0} → (S → Request → Reply → S → Type 0) → S → S → LinkState → LinkState → List ℕ → ℕ → Ended → Type 0
PieceEnds {S} step old new link link' held room end =
    (more : List ℕ) × (length more ≤ room) × Gives more link link' × IsOfPiece more end × EndsOn step old new link link' (held ++ more) end
