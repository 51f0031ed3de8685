-- What the reader keeps.
use Rattle.std.specs.Prelude.{◌≡◌, ℕ, ◌≤◌, Bool, List, length, take, drop, Option, Some, None, Result, Ok, Err}
use Rattle.no_memory.specs.declared.NoMemory.{NoMemory}
use Rattle.httparse.specs.Grammar.{RequestHead}
use Rattle.http_read.specs.declared.reader.Stage.{Stage}
use Rattle.http_read.specs.declared.reader.Stage.TheVariants as stage
use Rattle.http_read.specs.declared.reader.Next.{Next}
use Rattle.http_read.specs.declared.reader.Next.TheVariants as next
use Rattle.http_read.specs.declared.search.Found.{Found}
use Rattle.http_read.specs.declared.search.Found.TheVariants as found
use Rattle.http_read.specs.Messages.{HasHead, IsUnended, IsTooLong, NoEndWithin, ReadsHead, HasFront, Held, Fault, Message, lines, most_head, most_lines}
use Rattle.http_read.specs.Parts.{IsParts}

-- the bytes that are in no message yet, the fault where one was met, and whether the last message was closing
pub record ReaderState : Type 0 where
  pub held : List ℕ
  pub fault : Option ℕ
  pub closed : Bool

-- the first `seen` bytes have so many LF and no end of a head
pub record IsSearched (held : List ℕ) (seen count : ℕ) : Type 0 where
  pub within : seen ≤ length held
  pub no_end : NoEndWithin seen held
  pub count_is : count ≡ lines (take seen held)
  pub short : seen ≤ most_head
  pub few : count ≤ most_lines

-- how far the bytes were looked at
abbrev pub IsAtStage : List ℕ → Stage → Type 0
IsAtStage held (stage.Search seen count) = IsSearched held seen count
IsAtStage held (stage.Body parts) = (head : RequestHead) × ReadsHead held parts.head head × IsParts (take parts.head held) head parts
IsAtStage held (stage.Fault status) = HasFront held (Fault status)

abbrev pub stage_fault : Stage → Option ℕ
stage_fault (stage.Search seen count) = None
stage_fault (stage.Body parts) = None
stage_fault (stage.Fault status) = Some status

-- what one more byte comes to, where so many were looked at then
abbrev pub IsStep : List ℕ → ℕ → Found → Type 0
IsStep held seen (found.Head k) = HasHead held k
IsStep held seen found.TooLong = IsTooLong held
IsStep held seen (found.Nothing count) = IsSearched held seen count

-- what a search comes to
abbrev pub IsFound : List ℕ → Found → Type 0
IsFound held (found.Head k) = HasHead held k
IsFound held found.TooLong = IsTooLong held
IsFound held (found.Nothing count) = IsSearched held (length held) count × IsUnended held

-- after a look no more can be said of the bytes at hand
abbrev pub IsLooked : List ℕ → Stage → Type 0
IsLooked held (stage.Search seen count) = IsSearched held seen count × IsUnended held
IsLooked held (stage.Body parts) = IsAtStage held (stage.Body parts)
IsLooked held (stage.Fault status) = IsAtStage held (stage.Fault status)

-- what stands at the front of the bytes after a look, and how many bytes the message has
abbrev pub IsNext : List ℕ → Stage → Next → ℕ → Type 0
IsNext held at (next.Request request) size = HasFront held (Message request size) × (size ≤ length held) × (stage_fault at ≡ None)
IsNext held at next.More size = HasFront held Held × (stage_fault at ≡ None)
IsNext held at (next.Bad status) size = HasFront held (Fault status) × (stage_fault at ≡ Some status)

-- what the reader answers about the bytes that it holds, and what it holds then; a refusal leaves it as it was
abbrev pub Answers : ReaderState → Result Next NoMemory → ReaderState → Type 0
Answers old (Ok (next.Request request)) new =
    (size : ℕ) × HasFront old.held (Message request size) × (new ≡ record { held = drop size old.held; fault = None; closed = request.closing })
Answers old (Ok next.More) new = HasFront old.held Held × (new ≡ old)
Answers old (Ok (next.Bad status)) new = HasFront old.held (Fault status) × (new ≡ record old { fault = Some status })
Answers old (Err e) new = new ≡ old
