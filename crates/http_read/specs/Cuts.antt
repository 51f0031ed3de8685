-- A reader that is fed piece by piece, and asked in between.
use Rattle.std.specs.Prelude.{◌≡◌, ℕ, true, false, List, [], ◌∷◌, ◌++◌, length, None, Ok}
use Rattle.web_messages.specs.declared.request.Request.{Request}
use Rattle.http_read.specs.declared.reader.Next.TheVariants as next
use Rattle.http_read.specs.Messages.{BeginsWith, Messages, Open, Bad, Closing, last_closes}
use Rattle.http_read.specs.Reader.{ReaderState, Answers}

-- what is done with a reader: it is fed with a piece, or gives a request
pub data Act : Type 0 where
  Fed : List ℕ → Act
  Gave : Request → Act

-- all bytes that were fed, and all requests that were given, in order
abbrev pub bytes_fed : List Act → List ℕ
bytes_fed [] = []
bytes_fed (Fed piece ∷ acts) = piece ++ bytes_fed acts
bytes_fed (Gave request ∷ acts) = bytes_fed acts

abbrev pub requests_given : List Act → List Request
requests_given [] = []
requests_given (Fed piece ∷ acts) = requests_given acts
requests_given (Gave request ∷ acts) = request ∷ requests_given acts

-- the reader comes from a state to a state by these acts, in order; after a closing message it isn't asked
abbrev pub Runs : ReaderState → List Act → ReaderState → Type 0
Runs old [] new = new ≡ old
Runs old (Fed piece ∷ acts) new = Runs (record old { held = old.held ++ piece }) acts new
Runs old (Gave request ∷ acts) new =
    (mid : ReaderState) × (old.closed ≡ false) × Answers old (Ok (next.Request request)) mid × Runs mid acts new

abbrev pub new_reader : ReaderState
new_reader = record { held = []; fault = None; closed = false }

-- the requests are the first messages of all the bytes, and what is held is what follows them
abbrev pub CutsDoNotMatter : Type 0
CutsDoNotMatter =
    (acts : List Act) (reader : ReaderState) → Runs new_reader acts reader
    → BeginsWith (bytes_fed acts) (requests_given acts) reader.held × (reader.closed ≡ last_closes (requests_given acts))

-- and where more is asked for, a fault is told or a message was closing, they are all the messages
abbrev pub AnswersEndMessages : Type 0
AnswersEndMessages =
    (acts : List Act) (reader later : ReaderState) → Runs new_reader acts reader
    → (reader.closed ≡ false → Answers reader (Ok next.More) later → Messages (bytes_fed acts) (requests_given acts) (Open (length reader.held)))
    × ((status : ℕ) → reader.closed ≡ false → Answers reader (Ok (next.Bad status)) later → Messages (bytes_fed acts) (requests_given acts) (Bad status))
    × (reader.closed ≡ true → Messages (bytes_fed acts) (requests_given acts) Closing)
