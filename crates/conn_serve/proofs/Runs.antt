-- A whole connection, piece after piece.
use Rattle.std.proofs.Common.{◌≡◌, ℕ, zero, suc, ◌+◌, ◌-◌, min, ◌<◌, ◌≤◌, inl, true, false, List, [], ◌++◌, length, take, drop, Option, Some, None, refl, sym, ap, ◌∙◌, subst, arith, append_assoc, length-append}
use Rattle.std.proofs.lemmas.Grind.{common_steps}
use Rattle.outside_world.specs.Told.{grown, led}
use Rattle.web_messages.specs.declared.request.Request.{Request}
use Rattle.web_messages.specs.declared.request.Reply.{Reply}
use Rattle.http_read.specs.Messages.{HasFront, Held, ends_at}
use Rattle.http_read.specs.Reader.{ReaderState}
use Rattle.conn_serve.specs.declared.Ended.{Ended}
use Rattle.conn_serve.specs.declared.Ended.TheVariants as ended
use Rattle.conn_serve.specs.Serving.{LinkState, EndsAfter, IsServed, most_bytes}
use Rattle.conn_serve.specs.Steps.{Goes, Gives, IsOfPiece, PieceEnds, PieceGoesOn}
use Rattle.conn_serve.proofs.Chains.{grown_none, grown_twice}
use Rattle.conn_serve.proofs.Going.{goes_nothing, goes_append, goes_then}
use Rattle.conn_serve.proofs.Stopping.{stops_then, no_memory_here}

-- so many bytes were read, and their messages were answered, so far as they are whole
abbrev pub SoFar : {S : Type 0} → (S → Request → Reply → S → Type 0) → S → S → LinkState → LinkState → ℕ → List ℕ → Type 0
SoFar {S} step old new link link' read held =
    (bytes : List ℕ) × (requests : List Request) × (replies : List Reply) × (length bytes ≡ read) × Gives bytes link link' × Goes step old new link link' bytes held requests replies

led_none : (told : Option (List ℕ)) → told ≡ led [] told
led_none None = refl
led_none (Some left) = refl

led_twice : (a b : List ℕ) (told : Option (List ℕ)) → led a (led b told) ≡ led (a ++ b) told
led_twice a b None = refl
led_twice a b (Some left) = ap Some (sym (append_assoc a b left))

gives_nothing : (link : LinkState) → Gives [] link link
gives_nothing link = record { given = sym (grown_none link.given); left = led_none link.left }

gives_more : (a b : List ℕ) (link link' link'' : LinkState) → Gives a link link' → Gives b link' link'' → Gives (a ++ b) link link''
gives_more a b link link' link'' first next = record {
  given = next.given ∙ ap (λ g. grown g b) first.given ∙ grown_twice link.given a b;
  left = first.left ∙ ap (led a) next.left ∙ led_twice a b link''.left;
}

-- no bytes have no head
no_bytes_no_head : (k : ℕ) → k ≤ 0 → ends_at [] k ≡ true → ⊥
unfolding ends_at
no_bytes_no_head zero within e = absurd (cc e)
no_bytes_no_head (suc k) within e = absurd (omega (arith, within))

-- of no bytes more are needed
start_front : HasFront [] Held
start_front = inl (record {
  no_head = λ k has. no_bytes_no_head k has.within has.ends;
  short = omega arith;
  few = omega arith;
})

start_so_far : {S : Type 0} (step : S → Request → Reply → S → Type 0) (s : S) (link : LinkState) → SoFar step s s link link 0 []
start_so_far step s link =
    ([], [], [], refl, gives_nothing link, goes_nothing step s link link [] refl (omega arith) (omega arith))

-- memory is wanting before a byte is read
pub nothing_served : {S : Type 0} (step : S → Request → Reply → S → Type 0) (s : S) (link : LinkState) → IsServed step s s link link ended.NoMemory
nothing_served step s link =
    ([], [], [], [], record { given = sym (grown_none link.given); left = led_none link.left; within = omega arith; begins = refl; chain = refl; ends = no_memory_here link link [] refl })

-- one more piece
pub one_more_piece : {S : Type 0} (step : S → Request → Reply → S → Type 0) (old mid new : S) (link link' link'' : LinkState) (read n : ℕ) (held : List ℕ) (reader : ReaderState)
    → SoFar step old mid link link' read held → PieceGoesOn step mid new link' link'' held reader n
    → (reader.closed ≡ false) × HasFront reader.held Held × SoFar step old new link link'' (read + n) reader.held
one_more_piece step old mid new link link' link'' read n held reader (bytes, requests, replies, counted, gives, goes) (some, (more, whole, gives', (stays, front, (requests', replies', goes')))) = (
  stays,
  front,
  (
    bytes ++ more,
    requests ++ requests',
    replies ++ replies',
    let l = length-append bytes more in omega (arith, l, counted, whole),
    gives_more bytes more link link' link'' gives gives',
    goes_then step old mid new link link' link'' (bytes ++ more) (held ++ more) reader.held requests replies requests' replies' (goes_append step old mid link link' bytes more held requests replies goes) goes',
  ),
)

-- how many bytes were read, where a piece ended the connection
ends_after : (more : List ℕ) (read room : ℕ) (end : Ended) → read < most_bytes → read + room ≤ most_bytes → length more ≤ room → IsOfPiece more end → EndsAfter end (read + length more)
ends_after more read room ended.AtEnd below fits short none = let l = ap length none in omega (arith, below, l)
ends_after more read room (ended.Truncated held) below fits short none = let l = ap length none in omega (arith, below, l)
ends_after more read room ended.ReadFault below fits short none = let l = ap length none in omega (arith, below, l)
ends_after more read room ended.TurnsSpent below fits short h = absurd h
ends_after more read room ended.Closed below fits short h = omega (arith, fits, short)
ends_after more read room (ended.BadInput status) below fits short h = omega (arith, fits, short)
ends_after more read room ended.WriteFault below fits short h = omega (arith, fits, short)
ends_after more read room ended.NoMemory below fits short h = omega (arith, fits, short)

-- the last piece
pub last_piece : {S : Type 0} (step : S → Request → Reply → S → Type 0) (old mid new : S) (link link' link'' : LinkState) (read room : ℕ) (held : List ℕ) (end : Ended)
    → SoFar step old mid link link' read held → PieceEnds step mid new link' link'' held room end → read < most_bytes → read + room ≤ most_bytes → IsServed step old new link link'' end
last_piece step old mid new link link' link'' read room held end (bytes, requests, replies, counted, gives, goes) (more, short, gives', cause, (rest, requests', replies', stops)) below fits =
    let l : read + length more ≡ length (bytes ++ more) = let e = length-append bytes more in omega (arith, e, counted) in
    let all = gives_more bytes more link link' link'' gives gives' in
    let whole = stops_then step old mid new link link' link'' (bytes ++ more) (held ++ more) rest requests replies requests' replies' end (goes_append step old mid link link' bytes more held requests replies goes) stops in (
      bytes ++ more,
      rest,
      requests ++ requests',
      replies ++ replies',
      record {
        given = all.given;
        left = all.left;
        within = subst (EndsAfter end) l (ends_after more read room end below fits short cause);
        begins = whole.begins;
        chain = whole.chain;
        ends = whole.ends;
      },
    )

-- a piece that is read takes no more than is left
pub piece_fits : (piece : List ℕ) (room read : ℕ) → room ≡ min (most_bytes - read) 4096 → read < most_bytes → length piece ≡ 4096 → read + length (take room piece) ≤ most_bytes
piece_fits piece room read is below whole = grind (arith, common_steps)

-- and leaves as much room as before
pub piece_stays : (piece front : List ℕ) (room : ℕ) → length front ≡ length (take room piece) → length piece ≡ 4096 → length (front ++ drop room piece) ≡ 4096
piece_stays piece front room same whole = grind (arith, common_steps)

-- a reader without a byte
pub start_with : {S : Type 0} (step : S → Request → Reply → S → Type 0) (s : S) (link : LinkState) (reader : ReaderState) → reader ≡ record { held = []; fault = None; closed = false }
    → (reader.closed ≡ false) × HasFront reader.held Held × SoFar step s s link link 0 reader.held
start_with step s link reader is =
    subst (λ (r : ReaderState). (r.closed ≡ false) × HasFront r.held Held × SoFar step s s link link 0 r.held) (sym is) (refl, start_front, start_so_far step s link)
