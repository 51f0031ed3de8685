-- The messages of bytes, as bytes come and as messages are taken.
use Rattle.std.proofs.Common.{◌≡◌, ℕ, ◌≤◌, false, List, [], ◌∷◌, ◌++◌, length, drop, refl, sym, ap, ◌∙◌, subst}
use Rattle.std.proofs.lemmas.List.{drop-append-le}
use Rattle.web_messages.specs.declared.request.Request.{Request}
use Rattle.http_read.specs.Messages.{Message, HasFront, BeginsWith, last_closes}
use Rattle.http_read.proofs.Fronts.{front_append}

-- a message lies in the bytes
pub message_within : (bytes : List ℕ) (request : Request) (size : ℕ) → HasFront bytes (Message request size) → size ≤ length bytes
message_within bytes request size (k, head, n, m) = m.whole

-- bytes that come stand behind the rest
pub begins_append : (bytes more : List ℕ) (requests : List Request) (rest : List ℕ) → BeginsWith bytes requests rest → BeginsWith (bytes ++ more) requests (rest ++ more)
begins_append bytes more [] rest e = ap (λ x. x ++ more) e
begins_append bytes more (request ∷ []) rest (size, front, e) =
    (size, front_append bytes more (Message request size) tt front, ap (λ x. x ++ more) e ∙ sym (drop-append-le size bytes more (message_within bytes request size front)))
begins_append bytes more (request ∷ next ∷ requests) rest (size, front, goes_on, begins) = (
  size,
  front_append bytes more (Message request size) tt front,
  goes_on,
  subst (λ (x : List ℕ). BeginsWith x (next ∷ requests) (rest ++ more)) (sym (drop-append-le size bytes more (message_within bytes request size front))) (begins_append (drop size bytes) more (next ∷ requests) rest begins),
)

-- the message at the front of the rest is the next one
pub begins_next : (bytes : List ℕ) (requests : List Request) (rest : List ℕ) (request : Request) (size : ℕ) → BeginsWith bytes requests rest → last_closes requests ≡ false → HasFront rest (Message request size) → BeginsWith bytes (requests ++ request ∷ []) (drop size rest)
begins_next bytes [] rest request size e goes_on front =
    (size, subst (λ (x : List ℕ). HasFront x (Message request size)) e front, ap (drop size) e)
begins_next bytes (first ∷ []) rest request size (s, f, e) goes_on front =
    (s, f, goes_on, (size, subst (λ (x : List ℕ). HasFront x (Message request size)) e front, ap (drop size) e))
begins_next bytes (first ∷ second ∷ requests) rest request size (s, f, o, begins) goes_on front =
    (s, f, o, begins_next (drop s bytes) (second ∷ requests) rest request size begins goes_on front)

-- the messages of what follows messages are the further ones
pub begins_more : (bytes : List ℕ) (requests : List Request) (mid : List ℕ) (more : List Request) (rest : List ℕ) → BeginsWith bytes requests mid → last_closes requests ≡ false → BeginsWith mid more rest → BeginsWith bytes (requests ++ more) rest
begins_more bytes [] mid more rest e goes_on begins = subst (λ (x : List ℕ). BeginsWith x more rest) e begins
begins_more bytes (first ∷ []) mid [] rest (s, f, e) goes_on begins = (s, f, begins ∙ e)
begins_more bytes (first ∷ []) mid (next ∷ more) rest (s, f, e) goes_on begins =
    (s, f, goes_on, subst (λ (x : List ℕ). BeginsWith x (next ∷ more) rest) e begins)
begins_more bytes (first ∷ second ∷ requests) mid more rest (s, f, o, begun) goes_on begins =
    (s, f, o, begins_more (drop s bytes) (second ∷ requests) mid more rest begun goes_on begins)

-- the last one of more messages decides
pub last_closes_more : (requests : List Request) (next : Request) (more : List Request) → last_closes (requests ++ next ∷ more) ≡ last_closes (next ∷ more)
last_closes_more [] next more = refl
last_closes_more (first ∷ []) next more = refl
last_closes_more (first ∷ second ∷ requests) next more = last_closes_more (second ∷ requests) next more
