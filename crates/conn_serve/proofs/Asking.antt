-- What the reader answers, and what comes of it.
use Rattle.std.proofs.Common.{◌≡◌, ℕ, ◌+◌, ◌<◌, ◌≤◌, false, List, [], ◌∷◌, ◌++◌, length, drop, None, Result, Ok, Err, IfErr, sym, ap, ◌∙◌, subst, arith, length-drop}
use Rattle.web_messages.specs.declared.request.Request.{Request}
use Rattle.web_messages.specs.declared.request.Reply.{Reply}
use Rattle.http_reply.specs.ReplyBytes.{IsFaultStatus}
use Rattle.http_read.specs.declared.reader.Next.{Next}
use Rattle.http_read.specs.declared.reader.Next.TheVariants as next
use Rattle.http_read.specs.Messages.{HasFront, Fault, Message}
use Rattle.http_read.specs.Reader.{ReaderState, Answers}
use Rattle.conn_serve.specs.declared.Ended.{Ended}
use Rattle.conn_serve.specs.Serving.{LinkState}
use Rattle.conn_serve.specs.Steps.{Goes, EndsOn, Replied, ReplyEnds, FaultEnds, Takes}
use Rattle.conn_serve.proofs.Faults.{fault_status, message_some}
use Rattle.conn_serve.proofs.Going.{goes_one, goes_then}
use Rattle.conn_serve.proofs.Stopping.{stops_then, stops_here, stops_reply, fault_ends}

-- what a reader has answered so far
abbrev pub Gone : {S : Type 0} → (S → Request → Reply → S → Type 0) → S → S → LinkState → LinkState → List ℕ → List ℕ → Type 0
Gone {S} step old new link link' bytes rest = (requests : List Request) × (replies : List Reply) × Goes step old new link link' bytes rest requests replies

bad_front : (r r' : ReaderState) (x : Next) (status : ℕ) → x ≡ next.Bad status → Answers r (Ok x) r' → HasFront r.held (Fault status)
bad_front r r' x status e a =
    let b : Answers r (Ok (next.Bad status)) r' = subst (λ (y : Next). Answers r (Ok y) r') e a in b.0

-- a request that was given stood at the front of what was held
taken : (r r' : ReaderState) (x : Next) (request : Request) → x ≡ next.Request request → Answers r (Ok x) r' → (size : ℕ) × HasFront r.held (Message request size) × (r' ≡ record { held = drop size r.held; fault = None; closed = request.closing })
taken r r' x request e a = subst (λ (y : Next). Answers r (Ok y) r') e a

-- bytes that are no message have a status of such answers
pub bad_status : (r r' : ReaderState) (x : Next) (status : ℕ) → x ≡ next.Bad status → Answers r (Ok x) r' → IsFaultStatus status
bad_status r r' x status e a = fault_status r.held status (bad_front r r' x status e a)

-- the answer to them ends the connection
pub bad_ends : {S : Type 0} (step : S → Request → Reply → S → Type 0) (old new : S) (link link' link'' : LinkState) (bytes : List ℕ) (r r' : ReaderState) (x : Next) (status : ℕ) (end : Ended)
    → Gone step old new link link' bytes r.held → x ≡ next.Bad status → Answers r (Ok x) r' → FaultEnds status link' link'' end → EndsOn step old new link link'' bytes end
bad_ends step old new link link' link'' bytes r r' x status end (requests, replies, goes) e a h = (
  r.held,
  requests ++ [],
  replies ++ [],
  stops_then step old new new link link' link'' bytes r.held r.held requests replies [] [] end goes (stops_here step new link' link'' r.held end (fault_ends link' link'' r.held status end (bad_front r r' x status e a) h)),
)

-- a request is taken out of what is held
pub request_smaller : (r r' : ReaderState) (x : Next) (request : Request) → x ≡ next.Request request → Answers r (Ok x) r' → length r'.held < length r.held
request_smaller r r' x request e a =
    let t = taken r r' x request e a in
    let some = message_some r.held request t.0 t.1 in
    let some0 = some.0 in
    let some1 = some.1 in
    let l : length (drop t.0 r.held) + t.0 ≡ length r.held = omega (arith, length-drop t.0 r.held, some1) in
    let h : length r'.held ≡ length (drop t.0 r.held) = ap (λ (s : ReaderState). length s.held) t.2 in
    omega (arith, some0, l, h)

-- its reply ends the connection
pub request_ends : {S : Type 0} (step : S → Request → Reply → S → Type 0) (old mid new : S) (link link' link'' : LinkState) (bytes : List ℕ) (r r' : ReaderState) (x : Next) (request : Request) (end : Ended)
    → Gone step old mid link link' bytes r.held → x ≡ next.Request request → Answers r (Ok x) r' → Replied step mid new request (ReplyEnds request.closing link' link'' end) → EndsOn step old new link link'' bytes end
request_ends step old mid new link link' link'' bytes r r' x request end (requests, replies, goes) e a (reply, s, h) =
    let t = taken r r' x request e a in (
      drop t.0 r.held,
      requests ++ request ∷ [],
      replies ++ reply ∷ [],
      stops_then step old mid new link link' link'' bytes r.held (drop t.0 r.held) requests replies (request ∷ []) (reply ∷ []) end goes (stops_reply step mid new link' link'' r.held request reply t.0 end t.1 s h),
    )

-- or it goes on
pub request_goes : {S : Type 0} (step : S → Request → Reply → S → Type 0) (old mid new : S) (link link' link'' : LinkState) (bytes : List ℕ) (r r' : ReaderState) (x : Next) (request : Request)
    → Gone step old mid link link' bytes r.held → x ≡ next.Request request → Answers r (Ok x) r' → request.closing ≡ false → Replied step mid new request (λ b. Takes b link' link'') → link'.read_count ≤ link''.read_count → link'.write_count ≤ link''.write_count
    → (r'.closed ≡ false) × Gone step old new link link'' bytes r'.held
request_goes step old mid new link link' link'' bytes r r' x request (requests, replies, goes) e a stays (reply, s, h) reads writes =
    let t = taken r r' x request e a in
    let one = goes_one step mid new link' link'' r.held request reply t.0 t.1 stays s h reads writes in
    let held : r'.held ≡ drop t.0 r.held = ap (λ (s : ReaderState). s.held) t.2 in
    let shut : r'.closed ≡ request.closing = ap (λ (s : ReaderState). s.closed) t.2 in (
      shut ∙ stays,
      (
        requests ++ request ∷ [],
        replies ++ reply ∷ [],
        subst (λ (b : List ℕ). Goes step old new link link'' bytes b (requests ++ request ∷ []) (replies ++ reply ∷ [])) (sym held) (goes_then step old mid new link link' link'' bytes r.held (drop t.0 r.held) requests replies (request ∷ []) (reply ∷ []) goes one),
      ),
    )

-- the end that a `?` hands on
pub err_ends : {T : Type 0} (result : Result T Ended) (end : Ended) (P : Ended → Type 0) → (y : Ended) × (result ≡ Err y) × (y ≡ end) → P end → IfErr result P
err_ends {T} result end P (y, is, same) h = subst (λ (r : Result T Ended). IfErr r P) (sym is) (subst P (sym same) h)
