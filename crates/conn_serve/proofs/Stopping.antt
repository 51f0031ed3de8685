-- A connection that ends.
use Rattle.std.proofs.Common.{◌≡◌, ℕ, ◌≤◌, inl, inr, false, List, [], ◌∷◌, ◌++◌, length, drop, Option, refl, sym, ap, ◌∙◌, subst, arith, append_assoc}
use Rattle.std.proofs.lemmas.List.{append-nil}
use Rattle.outside_world.specs.Told.{Rose, grown, GrewByFront}
use Rattle.web_messages.specs.Answering.{Chain}
use Rattle.web_messages.specs.declared.request.Request.{Request}
use Rattle.web_messages.specs.declared.request.Reply.{Reply}
use Rattle.http_reply.specs.ReplyBytes.{bytes_of, fault_bytes}
use Rattle.http_read.specs.Messages.{HasFront, Fault, Message, After, Open, Bad, Closing, IsAfter, last_closes}
use Rattle.http_read.proofs.Begins.{begins_more}
use Rattle.conn_serve.specs.declared.Ended.{Ended}
use Rattle.conn_serve.specs.declared.Ended.TheVariants as ended
use Rattle.conn_serve.specs.Serving.{LinkState, AreWritten, Ends, IsCut, replies_bytes}
use Rattle.conn_serve.specs.Steps.{Goes, Stops, ReplyEnds, FaultEnds}
use Rattle.conn_serve.proofs.Chains.{chain_more, grown_twice, grown_none}
use Rattle.conn_serve.proofs.Going.{closes_then, written_then}

-- a count that rose since later rose
rose_since : (old mid new : ℕ) → old ≤ mid → Rose mid new → Rose old new
rose_since old mid new h rose = omega (arith, h, rose)

-- what follows the last messages follows all
after_then : (requests requests' : List Request) (rest : List ℕ) (after : After) → last_closes requests ≡ false → IsAfter requests' rest after → IsAfter (requests ++ requests') rest after
after_then requests requests' rest (Open n) stays (a, b, c) = (closes_then requests requests' stays ∙ a, b, c)
after_then requests requests' rest (Bad status) stays (a, b) = (closes_then requests requests' stays ∙ a, b)
after_then requests requests' rest Closing stays a = closes_then requests requests' stays ∙ a

-- earlier replies before a cut one
cut_then : {S : Type 0} (step : S → Request → Reply → S → Type 0) (old mid : S) (link link' link'' : LinkState) (rest : List ℕ) (requests : List Request) (replies : List Reply) (requests' : List Request) (replies' : List Reply)
    → Chain step old requests replies mid → last_closes requests ≡ false → AreWritten requests replies link link' → IsCut requests' replies' rest link' link'' → IsCut (requests ++ requests') (replies ++ replies') rest link link''
cut_then step old mid link link' link'' rest requests replies requests' replies' chain stays written (inl (earlier, said, request, reply, cut)) =
    inl (
      requests ++ earlier,
      replies ++ said,
      request,
      reply,
      record {
        requests_are = ap (λ x. requests ++ x) cut.requests_are ∙ sym (append_assoc requests earlier (request ∷ []));
        replies_are = ap (λ x. replies ++ x) cut.replies_are ∙ sym (append_assoc replies said (reply ∷ []));
        written = subst (λ (w : Option (List ℕ)). GrewByFront w (bytes_of reply request.closing) link''.written) (written_then step old mid link link' link'' requests replies earlier said chain written) cut.written;
      },
    )
cut_then step old mid link link' link'' rest requests replies requests' replies' chain stays written (inr (status, cut)) =
    inr (
      status,
      record {
        after = after_then requests requests' rest (Bad status) stays cut.after;
        written = subst (λ (w : Option (List ℕ)). GrewByFront w (fault_bytes status) link''.written) (written_then step old mid link link' link'' requests replies requests' replies' chain written) cut.written;
      },
    )

-- earlier replies before the end
ends_then : {S : Type 0} (step : S → Request → Reply → S → Type 0) (old mid : S) (link link' link'' : LinkState) (bytes held rest : List ℕ) (requests : List Request) (replies : List Reply) (requests' : List Request) (replies' : List Reply) (end : Ended)
    → Goes step old mid link link' bytes held requests replies → Ends end requests' replies' rest link' link'' → Ends end (requests ++ requests') (replies ++ replies') rest link link''
ends_then step old mid link link' link'' bytes held rest requests replies requests' replies' ended.AtEnd goes (after, used, written) =
    (after_then requests requests' rest (Open 0) goes.goes_on after, used, written ∙ written_then step old mid link link' link'' requests replies requests' replies' goes.chain goes.written)
ends_then step old mid link link' link'' bytes held rest requests replies requests' replies' ended.Closed goes (after, written) =
    (after_then requests requests' rest Closing goes.goes_on after, written ∙ written_then step old mid link link' link'' requests replies requests' replies' goes.chain goes.written)
ends_then step old mid link link' link'' bytes held rest requests replies requests' replies' (ended.BadInput status) goes (after, written) = (
  after_then requests requests' rest (Bad status) goes.goes_on after,
  written
      ∙ sym (grown_twice link'.written (replies_bytes requests' replies') (fault_bytes status))
      ∙ ap (λ w. grown w (fault_bytes status)) (written_then step old mid link link' link'' requests replies requests' replies' goes.chain goes.written)
      ∙ grown_twice link.written (replies_bytes (requests ++ requests') (replies ++ replies')) (fault_bytes status),
)
ends_then step old mid link link' link'' bytes held rest requests replies requests' replies' (ended.Truncated n) goes (after, some, used, written) =
    (after_then requests requests' rest (Open n) goes.goes_on after, some, used, written ∙ written_then step old mid link link' link'' requests replies requests' replies' goes.chain goes.written)
ends_then step old mid link link' link'' bytes held rest requests replies requests' replies' ended.ReadFault goes (after, rose, written) =
    (after_then requests requests' rest (Open (length rest)) goes.goes_on after, rose_since _ _ _ goes.reads rose, written ∙ written_then step old mid link link' link'' requests replies requests' replies' goes.chain goes.written)
ends_then step old mid link link' link'' bytes held rest requests replies requests' replies' ended.WriteFault goes (cut, rose) =
    (cut_then step old mid link link' link'' rest requests replies requests' replies' goes.chain goes.goes_on goes.written cut, rose_since _ _ _ goes.writes rose)
ends_then step old mid link link' link'' bytes held rest requests replies requests' replies' ended.TurnsSpent goes (after, written) =
    (after_then requests requests' rest (Open (length rest)) goes.goes_on after, written ∙ written_then step old mid link link' link'' requests replies requests' replies' goes.chain goes.written)
ends_then step old mid link link' link'' bytes held rest requests replies requests' replies' ended.NoMemory goes h = elim h [
  | inl written ↦ inl (written ∙ written_then step old mid link link' link'' requests replies requests' replies' goes.chain goes.written)
  | inr cut ↦ inr (cut_then step old mid link link' link'' rest requests replies requests' replies' goes.chain goes.goes_on goes.written cut)
]

-- what goes on and then ends
pub stops_then : {S : Type 0} (step : S → Request → Reply → S → Type 0) (old mid new : S) (link link' link'' : LinkState) (bytes held rest : List ℕ) (requests : List Request) (replies : List Reply) (requests' : List Request) (replies' : List Reply) (end : Ended)
    → Goes step old mid link link' bytes held requests replies → Stops step mid new link' link'' end held rest requests' replies' → Stops step old new link link'' end bytes rest (requests ++ requests') (replies ++ replies')
stops_then step old mid new link link' link'' bytes held rest requests replies requests' replies' end goes stops = record {
  begins = begins_more bytes requests held requests' rest goes.begins goes.goes_on stops.begins;
  chain = chain_more step old mid new requests replies requests' replies' goes.chain stops.chain;
  ends = ends_then step old mid link link' link'' bytes held rest requests replies requests' replies' end goes stops.ends;
}

-- it ends with nothing answered
pub stops_here : {S : Type 0} (step : S → Request → Reply → S → Type 0) (s : S) (link link' : LinkState) (bytes : List ℕ) (end : Ended) → Ends end [] [] bytes link link' → Stops step s s link link' end bytes bytes [] []
stops_here step s link link' bytes end ends = record { begins = refl; chain = refl; ends = ends }

-- a front of bytes, behind no reply
front_only : (old new : LinkState) (bytes : List ℕ) → GrewByFront old.written bytes new.written → GrewByFront (grown old.written []) bytes new.written
front_only old new bytes h = subst (λ (w : Option (List ℕ)). GrewByFront w bytes new.written) (sym (grown_none old.written)) h

cut_reply : (link link' : LinkState) (rest : List ℕ) (request : Request) (reply : Reply) → GrewByFront link.written (bytes_of reply request.closing) link'.written → IsCut (request ∷ []) (reply ∷ []) rest link link'
cut_reply link link' rest request reply h =
    inl ([], [], request, reply, record { requests_are = refl; replies_are = refl; written = front_only link link' (bytes_of reply request.closing) h })

-- a reply ends it
reply_ends : (link link' : LinkState) (rest : List ℕ) (request : Request) (reply : Reply) (end : Ended) → ReplyEnds request.closing link link' end (bytes_of reply request.closing) → Ends end (request ∷ []) (reply ∷ []) rest link link'
reply_ends link link' rest request reply ended.Closed (closes, takes) = (closes, takes ∙ ap (grown link.written) (sym (append-nil (bytes_of reply request.closing))))
reply_ends link link' rest request reply ended.WriteFault (rose, front) = (cut_reply link link' rest request reply front, rose)
reply_ends link link' rest request reply ended.NoMemory front = inr (cut_reply link link' rest request reply front)
reply_ends link link' rest request reply ended.AtEnd h = absurd h
reply_ends link link' rest request reply (ended.BadInput status) h = absurd h
reply_ends link link' rest request reply (ended.Truncated n) h = absurd h
reply_ends link link' rest request reply ended.ReadFault h = absurd h
reply_ends link link' rest request reply ended.TurnsSpent h = absurd h

pub stops_reply : {S : Type 0} (step : S → Request → Reply → S → Type 0) (old new : S) (link link' : LinkState) (bytes : List ℕ) (request : Request) (reply : Reply) (size : ℕ) (end : Ended)
    → HasFront bytes (Message request size) → step old request reply new → ReplyEnds request.closing link link' end (bytes_of reply request.closing) → Stops step old new link link' end bytes (drop size bytes) (request ∷ []) (reply ∷ [])
stops_reply step old new link link' bytes request reply size end front s h =
    record { begins = (size, front, refl); chain = (new, s, refl); ends = reply_ends link link' (drop size bytes) request reply end h }

cut_fault : (link link' : LinkState) (bytes : List ℕ) (status : ℕ) → HasFront bytes (Fault status) → GrewByFront link.written (fault_bytes status) link'.written → IsCut [] [] bytes link link'
cut_fault link link' bytes status front h =
    inr (status, record { after = (refl, front); written = front_only link link' (fault_bytes status) h })

-- the answer to bytes that are no message ends it
pub fault_ends : (link link' : LinkState) (bytes : List ℕ) (status : ℕ) (end : Ended) → HasFront bytes (Fault status) → FaultEnds status link link' end → Ends end [] [] bytes link link'
fault_ends link link' bytes status (ended.BadInput told) front (same, takes) =
    ((refl, subst (λ (s : ℕ). HasFront bytes (Fault s)) (sym same) front), takes ∙ ap (λ s. grown link.written (fault_bytes s)) (sym same))
fault_ends link link' bytes status ended.WriteFault front (rose, h) = (cut_fault link link' bytes status front h, rose)
fault_ends link link' bytes status ended.NoMemory front h = inr (cut_fault link link' bytes status front h)
fault_ends link link' bytes status ended.AtEnd front h = absurd h
fault_ends link link' bytes status ended.Closed front h = absurd h
fault_ends link link' bytes status (ended.Truncated n) front h = absurd h
fault_ends link link' bytes status ended.ReadFault front h = absurd h
fault_ends link link' bytes status ended.TurnsSpent front h = absurd h

-- memory is wanting, with nothing answered
pub no_memory_here : (link link' : LinkState) (bytes : List ℕ) → link'.written ≡ link.written → Ends ended.NoMemory [] [] bytes link link'
no_memory_here link link' bytes same = inl (same ∙ sym (grown_none link.written))
