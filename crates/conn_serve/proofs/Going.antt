-- A connection that goes on.
use Rattle.std.proofs.Common.{◌≡◌, ℕ, ◌≤◌, false, List, [], ◌∷◌, ◌++◌, drop, refl, sym, ap, ◌∙◌, arith}
use Rattle.std.proofs.lemmas.List.{append-nil}
use Rattle.outside_world.specs.Told.{grown}
use Rattle.web_messages.specs.Answering.{Chain}
use Rattle.web_messages.specs.declared.request.Request.{Request}
use Rattle.web_messages.specs.declared.request.Reply.{Reply}
use Rattle.http_reply.specs.ReplyBytes.{bytes_of}
use Rattle.http_read.specs.Messages.{HasFront, Message, last_closes}
use Rattle.http_read.proofs.Begins.{begins_append, begins_more, last_closes_more}
use Rattle.conn_serve.specs.Serving.{LinkState, AreWritten, replies_bytes}
use Rattle.conn_serve.specs.Steps.{Takes, Goes}
use Rattle.conn_serve.proofs.Chains.{chain_more, bytes_more, grown_twice, grown_none}

-- nothing is answered yet
pub goes_nothing : {S : Type 0} (step : S → Request → Reply → S → Type 0) (s : S) (link link' : LinkState) (bytes : List ℕ) → link'.written ≡ link.written → link.read_count ≤ link'.read_count → link.write_count ≤ link'.write_count → Goes step s s link link' bytes bytes [] []
goes_nothing step s link link' bytes same reads writes =
    record { begins = refl; goes_on = refl; chain = refl; written = same ∙ sym (grown_none link.written); reads = reads; writes = writes }

-- one request is answered
pub goes_one : {S : Type 0} (step : S → Request → Reply → S → Type 0) (old new : S) (link link' : LinkState) (bytes : List ℕ) (request : Request) (reply : Reply) (size : ℕ)
    → HasFront bytes (Message request size) → request.closing ≡ false → step old request reply new → Takes (bytes_of reply request.closing) link link' → link.read_count ≤ link'.read_count → link.write_count ≤ link'.write_count
    → Goes step old new link link' bytes (drop size bytes) (request ∷ []) (reply ∷ [])
goes_one step old new link link' bytes request reply size front stays s takes reads writes = record {
  begins = (size, front, refl);
  goes_on = stays;
  chain = (new, s, refl);
  written = takes ∙ ap (grown link.written) (sym (append-nil (bytes_of reply request.closing)));
  reads = reads;
  writes = writes;
}

-- more replies behind those that are written
pub written_then : {S : Type 0} (step : S → Request → Reply → S → Type 0) (old new : S) (link mid link' : LinkState) (requests : List Request) (replies : List Reply) (requests' : List Request) (replies' : List Reply)
    → Chain step old requests replies new → AreWritten requests replies link mid → grown mid.written (replies_bytes requests' replies') ≡ grown link.written (replies_bytes (requests ++ requests') (replies ++ replies'))
written_then step old new link mid link' requests replies requests' replies' chain written =
    ap (λ w. grown w (replies_bytes requests' replies')) written
    ∙ grown_twice link.written (replies_bytes requests replies) (replies_bytes requests' replies')
    ∙ ap (grown link.written) (sym (bytes_more step old new requests replies requests' replies' chain))

-- the last one of more messages decides
pub closes_then : (requests requests' : List Request) → last_closes requests ≡ false → last_closes (requests ++ requests') ≡ last_closes requests'
closes_then requests [] stays = ap last_closes (append-nil requests) ∙ stays
closes_then requests (next ∷ more) stays = last_closes_more requests next more

-- bytes that come stand behind the rest
pub goes_append : {S : Type 0} (step : S → Request → Reply → S → Type 0) (old new : S) (link link' : LinkState) (bytes more rest : List ℕ) (requests : List Request) (replies : List Reply)
    → Goes step old new link link' bytes rest requests replies → Goes step old new link link' (bytes ++ more) (rest ++ more) requests replies
goes_append step old new link link' bytes more rest requests replies goes = record {
  begins = begins_append bytes more requests rest goes.begins;
  goes_on = goes.goes_on;
  chain = goes.chain;
  written = goes.written;
  reads = goes.reads;
  writes = goes.writes;
}

-- and then it goes on
pub goes_then : {S : Type 0} (step : S → Request → Reply → S → Type 0) (old mid new : S) (link link' link'' : LinkState) (bytes held rest : List ℕ) (requests : List Request) (replies : List Reply) (requests' : List Request) (replies' : List Reply)
    → Goes step old mid link link' bytes held requests replies → Goes step mid new link' link'' held rest requests' replies' → Goes step old new link link'' bytes rest (requests ++ requests') (replies ++ replies')
goes_then step old mid new link link' link'' bytes held rest requests replies requests' replies' a b = record {
  begins = begins_more bytes requests held requests' rest a.begins a.goes_on b.begins;
  goes_on = closes_then requests requests' a.goes_on ∙ b.goes_on;
  chain = chain_more step old mid new requests replies requests' replies' a.chain b.chain;
  written = b.written ∙ written_then step old mid link link' link'' requests replies requests' replies' a.chain a.written;
  reads = let x = a.reads in let y = b.reads in omega (arith, x, y);
  writes = let x = a.writes in let y = b.writes in omega (arith, x, y);
}
