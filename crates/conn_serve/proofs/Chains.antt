-- Answers and their bytes, as more are given.
use Rattle.std.proofs.Common.{◌≡◌, ℕ, List, [], ◌∷◌, ◌++◌, Option, Some, None, refl, sym, ap, ◌∙◌, subst, append_assoc}
use Rattle.std.proofs.lemmas.List.{append-nil}
use Rattle.outside_world.specs.Told.{grown}
use Rattle.web_messages.specs.Answering.{Chain}
use Rattle.web_messages.specs.declared.request.Request.{Request}
use Rattle.web_messages.specs.declared.request.Reply.{Reply}
use Rattle.http_reply.specs.ReplyBytes.{bytes_of}
use Rattle.conn_serve.specs.Serving.{replies_bytes}

-- one chain after another
pub chain_more : {S : Type 0} (step : S → Request → Reply → S → Type 0) (old mid new : S) (requests : List Request) (replies : List Reply) (requests' : List Request) (replies' : List Reply)
    → Chain step old requests replies mid → Chain step mid requests' replies' new → Chain step old (requests ++ requests') (replies ++ replies') new
chain_more {S} step old mid new [] [] requests' replies' e c = subst (λ (x : S). Chain step x requests' replies' new) e c
chain_more {S} step old mid new [] (r ∷ replies) requests' replies' b c = absurd b
chain_more {S} step old mid new (q ∷ requests) [] requests' replies' b c = absurd b
chain_more {S} step old mid new (q ∷ requests) (r ∷ replies) requests' replies' (m, first, b) c = (m, first, chain_more step m mid new requests replies requests' replies' b c)

-- the bytes of more replies stand behind those of the first ones
pub bytes_more : {S : Type 0} (step : S → Request → Reply → S → Type 0) (old mid : S) (requests : List Request) (replies : List Reply) (requests' : List Request) (replies' : List Reply)
    → Chain step old requests replies mid → replies_bytes (requests ++ requests') (replies ++ replies') ≡ replies_bytes requests replies ++ replies_bytes requests' replies'
bytes_more step old mid [] [] requests' replies' e = refl
bytes_more step old mid [] (r ∷ replies) requests' replies' b = absurd b
bytes_more step old mid (q ∷ requests) [] requests' replies' b = absurd b
bytes_more step old mid (q ∷ requests) (r ∷ replies) requests' replies' (m, first, b) =
    ap (λ x. bytes_of r q.closing ++ x) (bytes_more step m mid requests replies requests' replies' b) ∙ sym (append_assoc (bytes_of r q.closing) (replies_bytes requests replies) (replies_bytes requests' replies'))

-- to grow twice is to grow by both
pub grown_twice : (told : Option (List ℕ)) (a b : List ℕ) → grown (grown told a) b ≡ grown told (a ++ b)
grown_twice None a b = refl
grown_twice (Some held) a b = ap Some (append_assoc held a b)

-- to grow by nothing is to stay
pub grown_none : (told : Option (List ℕ)) → grown told [] ≡ told
grown_none None = refl
grown_none (Some held) = ap Some (append-nil held)
