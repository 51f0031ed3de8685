-- What a piece comes to.
use Rattle.std.proofs.Common.{◌≡◌, ℕ, ◌≤◌, List, [], ◌++◌, length, take, refl, sym, ap, ◌∙◌, subst, arith}
use Rattle.std.proofs.lemmas.Grind.{common_steps}
use Rattle.std.proofs.lemmas.List.{append-nil}
use Rattle.outside_world.specs.Told.{Rose, IsUsedUp, led}
use Rattle.web_messages.specs.declared.request.Request.{Request}
use Rattle.web_messages.specs.declared.request.Reply.{Reply}
use Rattle.http_read.specs.Messages.{HasFront, Held, IsAfter, Open}
use Rattle.http_read.specs.Reader.{ReaderState}
use Rattle.conn_serve.specs.declared.Ended.{Ended}
use Rattle.conn_serve.specs.declared.Ended.TheVariants as ended
use Rattle.conn_serve.specs.Serving.{LinkState}
use Rattle.conn_serve.specs.Steps.{EndsOn, Gives, InputEnds, IsOfAnswers, IsOfPiece, PieceEnds}
use Rattle.conn_serve.proofs.Chains.{grown_none}
use Rattle.conn_serve.proofs.Going.{goes_nothing}
use Rattle.conn_serve.proofs.Stopping.{stops_here, stops_then, no_memory_here}

-- a front of a piece is no longer than it
front_fits : (piece : List ℕ) (n room : ℕ) → n ≤ length piece → length piece ≡ room → length (take n piece) ≤ room
front_fits piece n room within same = grind (arith, common_steps)

-- what a read gave, and then writing left as it was
gives_then : (more : List ℕ) (link link' link'' : LinkState) → Gives more link link' → link''.given ≡ link'.given → link''.left ≡ link'.left → Gives more link link''
gives_then more link link' link'' gives given left =
    record { given = given ∙ gives.given; left = gives.left ∙ ap (led more) (sym left) }

-- memory is wanting for a piece
pub piece_lost : {S : Type 0} (step : S → Request → Reply → S → Type 0) (s : S) (link link' : LinkState) (held piece : List ℕ) (n room : ℕ)
    → n ≤ length piece → length piece ≡ room → Gives (take n piece) link link' → link'.written ≡ link.written → PieceEnds step s s link link' held room ended.NoMemory
piece_lost step s link link' held piece n room within same gives written =
    let bytes = held ++ take n piece in
    (take n piece, front_fits piece n room within same, gives, tt, (bytes, [], [], stops_here step s link link' bytes ended.NoMemory (no_memory_here link link' bytes written)))

-- nothing follows what is held
held_after : (held : List ℕ) (n : ℕ) → HasFront held Held → n ≡ length held → IsAfter [] (held ++ []) (Open n)
held_after held n front same =
    subst (λ (x : List ℕ). IsAfter [] x (Open n)) (sym (append-nil held)) (refl, front, same)

-- a read failed
pub read_failed : {S : Type 0} (step : S → Request → Reply → S → Type 0) (s : S) (link link' : LinkState) (held : List ℕ) (room : ℕ)
    → HasFront held Held → Gives [] link link' → link'.written ≡ link.written → Rose link.read_count link'.read_count → PieceEnds step s s link link' held room ended.ReadFault
read_failed step s link link' held room front gives written rose =
    let bytes = held ++ [] in (
      [],
      omega arith,
      gives,
      refl,
      (bytes, [], [], stops_here step s link link' bytes ended.ReadFault (held_after held (length bytes) front (ap length (append-nil held)), rose, written ∙ sym (grown_none link.written))),
    )

-- the input ended
input_stops : {S : Type 0} (step : S → Request → Reply → S → Type 0) (s : S) (link link' : LinkState) (held : List ℕ) (room : ℕ) (end : Ended)
    → HasFront held Held → Gives [] link link' → link'.written ≡ link.written → IsUsedUp link'.left → InputEnds held end → PieceEnds step s s link link' held room end
input_stops step s link link' held room ended.AtEnd front gives written used none =
    let bytes = held ++ [] in
    ([], omega arith, gives, refl, (bytes, [], [], stops_here step s link link' bytes ended.AtEnd (held_after held 0 front (sym (ap length none)), used, written ∙ sym (grown_none link.written))))
input_stops step s link link' held room (ended.Truncated n) front gives written used (some, same) =
    let bytes = held ++ [] in
    ([], omega arith, gives, refl, (bytes, [], [], stops_here step s link link' bytes (ended.Truncated n) (held_after held n front same, some, used, written ∙ sym (grown_none link.written))))
input_stops step s link link' held room ended.Closed front gives written used h = absurd h
input_stops step s link link' held room (ended.BadInput status) front gives written used h = absurd h
input_stops step s link link' held room ended.ReadFault front gives written used h = absurd h
input_stops step s link link' held room ended.WriteFault front gives written used h = absurd h
input_stops step s link link' held room ended.TurnsSpent front gives written used h = absurd h
input_stops step s link link' held room ended.NoMemory front gives written used h = absurd h

pub input_ended : {S : Type 0} (step : S → Request → Reply → S → Type 0) (s : S) (link link' : LinkState) (held piece : List ℕ) (n room : ℕ) (end : Ended)
    → HasFront held Held → Gives (take n piece) link link' → n ≡ 0 → link'.written ≡ link.written → IsUsedUp link'.left → InputEnds held end → PieceEnds step s s link link' held room end
input_ended step s link link' held piece n room end front gives none written used h =
    input_stops step s link link' held room end front (subst (λ (m : ℕ). Gives (take m piece) link link') none gives) written used h

-- what ends a connection while messages are answered ends it at a piece
of_piece : (more : List ℕ) (end : Ended) → IsOfAnswers end → IsOfPiece more end
of_piece more ended.AtEnd h = absurd h
of_piece more ended.Closed h = tt
of_piece more (ended.BadInput status) h = tt
of_piece more (ended.Truncated n) h = absurd h
of_piece more ended.ReadFault h = absurd h
of_piece more ended.WriteFault h = tt
of_piece more ended.TurnsSpent h = absurd h
of_piece more ended.NoMemory h = tt

-- a read leaves what is answered, and comes before more answers
ends_behind : {S : Type 0} (step : S → Request → Reply → S → Type 0) (old new : S) (link link' link'' : LinkState) (bytes : List ℕ) (end : Ended)
    → link'.written ≡ link.written → link.read_count ≤ link'.read_count → link'.write_count ≡ link.write_count → EndsOn step old new link' link'' bytes end → EndsOn step old new link link'' bytes end
ends_behind step old new link link' link'' bytes end written reads writes (rest, requests, replies, stops) =
    (rest, requests, replies, stops_then step old old new link link' link'' bytes bytes rest [] [] requests replies end (goes_nothing step old link link' bytes written reads (omega (arith, writes))) stops)

pub piece_ended : {S : Type 0} (step : S → Request → Reply → S → Type 0) (old new : S) (link link' link'' : LinkState) (held piece : List ℕ) (n room : ℕ) (fed reader : ReaderState) (end : Ended)
    → n ≤ length piece → length piece ≡ room → Gives (take n piece) link link' → link'.written ≡ link.written → link.read_count ≤ link'.read_count → link'.write_count ≡ link.write_count
    → fed ≡ record reader { held = held ++ take n piece } → link''.given ≡ link'.given → link''.left ≡ link'.left → EndsOn step old new link' link'' fed.held end → IsOfAnswers end
    → PieceEnds step old new link link'' held room end
piece_ended step old new link link' link'' held piece n room fed reader end within same gives written reads writes feeds given left ends cause =
    let is : fed.held ≡ held ++ take n piece = ap (λ (s : ReaderState). s.held) feeds in (
      take n piece,
      front_fits piece n room within same,
      gives_then (take n piece) link link' link'' gives given left,
      of_piece (take n piece) end cause,
      ends_behind step old new link link' link'' (held ++ take n piece) end written reads writes (subst (λ (b : List ℕ). EndsOn step old new link' link'' b end) is ends),
    )
