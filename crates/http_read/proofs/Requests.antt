-- The request of a message.
use Rattle.std.proofs.Common.{◌≡◌, ℕ, ◌+◌, ◌-◌, ◌≤◌, ◌<◌, Bool, List, ◌++◌, length, take, drop, Option, Some, None, refl, sym, ap, ◌∙◌, subst, inr, arith}
use Rattle.std.proofs.lemmas.Grind.{common_steps}
use Rattle.std.proofs.lemmas.List.{drop-take}
use Rattle.httparse.specs.declared.spans.Span.{Span}
use Rattle.httparse.specs.Grammar.{RequestHead}
use Rattle.httparse.specs.Spans.{span_bytes, IsWithin}
use Rattle.web_messages.specs.declared.request.Request.{Request}
use Rattle.http_read.specs.declared.parts.Parts.{Parts}
use Rattle.http_read.specs.Form.{form_pairs}
use Rattle.http_read.specs.Head.{or_root, body_pairs}
use Rattle.http_read.specs.Messages.{Held, Message, HasFront, ReadsHead}
use Rattle.http_read.specs.Parts.{IsParts, request_at}
use Rattle.http_read.specs.Reader.{ReaderState}
use Rattle.http_read.proofs.Spans.{take_take}

-- a part that lies in a front
span_front : (bytes : List ℕ) (n : ℕ) (s : Span) → n ≤ length bytes → IsWithin (length (take n bytes)) s → span_bytes (take n bytes) s ≡ span_bytes bytes s
span_front bytes n s fits w =
    let e : length (take n bytes) ≡ n = grind (arith, common_steps) in
    let w0 = w.0 in let w1 = w.1 in
    let cut : n ≡ s.start + (n - s.start) = omega (arith, w0, w1, e) in
    ap (λ m. take (s.end - s.start) (drop s.start (take m bytes))) cut
    ∙ ap (take (s.end - s.start)) (drop-take s.start (n - s.start) bytes)
    ∙ take_take (s.end - s.start) (n - s.start) (drop s.start bytes) (omega (arith, w0, w1, e))

pub within_front : (bytes : List ℕ) (k n : ℕ) (s : Span) → k ≤ n → n ≤ length bytes → IsWithin (length (take k bytes)) s → IsWithin (length (take n bytes)) s
within_front bytes k n s low fits w =
    let e : length (take k bytes) ≡ k = grind (arith, common_steps) in
    let f : length (take n bytes) ≡ n = grind (arith, common_steps) in
    let w1 = w.1 in (w.0, omega (arith, w1, e, f, low))

same_span : (bytes : List ℕ) (k n : ℕ) (s : Span) → k ≤ n → n ≤ length bytes → IsWithin (length (take k bytes)) s → span_bytes (take n bytes) s ≡ span_bytes (take k bytes) s
same_span bytes k n s low fits w =
    span_front bytes n s fits (within_front bytes k n s low fits w) ∙ sym (span_front bytes k s (omega (arith, low, fits)) w)

abbrev request_from : List ℕ → List ℕ → Bool → List ℕ → Bool → Request
request_from path query form body closing = record { path = or_root path; form = record { pairs = form_pairs query ++ body_pairs form body }; closing = closing }

same_request : (path path' : List ℕ) (query query' : List ℕ) (form form' : Bool) (body body' : List ℕ) (closing closing' : Bool) → path ≡ path' → query ≡ query' → form ≡ form' → body ≡ body' → closing ≡ closing' → request_from path query form body closing ≡ request_from path' query' form' body' closing'
same_request path path' query query' form form' body body' closing closing' a b c d e =
    ap (λ x. request_from x query form body closing) a ∙ ap (λ x. request_from path' x form body closing) b ∙ ap (λ x. request_from path' query' x body closing) c ∙ ap (λ x. request_from path' query' form' x closing) d ∙ ap (λ x. request_from path' query' form' body' x) e

pub awaits_body : (held : List ℕ) (parts : Parts) (head : RequestHead) → ReadsHead held parts.head head → IsParts (take parts.head held) head parts → length held - parts.head < parts.body → HasFront held Held
awaits_body held parts head reads is short =
    let w = reads.has.within in
    inr (parts.head, head, parts.body, reads, is.takes, omega (arith, short, w))

pub message_is : (held : List ℕ) (parts : Parts) (head : RequestHead) (size : ℕ) (request : Request) → ReadsHead held parts.head head → IsParts (take parts.head held) head parts → size ≡ parts.head + parts.body → size ≤ length held → request ≡ request_at (take size held) parts → HasFront held (Message request size)
message_is held parts head size request reads is size_is fits e =
    let low : parts.head ≤ size = omega (arith, size_is) in
    let body : drop parts.head (take size held) ≡ take parts.body (drop parts.head held) = ap (λ n. drop parts.head (take n held)) size_is ∙ drop-take parts.head parts.body held in (
      parts.head,
      head,
      parts.body,
      record {
        reads = reads;
        takes = is.takes;
        whole = fits;
        size_is = size_is;
        request_is = e ∙ same_request _ _ _ _ _ _ _ _ _ _
            (same_span held parts.head size parts.path low fits is.path ∙ is.path_is)
            (same_span held parts.head size parts.query low fits is.query ∙ is.query_is)
            is.form_is body is.closing_is;
      },
    )

-- a fault that was there is there after a look, so where there is none, there was none
pub no_fault_before : (old new : Option ℕ) → ((status : ℕ) → old ≡ Some status → new ≡ Some status) → new ≡ None → old ≡ None
no_fault_before None new stays e = refl
no_fault_before (Some status) new stays e = let f = stays status refl in cc (e, f)

-- the states of a reader before and after an answer
abbrev state : List ℕ → Option ℕ → Bool → ReaderState
state held fault closed = record { held = held; fault = fault; closed = closed }

pub same_after : (held : List ℕ) (closed : Bool) (old new : Option ℕ) → ((status : ℕ) → old ≡ Some status → new ≡ Some status) → new ≡ None → ◌≡◌ {A = ReaderState} (record { held = held; fault = new; closed = closed }) (record { held = held; fault = old; closed = closed })
same_after held closed old new stays e = ap (λ f. state held f closed) (e ∙ sym (no_fault_before old new stays e))

pub fault_after : (held : List ℕ) (closed : Bool) (new : Option ℕ) (status : ℕ) → new ≡ Some status → ◌≡◌ {A = ReaderState} (record { held = held; fault = new; closed = closed }) (record { held = held; fault = Some status; closed = closed })
fault_after held closed new status e = ap (λ f. state held f closed) e

-- A head that was read, whose body may be whole or not

abbrev pub IsKept : List ℕ → Parts → Type 0
IsKept held parts = (head : RequestHead) × ReadsHead held parts.head head × IsParts (take parts.head held) head parts

pub head_fits : (held : List ℕ) (parts : Parts) → IsKept held parts → parts.head ≤ length held
head_fits held parts (head, reads, is) = reads.has.within

pub awaits_at : (held : List ℕ) (parts : Parts) → IsKept held parts → length held - parts.head < parts.body → HasFront held Held
awaits_at held parts (head, reads, is) short = awaits_body held parts head reads is short

pub path_fits : (held bytes : List ℕ) (parts : Parts) (size : ℕ) → IsKept held parts → parts.head ≤ size → size ≤ length held → bytes ≡ take size held → IsWithin (length bytes) parts.path
path_fits held bytes parts size (head, reads, is) low fits e =
    subst (λ (x : List ℕ). IsWithin (length x) parts.path) (sym e) (within_front held parts.head size parts.path low fits is.path)

pub query_fits : (held bytes : List ℕ) (parts : Parts) (size : ℕ) → IsKept held parts → parts.head ≤ size → size ≤ length held → bytes ≡ take size held → IsWithin (length bytes) parts.query
query_fits held bytes parts size (head, reads, is) low fits e =
    subst (λ (x : List ℕ). IsWithin (length x) parts.query) (sym e) (within_front held parts.head size parts.query low fits is.query)

pub message_of : (held bytes : List ℕ) (parts : Parts) (size : ℕ) (request : Request) → IsKept held parts → size ≡ parts.head + parts.body → size ≤ length held → request ≡ request_at bytes parts → bytes ≡ take size held → HasFront held (Message request size)
message_of held bytes parts size request (head, reads, is) size_is fits r e =
    message_is held parts head size request reads is size_is fits (r ∙ ap (λ b. request_at b parts) e)
