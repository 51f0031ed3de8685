-- What is answered after a look.
use Rattle.std.proofs.Common.{◌≡◌, ℕ, ◌+◌, ◌-◌, ◌≤◌, Bool, List, length, take, drop, Option, Some, None, Result, Ok, sym, ap, ◌∙◌, subst, arith}
use Rattle.std.proofs.lemmas.List.{drop-drop}
use Rattle.std.proofs.lemmas.Grind.{common_steps}
use Rattle.std.proofs.lemmas.Result.{err_from_is_err_and}
use Rattle.std.specs.Result.{IsErrAnd}
use Rattle.web_messages.specs.declared.request.Request.{Request}
use Rattle.no_memory.specs.declared.NoMemory.{NoMemory}
use Rattle.http_read.specs.declared.reader.Stage.{Stage}
use Rattle.http_read.specs.declared.reader.Next.{Next}
use Rattle.http_read.specs.declared.reader.Next.TheVariants as next
use Rattle.http_read.specs.Reader.{ReaderState, IsSearched, IsNext, Answers, stage_fault}
use Rattle.http_read.proofs.Requests.{same_after, fault_after}
use Rattle.http_read.proofs.Stages.{new_search, slice_rest}

abbrev state : List ℕ → Option ℕ → Bool → ReaderState
state held fault closed = record { held = held; fault = fault; closed = closed }

-- what was found in a slice, of the bytes that are held
pub next_of_slice : (bytes d : List ℕ) (start size : ℕ) (at : Stage) (found it : Next) → d ≡ bytes → found ≡ it → IsNext (take (length d - start) (drop start d)) at found size → IsNext (drop start bytes) at it size
next_of_slice bytes d start size at found it e is h =
    subst (λ (x : Next). IsNext (drop start bytes) at x size) is (subst (λ (x : List ℕ). IsNext x at found size) (slice_rest bytes d start e) h)

-- the fault of a reader stays with a look
abbrev pub Stays : Stage → Stage → Type 0
Stays old new = (status : ℕ) → stage_fault old ≡ Some status → stage_fault new ≡ Some status

pub answers_more : (held : List ℕ) (size : ℕ) (old at : Stage) (closed : Bool) (now : ReaderState) → Stays old at → state held (stage_fault old) closed ≡ now → IsNext held at next.More size → Answers now (Ok next.More) (state held (stage_fault at) closed)
answers_more held size old at closed now stays is h =
    subst (λ (x : ReaderState). Answers x (Ok next.More) (state held (stage_fault at) closed)) is (h.0, same_after held closed (stage_fault old) (stage_fault at) stays h.1)

pub answers_bad : (held : List ℕ) (size status : ℕ) (old at : Stage) (closed : Bool) (now : ReaderState) → state held (stage_fault old) closed ≡ now → IsNext held at (next.Bad status) size → Answers now (Ok (next.Bad status)) (state held (stage_fault at) closed)
answers_bad held size status old at closed now is h =
    subst (λ (x : ReaderState). Answers x (Ok (next.Bad status)) (state held (stage_fault at) closed)) is (h.0, fault_after held closed (stage_fault at) status h.1)

pub answers_request : (bytes : List ℕ) (start size : ℕ) (request : Request) (old at : Stage) (closed : Bool) (now : ReaderState) → state (drop start bytes) (stage_fault old) closed ≡ now → IsNext (drop start bytes) at (next.Request request) size → Answers now (Ok (next.Request request)) (state (drop (start + size) bytes) None request.closing)
answers_request bytes start size request old at closed now is h =
    let same : drop (start + size) bytes ≡ drop size (drop start bytes) = sym (drop-drop size start bytes) in
    subst (λ (x : ReaderState). Answers x (Ok (next.Request request)) (state (drop (start + size) bytes) None request.closing)) is (size, h.0, ap (λ l. state l None request.closing) same)

pub answers_refusal : (held : List ℕ) (old at : Stage) (closed : Bool) (now : ReaderState) (r : Result Next NoMemory) (Q : NoMemory → Type 0) → Stays old at → state held (stage_fault old) closed ≡ now → stage_fault at ≡ None → IsErrAnd r Q → Answers now r (state held (stage_fault at) closed)
answers_refusal held old at closed now r Q stays is none h =
    let p = err_from_is_err_and r h in
    subst (λ (x : Result Next NoMemory). Answers now x (state held (stage_fault at) closed)) (sym p.1) (same_after held closed (stage_fault old) (stage_fault at) stays none ∙ is)

-- where there was a fault no request is found
pub no_request : {A : Type 0} (held : List ℕ) (size status : ℕ) (request : Request) (old at : Stage) (closed : Bool) (now : ReaderState) → Stays old at → state held (stage_fault old) closed ≡ now → IsNext held at (next.Request request) size → now.fault ≡ Some status → A
no_request held size status request old at closed now stays is h fault =
    let none = h.2 in let some = stays status (ap (λ (x : ReaderState). x.fault) is ∙ fault) in cc (none, some)

-- what is held after a request isn't looked at yet
pub search_after : (bytes : List ℕ) (start size : ℕ) (at : Stage) (request : Request) → start ≤ length bytes → IsNext (drop start bytes) at (next.Request request) size → (start + size ≤ length bytes) × IsSearched (drop (start + size) bytes) 0 0
search_after bytes start size at request within h =
    let fits = h.1 in
    let l : length (drop start bytes) ≡ length bytes - start = grind (arith, common_steps) in
    (omega (arith, within, fits, l), new_search (drop (start + size) bytes))
