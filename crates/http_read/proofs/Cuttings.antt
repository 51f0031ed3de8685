-- However a stream is cut, the reader gives its messages.
use Rattle.std.proofs.Common.{◌≡◌, ℕ, List, [], ◌∷◌, ◌++◌, drop, refl, sym, ap, ◌∙◌, subst, append_assoc}
use Rattle.std.proofs.lemmas.List.{append-nil}
use Rattle.web_messages.specs.declared.request.Request.{Request}
use Rattle.http_read.specs.Cuts.{Act, Fed, Gave, Runs, bytes_fed, requests_given, new_reader, CutsDoNotMatter, AnswersEndMessages}
use Rattle.http_read.specs.Messages.{BeginsWith, last_closes}
use Rattle.http_read.specs.Reader.{ReaderState}
use Rattle.http_read.proofs.Begins.{begins_append, begins_next, last_closes_more}

runs_on : (acts : List Act) (bytes : List ℕ) (requests : List Request) (old new : ReaderState)
    → BeginsWith bytes requests old.held × (old.closed ≡ last_closes requests) → Runs old acts new
    → BeginsWith (bytes ++ bytes_fed acts) (requests ++ requests_given acts) new.held × (new.closed ≡ last_closes (requests ++ requests_given acts))
runs_on [] bytes requests old new at e =
    let P : List ℕ → List Request → Type 0 = λ b r. BeginsWith b r new.held × (new.closed ≡ last_closes r) in
    let here : P bytes requests = subst (λ (s : ReaderState). BeginsWith bytes requests s.held × (s.closed ≡ last_closes requests)) (sym e) at in
    subst (λ (b : List ℕ). P b (requests ++ [])) (sym (append-nil bytes)) (subst (λ (r : List Request). P bytes r) (sym (append-nil requests)) here)
runs_on (Fed piece ∷ acts) bytes requests old new (begins, closed) runs =
    let P : List ℕ → Type 0 = λ b. BeginsWith b (requests ++ requests_given acts) new.held × (new.closed ≡ last_closes (requests ++ requests_given acts)) in
    subst P (append_assoc bytes piece (bytes_fed acts))
    (runs_on acts (bytes ++ piece) requests (record old { held = old.held ++ piece }) new (begins_append bytes piece requests old.held begins, closed) runs)
runs_on (Gave request ∷ acts) bytes requests old new (begins, closed) (mid, goes_on, (size, front, is), runs) =
    let P : List Request → Type 0 = λ r. BeginsWith (bytes ++ bytes_fed acts) r new.held × (new.closed ≡ last_closes r) in
    let begins' = begins_next bytes requests old.held request size begins (sym closed ∙ goes_on) front in
    let held : mid.held ≡ drop size old.held = ap (λ s. s.held) is in
    let shut : mid.closed ≡ request.closing = ap (λ s. s.closed) is in
    subst P (append_assoc requests (request ∷ []) (requests_given acts))
    (runs_on acts bytes (requests ++ request ∷ []) mid new
    (subst (λ (x : List ℕ). BeginsWith bytes (requests ++ request ∷ []) x) (sym held) begins', shut ∙ sym (last_closes_more requests request [])) runs)

pub cuts_do_not_matter : CutsDoNotMatter
cuts_do_not_matter acts reader runs = runs_on acts [] [] new_reader reader (refl, refl) runs

pub answers_end_messages : AnswersEndMessages
answers_end_messages acts reader later runs =
    let at = cuts_do_not_matter acts reader runs in
    let begins = at.0 in
    let closed = at.1 in (
      λ goes_on answer. (reader.held, begins, (sym closed ∙ goes_on, answer.0, refl)),
      λ status goes_on answer. (reader.held, begins, (sym closed ∙ goes_on, answer.0)),
      λ shut. (reader.held, begins, sym closed ∙ shut),
    )
