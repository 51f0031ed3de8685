-- How far the bytes were looked at stays as bytes come.
use Rattle.std.proofs.Common.{◌≡◌, ℕ, zero, suc, ◌≤◌, false, List, ◌-◌, ◌++◌, length, take, drop, Ok, Err, inl, inr, refl, sym, ap, ◌∙◌, subst, arith, length-append}
use Rattle.std.proofs.lemmas.Grind.{common_steps}
use Rattle.std.proofs.lemmas.List.{take-append-le, drop-append-le}
use Rattle.http_read.specs.declared.reader.Stage.{Stage}
use Rattle.http_read.specs.declared.reader.Stage.TheVariants as stage
use Rattle.http_read.specs.declared.parts.Parts.{Parts}
use Rattle.http_read.specs.Messages.{Fault, HasFront, HasHead, IsHead, ends_at, lines}
use Rattle.http_read.specs.Parts.{IsParts, IsRead}
use Rattle.http_read.specs.Reader.{IsSearched, IsAtStage, IsLooked}
use Rattle.http_read.proofs.Fronts.{ends_at_append, reads_append, front_append}

-- nothing was looked at yet
no_end_at_first : (held : List ℕ) (k : ℕ) → k ≤ 0 → ends_at held k ≡ false
unfolding ends_at
no_end_at_first held zero h = refl
no_end_at_first held (suc k) h = absurd (omega (arith, h))

pub new_search : (held : List ℕ) → IsSearched held 0 0
new_search held = record {
  within = omega arith;
  no_end = no_end_at_first held;
  count_is = refl;
  short = omega arith;
  few = omega arith;
}

pub searched_append : (held more : List ℕ) (seen count : ℕ) → IsSearched held seen count → IsSearched (held ++ more) seen count
searched_append held more seen count searched = record {
  within = let e = length-append held more in let w = searched.within in omega (arith, e, w);
  no_end = λ k low. ends_at_append held more k (let w = searched.within in omega (arith, w, low)) ∙ searched.no_end k low;
  count_is = searched.count_is ∙ ap lines (sym (take-append-le seen held more searched.within));
  short = searched.short;
  few = searched.few;
}

pub stage_append : (held more : List ℕ) (at : Stage) → IsAtStage held at → IsAtStage (held ++ more) at
stage_append held more (stage.Search seen count) h = searched_append held more seen count h
stage_append held more (stage.Body parts) (head, reads, is) =
    (head, reads_append held more parts.head head reads, subst (λ (x : List ℕ). IsParts x head parts) (sym (take-append-le parts.head held more reads.has.within)) is)
stage_append held more (stage.Fault status) h = front_append held more (Fault status) tt h

-- the bytes that are held, as a piece comes
pub fed : (bytes items piece : List ℕ) (start : ℕ) (at : Stage) → items ≡ bytes ++ piece → (start ≤ length bytes) × IsAtStage (drop start bytes) at → (start ≤ length items) × IsAtStage (drop start items) at
fed bytes items piece start at e (within, stands) =
    let l = length-append bytes piece in
    let n : length items ≡ length (bytes ++ piece) = ap length e in
    let same : drop start items ≡ drop start bytes ++ piece = ap (drop start) e ∙ drop-append-le start bytes piece within in
    (omega (arith, n, l, within), subst (λ (x : List ℕ). IsAtStage x at) (sym same) (stage_append (drop start bytes) piece at stands))

-- a head that was read
pub look_body : (held bytes : List ℕ) (k : ℕ) (parts : Parts) → HasHead held k → IsRead bytes (Ok parts) → bytes ≡ take k held → IsLooked held (stage.Body parts)
look_body held bytes k parts has (head, is, kept) e =
    let l : length (take k held) ≡ k = let w = has.within in grind (arith, common_steps) in
    let same : k ≡ parts.head = sym l ∙ ap length (sym e) ∙ sym kept.length_is in
    let e' : bytes ≡ take parts.head held = e ∙ ap (λ n. take n held) same in (
      head,
      record {
        has = subst (λ (n : ℕ). HasHead held n) same has;
        is = subst (λ (x : List ℕ). IsHead x head) e' is;
      },
      subst (λ (x : List ℕ). IsParts x head parts) e' kept,
    )

-- a head that was refused
pub look_fault : (held bytes : List ℕ) (k status : ℕ) → HasHead held k → IsRead bytes (Err status) → bytes ≡ take k held → HasFront held (Fault status)
look_fault held bytes k status has read e = elim read [
  | inl none ↦ inr (inl ((k, has, λ head is. none.0 head (subst (λ (x : List ℕ). IsHead x head) (sym e) is)), none.1))
  | inr refused ↦ inr (inr (k, refused.0, record { has = has; is = subst (λ (x : List ℕ). IsHead x refused.0) e refused.1 }, refused.2))
]

-- what was looked at stands
pub looked_stands : (held : List ℕ) (at : Stage) → IsLooked held at → IsAtStage held at
looked_stands held (stage.Search seen count) h = h.0
looked_stands held (stage.Body parts) h = h
looked_stands held (stage.Fault status) h = h

-- Slices of what is held

pub slice_rest : (bytes d : List ℕ) (start : ℕ) → d ≡ bytes → take (length d - start) (drop start d) ≡ drop start bytes
slice_rest bytes d start e =
    let all : take (length d - start) (drop start d) ≡ drop start d = grind (arith, common_steps) in all ∙ ap (drop start) e

pub stage_of_slice : (bytes d : List ℕ) (start : ℕ) (at : Stage) → d ≡ bytes → IsAtStage (drop start bytes) at → IsAtStage (take (length d - start) (drop start d)) at
stage_of_slice bytes d start at e h = subst (λ (x : List ℕ). IsAtStage x at) (sym (slice_rest bytes d start e)) h

pub looked_of_slice : (bytes d d' : List ℕ) (start : ℕ) (at : Stage) → d ≡ bytes → d' ≡ bytes → IsLooked (take (length d - start) (drop start d)) at → IsLooked (take (length d' - start) (drop start d')) at
looked_of_slice bytes d d' start at e e' h = subst (λ (x : List ℕ). IsLooked x at) (slice_rest bytes d start e ∙ sym (slice_rest bytes d' start e')) h

pub looked_invariant : (bytes d : List ℕ) (start : ℕ) (at : Stage) → d ≡ bytes → start ≤ length bytes → IsLooked (take (length d - start) (drop start d)) at → (start ≤ length bytes) × IsAtStage (drop start bytes) at
looked_invariant bytes d start at e within h = (within, looked_stands (drop start bytes) at (subst (λ (x : List ℕ). IsLooked x at) (slice_rest bytes d start e) h))
