-- What the parser's spans say of a head.
use Rattle.std.proofs.Common.{◌≡◌, ℕ, ◌≤◌, true, false, List, [], length, take, drop, map, All, Ok, Err, inr, sym, ap, ◌∙◌, subst, arith}
use Rattle.std.proofs.lemmas.List.{drop_all}
use Rattle.httparse.specs.declared.spans.HeaderSpan.{HeaderSpan}
use Rattle.httparse.specs.declared.spans.RequestSpans.{RequestSpans}
use Rattle.httparse.specs.Grammar.{RequestHead, ReadsRequest}
use Rattle.httparse.specs.Spans.{IsRequestAt, IsRequestOf, IsRequestWithin, IsHeaderWithin, span_bytes, header_bytes}
use Rattle.http_read.specs.declared.parts.Parts.{Parts}
use Rattle.http_read.specs.Head.{Field, Refuses, Takes, judge, judge_fields, provided, is_known_method, is_known_target}
use Rattle.http_read.specs.Parts.{IsPartsOf, IsRead}
use Rattle.http_read.specs.Messages.{IsHead, lines, most_lines}
use Rattle.http_read.proofs.Lines.{few_fields}

pub few_enough : (bytes : List ℕ) → lines bytes ≤ most_lines → (head : RequestHead) → IsHead bytes head → length head.fields ≤ 66
few_enough bytes few head is = let e = few_fields bytes head is in omega (arith, e, few)

pub whole_head : (bytes : List ℕ) (headers : List HeaderSpan) (spans : RequestSpans) (head : RequestHead) → spans.len ≡ length bytes → IsRequestAt bytes headers spans head → IsHead bytes head
whole_head bytes headers spans head e at =
    let none : drop spans.len bytes ≡ [] = drop_all spans.len bytes (omega (arith, e)) in
    subst (λ (x : List ℕ). ReadsRequest bytes head x) none at.reads

-- The rules, one after another

pub judged_fields : (minor : ℕ) (method target : List ℕ) (fields : List Field) (status : ℕ) → judge_fields minor fields ≡ Refuses status → judge minor method target fields ≡ Refuses status
judged_fields minor method target fields status e =
    ap (λ j. provided (provided j (is_known_method method) 405) (is_known_target target) 400) e

pub judged_method : (minor : ℕ) (method target : List ℕ) (fields : List Field) (n : ℕ) → judge_fields minor fields ≡ Takes n → is_known_method method ≡ false → judge minor method target fields ≡ Refuses 405
judged_method minor method target fields n e m =
    ap (λ j. provided (provided j (is_known_method method) 405) (is_known_target target) 400) e
    ∙ ap (λ b. provided (provided (Takes n) b 405) (is_known_target target) 400) m

pub judged_target : (minor : ℕ) (method target : List ℕ) (fields : List Field) (n : ℕ) → judge_fields minor fields ≡ Takes n → is_known_method method ≡ true → is_known_target target ≡ false → judge minor method target fields ≡ Refuses 400
judged_target minor method target fields n e m t =
    ap (λ j. provided (provided j (is_known_method method) 405) (is_known_target target) 400) e
    ∙ ap (λ b. provided (provided (Takes n) b 405) (is_known_target target) 400) m
    ∙ ap (λ b. provided (Takes n) b 400) t

pub judged : (minor : ℕ) (method target : List ℕ) (fields : List Field) (n : ℕ) → judge_fields minor fields ≡ Takes n → is_known_method method ≡ true → is_known_target target ≡ true → judge minor method target fields ≡ Takes n
judged minor method target fields n e m t =
    ap (λ j. provided (provided j (is_known_method method) 405) (is_known_target target) 400) e
    ∙ ap (λ b. provided (provided (Takes n) b 405) (is_known_target target) 400) m
    ∙ ap (λ b. provided (Takes n) b 400) t

-- What the parser found

along : (P : ℕ → List ℕ → List ℕ → List Field → Type 0) (v v' : ℕ) (m m' t t' : List ℕ) (f f' : List Field) → v ≡ v' → m ≡ m' → t ≡ t' → f ≡ f' → P v m t f → P v' m' t' f'
along P v v' m m' t t' f f' a b c d h =
    subst (λ (x : ℕ). P x m' t' f') a (subst (λ (x : List ℕ). P v x t' f') b (subst (λ (x : List ℕ). P v m x f') c (subst (λ (x : List Field). P v m t x) d h)))

pub read_ok : (bytes : List ℕ) (headers fields : List HeaderSpan) (spans : RequestSpans) (parts : Parts) → IsRequestOf bytes headers spans → spans.len ≡ length bytes → fields ≡ take spans.headers headers
    → IsPartsOf bytes spans.version (span_bytes bytes spans.method) (span_bytes bytes spans.path) (map (header_bytes bytes) fields) parts → IsRead bytes (Ok parts)
read_ok bytes headers fields spans parts (head, at) whole e kept = (
  head,
  whole_head bytes headers spans head whole at,
  along (λ v m t f. IsPartsOf bytes v m t f parts) _ _ _ _ _ _ _ _ at.version at.method at.path (ap (map (header_bytes bytes)) e ∙ at.fields) kept,
)

pub read_err : (bytes : List ℕ) (headers fields : List HeaderSpan) (spans : RequestSpans) (status : ℕ) → IsRequestOf bytes headers spans → spans.len ≡ length bytes → fields ≡ take spans.headers headers
    → judge spans.version (span_bytes bytes spans.method) (span_bytes bytes spans.path) (map (header_bytes bytes) fields) ≡ Refuses status → IsRead bytes (Err status)
read_err bytes headers fields spans status (head, at) whole e refused =
    inr (
      head,
      whole_head bytes headers spans head whole at,
      along (λ v m t f. judge v m t f ≡ Refuses status) _ _ _ _ _ _ _ _ at.version at.method at.path (ap (map (header_bytes bytes)) e ∙ at.fields) refused,
    )

-- the fields that the parser wrote lie in the bytes
pub fields_within : (bytes : List ℕ) (headers fields : List HeaderSpan) (spans : RequestSpans) → IsRequestWithin bytes headers spans → spans.len ≡ length bytes → fields ≡ take spans.headers headers → All (IsHeaderWithin (length bytes)) fields
fields_within bytes headers fields spans within whole e =
    subst (λ (fs : List HeaderSpan). All (IsHeaderWithin (length bytes)) fs) (sym e) (subst (λ (n : ℕ). All (IsHeaderWithin n) (take spans.headers headers)) whole within.section.headers_fit)
