-- Parts of parts.
use Rattle.std.proofs.Common.{◌≡◌, ℕ, ◌+◌, ◌-◌, ◌≤◌, List, length, take, drop, sym, ap, ◌∙◌, arith}
use Rattle.std.specs.Prelude.{slice_range}
use Rattle.std.proofs.lemmas.Grind.{common_steps}
use Rattle.std.proofs.lemmas.List.{drop-take}
use Rattle.httparse.specs.declared.spans.Span.{Span}
use Rattle.httparse.specs.Spans.{span_bytes, IsWithin}

-- the length of a part
pub span_length : (bytes : List ℕ) (outer : Span) → IsWithin (length bytes) outer → length (span_bytes bytes outer) ≡ outer.end - outer.start
span_length bytes outer within = grind (arith, common_steps)

pub take_take : (i j : ℕ) (bytes : List ℕ) → i ≤ j → take i (take j bytes) ≡ take i bytes
take_take i j bytes h = grind (arith, common_steps)

-- a range of a range
pub range_range : (bytes : List ℕ) (a b i j : ℕ) → i ≤ j → j ≤ b - a → a ≤ b → slice_range (slice_range bytes a b) i j ≡ slice_range bytes (a + i) (a + j)
range_range bytes a b i j h k l =
    let e1 : b - a ≡ i + (b - a - i) = omega arith in
    let e2 : drop i (take (b - a) (drop a bytes)) ≡ take (b - a - i) (drop i (drop a bytes)) = ap (λ n. drop i (take n (drop a bytes))) e1 ∙ drop-take i (b - a - i) (drop a bytes) in
    let e3 : take (j - i) (take (b - a - i) (drop i (drop a bytes))) ≡ take (j - i) (drop i (drop a bytes)) = take_take (j - i) (b - a - i) (drop i (drop a bytes)) (omega arith) in
    let e4 : drop i (drop a bytes) ≡ drop (a + i) bytes = grind (arith, common_steps) in
    let e5 : j - i ≡ a + j - (a + i) = omega arith in
    ap (take (j - i)) e2 ∙ e3 ∙ ap (take (j - i)) e4 ∙ ap (λ n. take n (drop (a + i) bytes)) e5

-- a part of a part, by places in the whole
pub inner_within : (bytes : List ℕ) (outer part whole : Span) → IsWithin (length bytes) outer → IsWithin (length (span_bytes bytes outer)) part → whole.start ≡ outer.start + part.start → whole.end ≡ outer.start + part.end → IsWithin (length bytes) whole
inner_within bytes outer part whole o p s e =
    let l = span_length bytes outer o in
    let o0 = o.0 in let o1 = o.1 in let p0 = p.0 in let p1 = p.1 in
    (omega (arith, s, e, p0), omega (arith, s, e, p1, l, o0, o1))

pub inner_bytes : (bytes : List ℕ) (outer part whole : Span) → IsWithin (length bytes) outer → IsWithin (length (span_bytes bytes outer)) part → whole.start ≡ outer.start + part.start → whole.end ≡ outer.start + part.end → span_bytes bytes whole ≡ span_bytes (span_bytes bytes outer) part
inner_bytes bytes outer part whole o p s e =
    let l = span_length bytes outer o in
    let p1 = p.1 in
    ap (λ x. slice_range bytes x whole.end) s ∙ ap (λ x. slice_range bytes (outer.start + part.start) x) e ∙ sym (range_range bytes outer.start outer.end part.start part.end p.0 (omega (arith, p1, l)) o.0)
