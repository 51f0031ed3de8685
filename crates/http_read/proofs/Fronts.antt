-- What stands at the front of bytes stays there as bytes are added behind.
use Rattle.std.proofs.Common.{◌≡◌, ℕ, zero, suc, ◌+◌, ◌-◌, ◌≤◌, ◌<◌, ◌⊎◌, inl, inr, List, ◌++◌, length, take, drop, refl, sym, ap, ◌∙◌, subst, arith, length-append, length-drop}
use Rattle.std.proofs.lemmas.Grind.{common_steps}
use Rattle.std.specs.Prelude.{slice_index}
use Rattle.std.proofs.Math.ListN.{get_or-append}
use Rattle.std.proofs.lemmas.List.{take-append-le, drop-append-le}
use Rattle.std.proofs.lemmas.List.Sums.{sum_by-append, sum_by-take-le}
use Rattle.httparse.specs.Grammar.{RequestHead}
use Rattle.http_read.specs.Head.{request_of}
use Rattle.http_read.specs.Messages.{Front, Held, Fault, Message, HasFront, HasHead, IsHead, ReadsHead, IsTooLong, ends_at, lines, most_lines}

pub le_or_gt : (a b : ℕ) → (a ≤ b) ⊎ (b < a)
le_or_gt zero b = inl (omega arith)
le_or_gt (suc a) zero = inr (omega arith)
le_or_gt (suc a) (suc b) = elim (le_or_gt a b) [ inl h ↦ inl (omega arith) | inr h ↦ inr (omega arith) ]

-- bytes behind a place don't change what stands before it
pub ends_at_append : (bytes more : List ℕ) (k : ℕ) → k ≤ length bytes → ends_at (bytes ++ more) k ≡ ends_at bytes k
unfolding ends_at
ends_at_append bytes more zero h = refl
ends_at_append bytes more (suc k) h =
    let same : (i : ℕ) → i < suc k → slice_index (bytes ++ more) i ≡ slice_index bytes i = λ i below. get_or-append bytes more 0 i (omega arith) in
    let a = same (suc k - 4) (omega arith) in
    let b = same (suc k - 3) (omega arith) in
    let c = same (suc k - 2) (omega arith) in
    let d = same (suc k - 1) (omega arith) in
    cc (a, b, c, d)

-- a front has no more LF than the whole
pub lines_take : (bytes : List ℕ) (k : ℕ) → lines (take k bytes) ≤ lines bytes
lines_take bytes k = sum_by-take-le _ bytes k

pub lines_append : (bytes more : List ℕ) → lines bytes ≤ lines (bytes ++ more)
lines_append bytes more =
    let e : lines (bytes ++ more) ≡ lines bytes + lines more = sum_by-append _ bytes more in omega (arith, e)

-- a longer front has no fewer LF
pub lines_longer : (bytes : List ℕ) (j k : ℕ) → j ≤ k → lines (take j bytes) ≤ lines (take k bytes)
lines_longer bytes j k h =
    let e : take j (take k bytes) ≡ take j bytes = grind (arith, common_steps) in
    subst (λ (x : List ℕ). lines x ≤ lines (take k bytes)) e (lines_take (take k bytes) j)

pub take_all_of : (bytes : List ℕ) → take (length bytes) bytes ≡ bytes
take_all_of bytes = grind (arith, common_steps)

-- a body that is whole stays
body_append : (bytes more : List ℕ) (k n : ℕ) → k + n ≤ length bytes → take n (drop k (bytes ++ more)) ≡ take n (drop k bytes)
body_append bytes more k n h =
    let e = drop-append-le k bytes more (omega arith) in
    let l = length-drop k bytes in
    ap (take n) e ∙ take-append-le n (drop k bytes) more (omega (arith, l, h))

-- a head stays as bytes come
pub has_head_append : (bytes more : List ℕ) (k : ℕ) → HasHead bytes k → HasHead (bytes ++ more) k
has_head_append bytes more k has = record {
  within = let e = length-append bytes more in let h = has.within in omega (arith, e, h);
  ends = ends_at_append bytes more k has.within ∙ has.ends;
  first = λ j below. ends_at_append bytes more j (let h = has.within in omega (arith, h, below)) ∙ has.first j below;
  short = has.short;
  few = subst (λ (x : List ℕ). lines x ≤ most_lines) (sym (take-append-le k bytes more has.within)) has.few;
}

-- and a head of the longer bytes that lies in the shorter ones is one of these
pub has_head_front : (bytes more : List ℕ) (k : ℕ) → k ≤ length bytes → HasHead (bytes ++ more) k → HasHead bytes k
has_head_front bytes more k within has = record {
  within = within;
  ends = sym (ends_at_append bytes more k within) ∙ has.ends;
  first = λ j below. sym (ends_at_append bytes more j (omega (arith, within, below))) ∙ has.first j below;
  short = has.short;
  few = subst (λ (x : List ℕ). lines x ≤ most_lines) (take-append-le k bytes more within) has.few;
}

pub reads_append : (bytes more : List ℕ) (k : ℕ) (head : RequestHead) → ReadsHead bytes k head → ReadsHead (bytes ++ more) k head
reads_append bytes more k head reads = record {
  has = has_head_append bytes more k reads.has;
  is = subst (λ (x : List ℕ). IsHead x head) (sym (take-append-le k bytes more reads.has.within)) reads.is;
}

too_long_append : (bytes more : List ℕ) → IsTooLong bytes → IsTooLong (bytes ++ more)
too_long_append bytes more too = record {
  no_head = λ k has. elim (le_or_gt k (length bytes)) [
    | inl within ↦ too.no_head k (has_head_front bytes more k within has)
    | inr past ↦ elim too.long [
      | inl long ↦ let s = has.short in absurd (omega (arith, long, past, s))
      | inr many ↦
          let e : take (length bytes) (bytes ++ more) ≡ bytes = take-append-le (length bytes) bytes more (omega arith) ∙ take_all_of bytes in
          let l : lines bytes ≤ lines (take k (bytes ++ more)) = subst (λ (x : List ℕ). lines x ≤ lines (take k (bytes ++ more))) e (lines_longer (bytes ++ more) (length bytes) k (omega (arith, past))) in
          let f = has.few in absurd (omega (arith, l, many, f))
    ]
  ];
  long = elim too.long [
    | inl long ↦ inl (let e = length-append bytes more in omega (arith, long, e))
    | inr many ↦ inr (let e = lines_append bytes more in omega (arith, many, e))
  ];
}

-- what no further byte changes
abbrev pub IsSettled : Front → Type 0
IsSettled Held = ⊥
IsSettled (Fault status) = Unit {0}
IsSettled (Message request size) = Unit {0}

-- a fault or a message stays as bytes come
pub front_append : (bytes more : List ℕ) (front : Front) → IsSettled front → HasFront bytes front → HasFront (bytes ++ more) front
front_append bytes more Held settled h = absurd settled
front_append bytes more (Fault status) settled h = elim h [
  | inl too ↦ inl (too_long_append bytes more too.0, too.1)
  | inr other ↦ inr (elim other [
    | inl bad ↦ inl ((bad.0.0, has_head_append bytes more bad.0.0 bad.0.1, λ head is. bad.0.2 head (subst (λ (x : List ℕ). IsHead x head) (take-append-le bad.0.0 bytes more bad.0.1.within) is)), bad.1)
    | inr refused ↦ inr (refused.0, refused.1, reads_append bytes more refused.0 refused.1 refused.2, refused.3)
  ])
]
front_append bytes more (Message request size) settled (k, head, n, m) = (
  k,
  head,
  n,
  record {
    reads = reads_append bytes more k head m.reads;
    takes = m.takes;
    whole = let e = length-append bytes more in let w = m.whole in omega (arith, e, w);
    size_is = m.size_is;
    request_is = m.request_is ∙ ap (request_of head) (sym (body_append bytes more k n (let e = m.size_is in let w = m.whole in omega (arith, e, w))));
  },
)
