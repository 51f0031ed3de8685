-- Numbers and their bytes.
use Rattle.std.proofs.Common.{◌≡◌, ℕ, zero, suc, ℤ, ◌+◌, ◌*◌, ◌/◌, ◌%◌, ◌-◌, ◌^◌, ◌<◌, ◌≤◌, ◌⊎◌, List, [], ◌∷◌, ◌++◌, length, take, drop, slice_index_or, Bool, true, false, refl, sym, ap, subst, ◌∙◌, append_assoc, inl, inr, arith}
use Rattle.std.specs.Prelude.{nat_lt, ◌==◌, ◌&&◌, ◌||◌, not}
use Rattle.std.proofs.lemmas.Bool.{cases_lt, lt-ltb, le-ltb, ltb-true, ltb-false, eqb-true, not-false, not-true, and_parts}
use lib.IntN.{pos, negsuc}
use Rattle.sml_syntax.proofs.Lists.{cons_parts}
use Rattle.web_data.specs.Pickles.{zigzag, number_within}
use Rattle.value_pickle.specs.declared.refusal.Halt.{Halt}
use Rattle.value_pickle.specs.declared.refusal.Halt.TheVariants as halt
use Rattle.value_pickle.specs.Halting.{Stops, Halts, ReadsNumber, IsNumber, limit, may_stand}
use Rattle.value_pickle.proofs.Slices.{first_and_rest}
use Rattle.value_pickle.proofs.Stopping.{stops_at_once, stops_behind}

-- a number in one byte, and one with more
pub last_digit : (more n : ℕ) → n < 128 → number_within (suc more) n ≡ n ∷ []
last_digit more n h = rw (lt-ltb n 128 h) refl

pub more_digits : (more n : ℕ) → 128 ≤ n → number_within (suc more) n ≡ (128 + n % 128) ∷ number_within more (n / 128)
more_digits more n h = rw (le-ltb n 128 h) refl

-- no spelling of a number begins another
pub one_number : (more m n : ℕ) (u v : List ℕ) → number_within more m ++ u ≡ number_within more n ++ v → (m ≡ n) × (u ≡ v)
one_number zero m n u v e = cons_parts m n u v e
one_number (suc more) m n u v e =
    elim (cases_lt m 128) [
      | inl a ↦ elim (cases_lt n 128) [
        | inl b ↦ cons_parts m n u v (sym (ap (λ z. z ++ u) (last_digit more m a)) ∙ e ∙ ap (λ z. z ++ v) (last_digit more n b))
        | inr b ↦ absurd (omega (arith, a, (cons_parts m (128 + n % 128) u (number_within more (n / 128) ++ v) (sym (ap (λ z. z ++ u) (last_digit more m a)) ∙ e ∙ ap (λ z. z ++ v) (more_digits more n b))).0))
      ]
      | inr a ↦ elim (cases_lt n 128) [
        | inl b ↦ absurd (omega (arith, b, (cons_parts (128 + m % 128) n (number_within more (m / 128) ++ u) v (sym (ap (λ z. z ++ u) (more_digits more m a)) ∙ e ∙ ap (λ z. z ++ v) (last_digit more n b))).0))
        | inr b ↦
            let p = cons_parts (128 + m % 128) (128 + n % 128) (number_within more (m / 128) ++ u) (number_within more (n / 128) ++ v) (sym (ap (λ z. z ++ u) (more_digits more m a)) ∙ e ∙ ap (λ z. z ++ v) (more_digits more n b))
            in let q = one_number more (m / 128) (n / 128) u v p.1
            in (omega (arith, p.0, q.0), q.1)
      ]
    ]

pub one_integer : (m n : ℤ) → zigzag m ≡ zigzag n → m ≡ n
one_integer (pos m) (pos n) e = ap pos (omega (arith, e))
one_integer (pos m) (negsuc n) e = absurd (omega (arith, e))
one_integer (negsuc m) (pos n) e = absurd (omega (arith, e))
one_integer (negsuc m) (negsuc n) e = ap negsuc (omega (arith, e))

-- the first byte of a number
first_byte : (more n b : ℕ) (rest : List ℕ) → b ∷ rest ≡ number_within more n → (b ≡ n) ⊎ ((128 ≤ b) × (0 < more))
first_byte zero n b rest e = inl (cons_parts b n rest [] e).0
first_byte (suc more) n b rest e =
    elim (cases_lt n 128) [
      | inl below ↦ inl (cons_parts b n rest [] (e ∙ last_digit more n below)).0
      | inr above ↦ let p = cons_parts b (128 + n % 128) rest (number_within more (n / 128)) (e ∙ more_digits more n above) in inr (omega (arith, p.0), omega arith)
    ]

either_false : (a b : Bool) → (a && b) ≡ false → (a ≡ false) ⊎ (b ≡ false)
either_false true b h = inr h
either_false false b h = inl refl

both_false : (a b : Bool) → (a || b) ≡ false → (a ≡ false) × (b ≡ false)
both_false true b h = absurd cc
both_false false b h = (refl, h)

other_true : (a b : Bool) → (a || b) ≡ true → a ≡ false → b ≡ true
other_true true b h e = absurd cc
other_true false b h e = h

may_not : (more : ℕ) (first : Bool) (b : ℕ) → may_stand more first b ≡ false → ((first ≡ false) × (b ≡ 0)) ⊎ ((more ≡ 0) × (2 ≤ b))
may_not more first b h =
    elim (either_false (first || not (b == 0)) (nat_lt 0 more || nat_lt b 2) h) [
      | inl e ↦ let p = both_false first (not (b == 0)) e in inl (p.0, eqb-true b 0 (not-false (b == 0) p.1))
      | inr e ↦ let p = both_false (nat_lt 0 more) (nat_lt b 2) e in inr (omega (arith, ltb-false 0 more p.0), ltb-false b 2 p.1)
    ]

pub above_0 : (b : ℕ) → (b == 0) ≡ false → 0 < b
above_0 zero h = absurd cc
above_0 (suc b) h = omega arith

pub may : (more : ℕ) (first : Bool) (b : ℕ) → may_stand more first b ≡ true → (first ≡ false → 0 < b) × (more ≡ 0 → b < 2)
may more first b h =
    let p = and_parts (first || not (b == 0)) (nat_lt 0 more || nat_lt b 2) h
    in (λ e. above_0 b (not-true (b == 0) (other_true first (not (b == 0)) p.0 e)), λ e. ltb-true b 2 (other_true (nat_lt 0 more) (nat_lt b 2) p.1 (le-ltb 0 more (omega (arith, e)))))

-- the least number of a spelling that isn't 0
one_is_below : (more : ℕ) → 1 < limit more
one_is_below zero = omega arith
one_is_below (suc more) = omega (arith, one_is_below more)

one_byte : (more n : ℕ) → n < 128 → number_within more n ≡ n ∷ []
one_byte zero n h = refl
one_byte (suc more) n h = last_digit more n h

limit_grows : (k more : ℕ) → k + more ≡ 9 → limit more ≤ limit 9
limit_grows zero more e =
    let nine : more ≡ 9 = omega (arith, e)
    in subst (λ n. limit n ≤ limit 9) (sym nine) (omega arith)
limit_grows (suc k) more e = omega (arith, limit_grows k (suc more) (omega (arith, e)))

pub limit_within : (more : ℕ) → more ≤ 9 → limit more ≤ 2 ^ 64
limit_within more h = limit_grows (9 - more) more (omega (arith, h))

-- no number begins with this byte
never_first : (more : ℕ) (first : Bool) (b : ℕ) (rest : List ℕ) → may_stand more first b ≡ false → IsNumber more first (b ∷ rest) → ⊥
never_first more first b rest wrong (n, below, shortest, e) =
    elim (first_byte more n b rest e) [
      | inl same ↦ elim (may_not more first b wrong) [
        | inl zero_there ↦ omega (arith, same, zero_there.1, shortest zero_there.0)
        | inr too_much ↦ omega (arith, same, too_much.1, subst (λ m. n < limit m) too_much.0 below)
      ]
      | inr high ↦ elim (may_not more first b wrong) [
        | inl zero_there ↦ omega (arith, zero_there.1, high.0)
        | inr too_much ↦ omega (arith, too_much.0, high.1)
      ]
    ]

pub stops_at_byte : (more : ℕ) (first : Bool) (b : ℕ) (rest : List ℕ) → may_stand more first b ≡ false → Stops (IsNumber more first) (b ∷ rest) (length (b ∷ rest))
stops_at_byte more first b rest wrong =
    stops_at_once (IsNumber more first) (b ∷ rest) (1 ∷ []) (1, one_is_below more, λ h. omega arith, sym (one_byte more 1 (omega arith))) (omega arith)
    (λ c tail others same word. never_first more first c others (subst (λ z. may_stand more first z ≡ false) (cons_parts b c rest tail same).0 wrong) word)

pub stops_empty : (more : ℕ) (first : Bool) → Stops (IsNumber more first) [] 0
stops_empty more first =
    stops_at_once (IsNumber more first) [] (1 ∷ []) (1, one_is_below more, λ h. omega arith, sym (one_byte more 1 (omega arith))) (omega arith)
    (λ c tail others same word. absurd cc)

within_limit : (more : ℕ) (b : ℕ) → (more ≡ 0 → b < 2) → b < 128 → b < limit more
within_limit zero b h below = h refl
within_limit (suc more) b h below = omega (arith, one_is_below more)

pub reads_last : (more : ℕ) (first : Bool) (b : ℕ) (rest : List ℕ) → may_stand more first b ≡ true → b < 128 → ReadsNumber more first (b ∷ rest) b rest
reads_last more first b rest h below = record {
  below = within_limit more b (may more first b h).1 below;
  shortest = (may more first b h).0;
  parts = ap (λ z. z ++ rest) (sym (one_byte more b below));
}

-- the number of its low seven bits and the others
with_high : (more b high : ℕ) → 128 ≤ b → b < 256 → 0 < high → number_within (suc more) (b - 128 + 128 * high) ≡ b ∷ number_within more high
with_high more b high h byte some =
    let n = b - 128 + 128 * high
    in let low : 128 + n % 128 ≡ b = omega (arith, h, byte)
    in let rest : n / 128 ≡ high = omega (arith, h, byte)
    in more_digits more n (omega (arith, h, some)) ∙ ap (λ z. z ∷ number_within more (n / 128)) low ∙ ap (λ z. b ∷ number_within more z) rest

pub reads_more : (more : ℕ) (first : Bool) (b : ℕ) (bytes rest : List ℕ) (high : ℕ) → 128 ≤ b → b < 256 → ReadsNumber more false bytes high rest → ReadsNumber (suc more) first (b ∷ bytes) (b - 128 + 128 * high) rest
reads_more more first b bytes rest high h byte reads = record {
  below = omega (arith, h, byte, reads.below);
  shortest = λ e. omega (arith, reads.shortest refl);
  parts = ap (λ z. b ∷ z) reads.parts ∙ ap (λ z. z ++ rest) (sym (with_high more b high h byte (reads.shortest refl)));
}

-- a number that begins with such a byte, without it
without_first : (more : ℕ) (first : Bool) (b : ℕ) (bytes : List ℕ) → 128 ≤ b → IsNumber (suc more) first (b ∷ bytes) → IsNumber more false bytes
without_first more first b bytes h (n, below, shortest, e) =
    elim (cases_lt n 128) [
      | inl low ↦ absurd (omega (arith, h, low, (cons_parts b n bytes [] (e ∙ last_digit more n low)).0))
      | inr high ↦ (n / 128, omega (arith, below), λ f. omega (arith, high), (cons_parts b (128 + n % 128) bytes (number_within more (n / 128)) (e ∙ more_digits more n high)).1)
    ]

with_first : (more : ℕ) (first : Bool) (b : ℕ) (bytes : List ℕ) → 128 ≤ b → b < 256 → IsNumber more false bytes → IsNumber (suc more) first (b ∷ bytes)
with_first more first b bytes h byte (high, below, shortest, e) =
    (b - 128 + 128 * high, omega (arith, h, byte, below), λ f. omega (arith, shortest refl), ap (λ z. b ∷ z) e ∙ sym (with_high more b high h byte (shortest refl)))

pub stops_more : (more : ℕ) (first : Bool) (b : ℕ) (bytes : List ℕ) (left : ℕ) → 128 ≤ b → b < 256 → Stops (IsNumber more false) bytes left → Stops (IsNumber (suc more) first) (b ∷ bytes) left
stops_more more first b bytes left h byte stop =
    stops_behind (IsNumber more false) (IsNumber (suc more) first) (b ∷ []) bytes left (λ w. without_first more first b w h) (λ w. with_first more first b w h byte) stop

-- ---- the same, at a slice

pub stops_at_slice : (more : ℕ) (first : Bool) (bytes : List ℕ) → 1 ≤ length bytes → may_stand more first (slice_index_or bytes 0 0) ≡ false → Stops (IsNumber more first) bytes (length bytes)
stops_at_slice more first [] h wrong = absurd (omega (arith, h))
stops_at_slice more first (b ∷ bytes) h wrong = stops_at_byte more first b bytes wrong

-- behind the first byte
abbrev pub others : List ℕ → List ℕ
others bytes = take (length bytes - 1) (drop 1 bytes)

pub reads_last_slice : (more : ℕ) (first : Bool) (bytes : List ℕ) → 1 ≤ length bytes → may_stand more first (slice_index_or bytes 0 0) ≡ true → slice_index_or bytes 0 0 < 128
    → ReadsNumber more first bytes (slice_index_or bytes 0 0) (others bytes)
reads_last_slice more first bytes h fits below =
    subst (λ z. ReadsNumber more first z (slice_index_or bytes 0 0) (others bytes)) (sym (first_and_rest bytes h))
    (reads_last more first (slice_index_or bytes 0 0) (others bytes) fits below)

-- a digit follows
more_follow : (more : ℕ) (first : Bool) (b : ℕ) → may_stand more first b ≡ true → 128 ≤ b → more ≡ suc (more - 1)
more_follow more first b h above =
    elim (cases_lt 0 more) [
      | inl some ↦ omega (arith, some)
      | inr zero_there ↦ absurd (omega (arith, above, (may more first b h).1 (omega (arith, zero_there))))
    ]

pub halts_more : (more : ℕ) (first : Bool) (bytes : List ℕ) (e : Halt) → 1 ≤ length bytes → may_stand more first (slice_index_or bytes 0 0) ≡ true → 128 ≤ slice_index_or bytes 0 0 → slice_index_or bytes 0 0 < 256
    → Halts (IsNumber (more - 1) false) (others bytes) e → Halts (IsNumber more first) bytes e
halts_more more first bytes (halt.Left left) h fits above byte stop =
    subst (λ z. Stops (IsNumber more first) z left) (sym (first_and_rest bytes h))
    (subst (λ m. Stops (IsNumber m first) (slice_index_or bytes 0 0 ∷ others bytes) left) (sym (more_follow more first (slice_index_or bytes 0 0) fits above))
    (stops_more (more - 1) first (slice_index_or bytes 0 0) (others bytes) left above byte stop))
halts_more more first bytes halt.NoMemory h fits above byte stop = tt

pub reads_more_slice : (more : ℕ) (first : Bool) (bytes rest : List ℕ) (high : ℕ) → 1 ≤ length bytes → may_stand more first (slice_index_or bytes 0 0) ≡ true → 128 ≤ slice_index_or bytes 0 0 → slice_index_or bytes 0 0 < 256
    → ReadsNumber (more - 1) false (others bytes) high rest → ReadsNumber more first bytes (slice_index_or bytes 0 0 - 128 + 128 * high) rest
reads_more_slice more first bytes rest high h fits above byte reads =
    subst (λ z. ReadsNumber more first z (slice_index_or bytes 0 0 - 128 + 128 * high) rest) (sym (first_and_rest bytes h))
    (subst (λ m. ReadsNumber m first (slice_index_or bytes 0 0 ∷ others bytes) (slice_index_or bytes 0 0 - 128 + 128 * high) rest) (sym (more_follow more first (slice_index_or bytes 0 0) fits above))
    (reads_more (more - 1) first (slice_index_or bytes 0 0) (others bytes) rest high above byte reads))

-- ---- writing

-- the bytes so far, and the number that is left to write, in at most `suc more` bytes
pub record Writes (before now : List ℕ) (number left : ℕ) : Type 0 where
  pub most : ℕ
  pub most_is : most ≡ 9
  pub more : ℕ
  pub below : left < limit more
  pub parts : before ++ number_within most number ≡ now ++ number_within more left

pub writes_all : (before : List ℕ) (number : ℕ) → number < 2 ^ 64 → Writes before before number number
writes_all before number h = record { most = 9; most_is = refl; more = 9; below = h; parts = refl }

writes_more : (before now : List ℕ) (number left most more : ℕ) → most ≡ 9 → left < limit more → 128 ≤ left → before ++ number_within most number ≡ now ++ number_within more left
    → Writes before (now ++ (128 + left % 128) ∷ []) number (left / 128)
writes_more before now number left most zero nine below h e = absurd (omega (arith, below, h))
writes_more before now number left most (suc more) nine below h e = record {
  most = most;
  most_is = nine;
  more = more;
  below = omega (arith, below);
  parts = e ∙ ap (λ z. now ++ z) (more_digits more left h) ∙ sym (append_assoc now ((128 + left % 128) ∷ []) (number_within more (left / 128)));
}

pub writes_digit : (before now : List ℕ) (number left : ℕ) → Writes before now number left → 128 ≤ left → Writes before (now ++ (128 + left % 128) ∷ []) number (left / 128)
writes_digit before now number left writes h = writes_more before now number left writes.most writes.more writes.most_is writes.below h writes.parts

pub writes_end : (before now : List ℕ) (number left : ℕ) → Writes before now number left → left < 128 → now ++ left ∷ [] ≡ before ++ number_within 9 number
writes_end before now number left writes h =
    ap (λ z. now ++ z) (sym (one_byte writes.more left h)) ∙ sym writes.parts ∙ ap (λ z. before ++ number_within z number) writes.most_is
