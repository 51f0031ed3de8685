-- The bytes of a number as LEB128.
use Rattle.std.proofs.Common.{◌≡◌, ℕ, zero, suc, ◌+◌, ◌*◌, ◌/◌, ◌%◌, ◌^◌, ◌<◌, ◌≤◌, List, [], ◌∷◌, length, ap, ◌∙◌, inl, inr, arith}
use Rattle.std.proofs.lemmas.Bool.{cases_lt}
use Rattle.web_data.specs.Pickles.{number_within, number_pickle}
use Rattle.value_pickle.specs.Halting.{limit}
use Rattle.value_pickle.specs.Leb128.{leb128_value}
use Rattle.value_pickle.proofs.Digits.{last_digit, more_digits}

value_within : (more n : ℕ) → n < limit more → leb128_value (number_within more n) ≡ n
value_within zero n below = omega (arith, below)
value_within (suc more) n below =
    elim (cases_lt n 128) [
      | inl low ↦ ap leb128_value (last_digit more n low) ∙ omega (arith, low)
      | inr high ↦
          let rest = value_within more (n / 128) (omega (arith, below))
          in ap leb128_value (more_digits more n high) ∙ ap (λ z. (128 + n % 128) % 128 + 128 * z) rest ∙ omega arith
    ]

-- no list of bytes that stands for a number is shorter than its spelling
abbrev IsShortest : ℕ → Type 0
IsShortest more = (n : ℕ) (bytes : List ℕ) → n < limit more → 0 < length bytes → leb128_value bytes ≡ n → length (number_within more n) ≤ length bytes

behind_digit : (more n b : ℕ) (bytes : List ℕ) → IsShortest more → n < limit (suc more) → 128 ≤ n → b % 128 + 128 * leb128_value bytes ≡ n → length (number_within (suc more) n) ≤ length (b ∷ bytes)
behind_digit more n b [] rest below high e = absurd (omega (arith, e, high))
behind_digit more n b (c ∷ others) rest below high e =
    omega (arith, ap length (more_digits more n high), rest (n / 128) (c ∷ others) (omega (arith, below)) (omega arith) (omega (arith, e)))

shortest_within : (more : ℕ) → IsShortest more
shortest_within zero n bytes below some e = omega (arith, some)
shortest_within (suc more) n [] below some e = absurd (omega (arith, some))
shortest_within (suc more) n (b ∷ bytes) below some e =
    elim (cases_lt n 128) [
      | inl low ↦ omega (arith, ap length (last_digit more n low))
      | inr high ↦ behind_digit more n b bytes (shortest_within more) below high e
    ]

pub value_of_number : (n : ℕ) → n < 2 ^ 64 → leb128_value (number_pickle n) ≡ n
value_of_number n below = value_within 9 n below

pub shortest_number : (n : ℕ) (bytes : List ℕ) → n < 2 ^ 64 → 0 < length bytes → leb128_value bytes ≡ n → length (number_pickle n) ≤ length bytes
shortest_number n bytes below some e = shortest_within 9 n bytes below some e

length_within : (more n : ℕ) → length (number_within more n) ≤ suc more
length_within zero n = omega arith
length_within (suc more) n =
    elim (cases_lt n 128) [
      | inl low ↦ omega (arith, ap length (last_digit more n low))
      | inr high ↦ omega (arith, ap length (more_digits more n high), length_within more (n / 128))
    ]

pub number_at_most : (n : ℕ) → length (number_pickle n) ≤ 10
number_at_most n = length_within 9 n
