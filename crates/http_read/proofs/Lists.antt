-- The parts between commas, one by one.
use Rattle.std.proofs.Common.{◌≡◌, ℕ, ◌+◌, ◌≤◌, ◌<◌, inl, inr, Bool, true, false, ◌||◌, not, cond, List, [], ◌∷◌, length, take, drop, refl, sym, ap, ◌∙◌, arith}
use Rattle.std.specs.Prelude.{◌==◌}
use Rattle.std.specs.List.{list_any, slice_split, onto_first, position_or_len}
use Rattle.std.proofs.lemmas.Grind.{common_steps}
use Rattle.http_read.specs.Head.{is_close, lists_close}
use Rattle.http_read.proofs.Fronts.{le_or_gt}
use Rattle.std.proofs.lemmas.List.Splits.{slice_split_first}

last_part_at : (p : ℕ → Bool) (x : ℕ) (xs : List ℕ) (b : Bool) → p x ≡ b → (position_or_len p xs ≡ length xs → slice_split p xs ≡ xs ∷ []) → position_or_len p (x ∷ xs) ≡ length (x ∷ xs) → slice_split p (x ∷ xs) ≡ (x ∷ xs) ∷ []
last_part_at p x xs true h next e =
    let none : position_or_len p (x ∷ xs) ≡ 0 = ap (λ b. cond (not b) (1 + position_or_len p xs) 0) h in absurd (omega (arith, none, e))
last_part_at p x xs false h next e =
    let one : position_or_len p (x ∷ xs) ≡ 1 + position_or_len p xs = ap (λ b. cond (not b) (1 + position_or_len p xs) 0) h in
    let rest : position_or_len p xs ≡ length xs = omega (arith, one, e) in
    ap (λ b. cond b ([] ∷ slice_split p xs) (onto_first x (slice_split p xs))) h ∙ ap (onto_first x) (next rest)

-- where no separator is left, the whole is the last part
pub last_part : (p : ℕ → Bool) (xs : List ℕ) → position_or_len p xs ≡ length xs → slice_split p xs ≡ xs ∷ []
last_part p [] e = refl
last_part p (x ∷ xs) e = last_part_at p x xs (p x) refl (last_part p xs) e

-- the first part, and the parts of what follows
pub first_part : (p : ℕ → Bool) (xs : List ℕ) → position_or_len p xs < length xs → slice_split p xs ≡ take (position_or_len p xs) xs ∷ slice_split p (drop (position_or_len p xs + 1) xs)
first_part p xs h = slice_split_first p xs 0 h

-- `close` between commas

pub close_here : (rest : List ℕ) (end : ℕ) → end ≡ position_or_len (λ b. b == 44) rest → end ≤ length rest → is_close (take end rest) ≡ true → lists_close rest ≡ true
close_here rest end e within h = elim (le_or_gt (length rest) end) [
  | inl low ↦
      let last : position_or_len (λ b. b == 44) rest ≡ length rest = omega (arith, e, within, low) in
      let whole : take end rest ≡ rest = grind (arith, common_steps) in
      ap (list_any is_close) (last_part (λ b. b == 44) rest last) ∙ ap (λ b. b || false) (sym (ap is_close whole) ∙ h)
  | inr high ↦
      let first : position_or_len (λ b. b == 44) rest < length rest = omega (arith, e, high) in
      let same : take end rest ≡ take (position_or_len (λ b. b == 44) rest) rest = ap (λ n. take n rest) e in
      ap (list_any is_close) (first_part (λ b. b == 44) rest first) ∙ ap (λ b. b || list_any is_close (slice_split (λ c. c == 44) (drop (position_or_len (λ b. b == 44) rest + 1) rest))) (sym (ap is_close same) ∙ h)
]

pub close_nowhere : (rest : List ℕ) (end : ℕ) → end ≡ position_or_len (λ b. b == 44) rest → end ≡ length rest → is_close (take end rest) ≡ false → lists_close rest ≡ false
close_nowhere rest end e at h =
    let last : position_or_len (λ b. b == 44) rest ≡ length rest = sym e ∙ at in
    let whole : take end rest ≡ rest = grind (arith, common_steps) in
    ap (list_any is_close) (last_part (λ b. b == 44) rest last) ∙ ap (λ b. b || false) (sym (ap is_close whole) ∙ h)

pub close_later : (rest : List ℕ) (end : ℕ) → end ≡ position_or_len (λ b. b == 44) rest → end < length rest → is_close (take end rest) ≡ false → lists_close (drop (end + 1) rest) ≡ lists_close rest
close_later rest end e at h =
    let first : position_or_len (λ b. b == 44) rest < length rest = omega (arith, e, at) in
    let same : take end rest ≡ take (position_or_len (λ b. b == 44) rest) rest = ap (λ n. take n rest) e in
    ap (λ n. lists_close (drop (n + 1) rest)) e
    ∙ sym (ap (list_any is_close) (first_part (λ b. b == 44) rest first) ∙ ap (λ b. b || list_any is_close (slice_split (λ c. c == 44) (drop (position_or_len (λ b. b == 44) rest + 1) rest))) (sym (ap is_close same) ∙ h))
