-- The first item of a slice, and the others.
use Rattle.std.proofs.Common.{◌≡◌, ℕ, ◌-◌, ◌≤◌, List, [], ◌∷◌, length, take, drop, slice_index_or, sym, ap, arith}
use Rattle.std.proofs.lemmas.List.{take_all}

pub first_and_rest : (bytes : List ℕ) → 1 ≤ length bytes → bytes ≡ slice_index_or bytes 0 0 ∷ take (length bytes - 1) (drop 1 bytes)
first_and_rest [] h = absurd (omega (arith, h))
first_and_rest (b ∷ bytes) h = ap (λ z. b ∷ z) (sym (take_all (length (b ∷ bytes) - 1) bytes (omega arith)))
