-- What is told grows piece by piece.
use Rattle.std.proofs.Common.{◌≡◌, ℕ, ◌+◌, ◌-◌, List, ◌++◌, length, take, drop, Option, Some, None, refl, ap, sym, ◌∙◌, append_assoc, arith}
use Rattle.std.proofs.Math.Seq.{take-add}
use Rattle.std.proofs.lemmas.Grind.{common_steps}
use Rattle.std.proofs.lemmas.List.{take-append-drop}
use Rattle.outside_world.specs.Told.{grown}

-- to grow twice is to grow by both
grown-grown : (told : Option (List ℕ)) (a b : List ℕ) → grown (grown told a) b ≡ grown told (a ++ b)
grown-grown None a b = refl
grown-grown (Some held) a b = ap Some (append_assoc held a b)

-- the piece from a place on is all that is left there
pub rest_of : (bytes : List ℕ) (at : ℕ) → take (length bytes - at) (drop at bytes) ≡ drop at bytes
rest_of bytes at = grind (arith, common_steps)

-- a front that was written, and a front of the rest, are a longer front
pub grown_more : (old mid new : Option (List ℕ)) (bytes : List ℕ) (at took : ℕ) → mid ≡ grown old (take at bytes) → new ≡ grown mid (take took (take (length bytes - at) (drop at bytes))) → new ≡ grown old (take (at + took) bytes)
grown_more old mid new bytes at took e f =
    f ∙ ap (λ m. grown m (take took (take (length bytes - at) (drop at bytes)))) e ∙ ap (λ p. grown (grown old (take at bytes)) (take took p)) (rest_of bytes at) ∙ grown-grown old (take at bytes) (take took (drop at bytes)) ∙ ap (grown old) (sym (take-add at took bytes))

-- what a read gave stands at the end of what was given before
pub given_more : (bytes piece : List ℕ) (at n : ℕ) → take n piece ≡ take n (take (length bytes - at) (drop at bytes)) → take (at + n) bytes ≡ take at bytes ++ take n piece
given_more bytes piece at n e =
    take-add at n bytes ∙ ap (λ p. take at bytes ++ take n p) (sym (rest_of bytes at)) ∙ ap (λ p. take at bytes ++ p) (sym e)

-- what a read gave stood at the front of what was left
pub left_less : (bytes piece : List ℕ) (at n : ℕ) → take n piece ≡ take n (take (length bytes - at) (drop at bytes)) → drop at bytes ≡ take n piece ++ drop (at + n) bytes
left_less bytes piece at n e =
    let behind : drop n (drop at bytes) ≡ drop (at + n) bytes = grind (arith, common_steps) in
    sym (take-append-drop n (drop at bytes)) ∙ ap (λ p. take n p ++ drop n (drop at bytes)) (sym (rest_of bytes at)) ∙ ap (λ p. p ++ drop n (drop at bytes)) (sym e) ∙ ap (λ p. take n piece ++ p) behind
