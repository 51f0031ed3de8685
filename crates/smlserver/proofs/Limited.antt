-- What a reader of at most so many bytes gives.
use Rattle.std.proofs.Common.{◌≡◌, ◌<◌, ℕ, List, [], ◌++◌, length, take, Option, Some, None, IfSome, ap, ◌∙◌, arith}
use Rattle.std.proofs.lemmas.Grind.{common_steps}
use Rattle.std.specs.Option.{option_map}

-- it is all that there was, where it is less than that
pub whole_below : (limit : ℕ) (given known : Option (List ℕ)) (before bytes text : List ℕ) → text ≡ bytes → given ≡ known → before ≡ [] → length bytes < limit → IfSome (option_map (take limit) given) (λ xs. bytes ≡ before ++ xs) → IfSome known (λ xs. text ≡ xs)
whole_below limit given None before bytes text is same empty below e = record {}
whole_below limit None (Some xs) before bytes text is same empty below e = absurd (cc)
whole_below limit (Some ys) (Some xs) before bytes text is same empty below e =
    let short : bytes ≡ take limit ys = e ∙ ap (λ b. b ++ take limit ys) empty in
    let front : length (take limit ys) ≡ length bytes = cc in
    let all : take limit ys ≡ ys = grind (arith, common_steps) in
    cc
