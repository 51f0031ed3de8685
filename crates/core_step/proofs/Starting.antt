-- The holders at the start.
use Rattle.std.proofs.Common.{◌≡◌, ℕ, zero, suc, List, [], ◌∷◌, ◌++◌, length, map, Option, None, refl, ap}
use Rattle.history_check.specs.declared.tables.Tables.{Tables}
use Rattle.history_check.specs.Given.{databases_given}

abbrev pub nones : ℕ → List (Option ℕ)
nones zero = []
nones (suc n) = None ∷ nones n

pub push_none : (n : ℕ) → nones n ++ None ∷ [] ≡ nones (suc n)
push_none zero = refl
push_none (suc n) = ap (λ z. None ∷ z) (push_none n)

pub all_none : (names : List (List ℕ)) (lists : List (List Tables)) → length names ≡ length lists → map (λ d. None) (databases_given names lists) ≡ nones (length names)
all_none [] lists h = refl
all_none (n ∷ names) [] h = absurd cc
all_none (n ∷ names) (l ∷ lists) h = ap (λ z. None ∷ z) (all_none names lists cc)
