-- Names of which none stands twice.
use Rattle.std.proofs.Common.{◌≡◌, ◌⊎◌, inl, inr, ◌<◌, ◌≤◌, ◌+◌, ◌==◌, ℕ, List, [], length, Bool, true, false, Some, slice_get, get_or, refl, ap, sym, ◌∙◌, subst, arith}
use Rattle.std.proofs.lemmas.Bool.{cases_lt}
use Rattle.std.proofs.lemmas.Bool.Decides.{nat_tests}
use Rattle.std.proofs.lemmas.Option.{slice_get-get_or, slice_get_within}
use Rattle.history_check.specs.Given.{AllDiffer}

-- up to a place, none stands before itself
abbrev pub NoneBefore : List (List ℕ) → ℕ → Type 0
NoneBefore names at = (i j : ℕ) → i < at → j < i → slice_get names j ≡ slice_get names i → ⊥

pub none_more : (names : List (List ℕ)) (at : ℕ) → NoneBefore names at → ((j : ℕ) → j < at → slice_get names j ≡ slice_get names at → ⊥) → NoneBefore names (at + 1)
none_more names at old here i j h less e = by (i == at) refl
  where
    by : (b : Bool) → (i == at) ≡ b → ⊥
    by true q =
        let same : i ≡ at = grind (arith, nat_tests) in
        here j (subst (λ k. j < k) same less) (e ∙ ap (slice_get names) same)
    by false q =
        let within : i < at = grind (arith, nat_tests) in
        old i j within less e

pub all_differ : (names : List (List ℕ)) (n : ℕ) → length names ≤ n → NoneBefore names n → AllDiffer names
all_differ names n whole none i j name h g = by (cases_lt i j) (cases_lt j i)
  where
    i_in : i < length names
    i_in = slice_get_within names i name h

    j_in : j < length names
    j_in = slice_get_within names j name g

    by : (i < j) ⊎ (j ≤ i) → (j < i) ⊎ (i ≤ j) → i ≡ j
    by (inl less) q = absurd (none j i (omega (arith, j_in, whole)) less (h ∙ sym g))
    by (inr p) (inl less) = absurd (none i j (omega (arith, i_in, whole)) less (g ∙ sym h))
    by (inr p) (inr q) = omega (arith, p, q)

pub differ_not : (names : List (List ℕ)) (at j : ℕ) → at < length names → j < at → slice_get names j ≡ slice_get names at → AllDiffer names → ⊥
differ_not names at j h less e d =
    let s = slice_get-get_or names at [] h in
    let same = d at j (get_or names at []) s (e ∙ s) in
    omega (arith, same)
