-- How often a number stands in a list, and in what is left of one.
use Rattle.std.proofs.Common.{◌≡◌, ℕ, ◌+◌, ◌-◌, ◌<◌, ◌≤◌, List, [], ◌∷◌, ◌++◌, length, refl, ap, ◌∙◌, arith, zero, suc, add-zero, add-one}
use Rattle.std.proofs.lemmas.Bool.Decides.{nat_tests}
use mathlib.Core.Logic.{dite}
use native.Mathlib.Decide.{ℕ_discrete}
use Rattle.std.specs.List.{range_with_len}
use Rattle.page_pool.specs.Holding.{times}
use Rattle.page_pool.specs.Lone.{without, left_of}

pub times-append : (k : ℕ) (xs ys : List ℕ) → times k (xs ++ ys) ≡ times k xs + times k ys
times-append k [] ys = omega arith
times-append k (x ∷ xs) ys = let e = times-append k xs ys in omega arith

pub times-without : (k n : ℕ) (xs : List ℕ) → times k (without n xs) ≡ times k xs - times k (n ∷ [])
times-without k n [] = omega arith
times-without k n (x ∷ xs) = let e = times-without k n xs in grind (arith, nat_tests)

pub times-left_of : (k : ℕ) (xs ns : List ℕ) → times k (left_of xs ns) ≡ times k xs - times k ns
times-left_of k xs [] = omega arith
times-left_of k xs (n ∷ ns) = let e = times-left_of k (without n xs) ns in let f = times-without k n xs in omega arith

pub length-without : (n : ℕ) (xs : List ℕ) → 0 < times n xs → length (without n xs) + 1 ≡ length xs
length-without n [] h = omega arith
length-without n (x ∷ xs) h = let e = length-without n xs in grind (arith, nat_tests)

pub length-left_of : (xs ns : List ℕ) → ((k : ℕ) → times k ns ≤ times k xs) → length (left_of xs ns) + length ns ≡ length xs
length-left_of xs [] h = omega arith
length-left_of xs (n ∷ ns) h =
    let within : (k : ℕ) → times k ns ≤ times k (without n xs) = (λ k. let e = h k in let f = times-without k n xs in omega arith) in
    let there : 0 < times n xs = (let e = h n in grind (arith, nat_tests)) in
    omega (arith, length-left_of (without n xs) ns within, length-without n xs there)

pub left_of-push : (xs ns : List ℕ) (n : ℕ) → left_of xs (ns ++ n ∷ []) ≡ without n (left_of xs ns)
left_of-push xs [] n = refl
left_of-push xs (m ∷ ns) n = left_of-push (without m xs) ns n

pub length-range : (a n : ℕ) → length (range_with_len a n) ≡ n
length-range a zero = refl
length-range a (suc n) = ap suc (length-range (a + 1) n)

pub times-range-below : (k a n : ℕ) → k < a → times k (range_with_len a n) ≡ 0
times-range-below k a zero h = refl
times-range-below k a (suc n) h = let e = times-range-below k (a + 1) n in grind (arith, nat_tests)

pub times-range : (k a n : ℕ) → times k (range_with_len a n) ≤ 1
times-range k a zero = omega arith
times-range k a (suc n) = let e = times-range k (a + 1) n in let f = times-range-below k (a + 1) n in grind (arith, nat_tests)

pub times-le-length : (n : ℕ) (xs : List ℕ) → times n xs ≤ length xs
times-le-length n [] = omega arith
times-le-length n (x ∷ xs) = let e = times-le-length n xs in grind (arith, nat_tests)

pub range-suc : (a n : ℕ) → range_with_len a (suc n) ≡ range_with_len a n ++ (a + n) ∷ []
range-suc a zero = rw add-zero refl
range-suc a (suc n) = ap (λ xs. a ∷ xs) (range-suc (a + 1) n ∙ ap (λ m. range_with_len (a + 1) n ++ m ∷ []) (omega arith))

pub range-push : (a n : ℕ) → range_with_len a (n + 1) ≡ range_with_len a n ++ (a + n) ∷ []
range-push a n = rw add-one (range-suc a n)

-- a number that stands in a list stands there at least as often as by itself
pub times-one : (k n : ℕ) (ns : List ℕ) → 0 < times n ns → times k (n ∷ []) ≤ times k ns
times-one k n ns there = dite (ℕ_discrete k n)
    (λ e. let a : times k (n ∷ []) ≤ 1 = grind (arith, nat_tests) in let b = ap (λ (l : ℕ). times l ns) e in omega (arith, a, b, there))
    (λ ne. let a : times k (n ∷ []) ≡ 0 = grind (arith, nat_tests) in omega (arith, a))
