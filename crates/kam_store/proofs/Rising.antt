-- Lists of numbers that rise.
use Rattle.std.proofs.Common.{◌≡◌, ℕ, ◌+◌, ◌<◌, ◌≤◌, List, [], ◌∷◌, ◌++◌, length, take, get_or, Some, arith, zero, suc}
use Rattle.std.proofs.lemmas.Bool.{cases_lt}
use Rattle.std.proofs.Common.{⊎_elim, Result, Ok, Err, MatchResult, false}
use Rattle.std.proofs.lemmas.Option.{slice_get_within, get_or_from_slice_get}
use Rattle.std.specs.Option.{is_some}
use Rattle.std.specs.Result.{result_ok}
use Rattle.std.specs.Prelude.{slice_get}
use Rattle.kam_store.specs.Store.{RisesTo}

pub rises_le : (high low : ℕ) (ns : List ℕ) → RisesTo high low ns → low ≤ high
rises_le high low [] h = h
rises_le high low (n ∷ ns) h = let e = rises_le high n ns h.1 in let f : low < n = h.0 in omega arith

pub rises_length : (high low : ℕ) (ns : List ℕ) → RisesTo high low ns → low + length ns ≤ high
rises_length high low [] h = let e : low ≤ high = h in omega arith
rises_length high low (n ∷ ns) h = let e = rises_length high n ns h.1 in let f : low < n = h.0 in omega arith

-- what stands in the list is above the one bound and not above the other
pub rises_found : (high low : ℕ) (ns : List ℕ) (k s : ℕ) → RisesTo high low ns → slice_get ns k ≡ Some s → (low < s) × (s ≤ high)
rises_found high low [] k s h e = absurd (cc)
rises_found high low (n ∷ ns) zero s h e =
    let f : n ≡ s = cc in let g = rises_le high n ns h.1 in let l : low < n = h.0 in (omega arith, omega arith)
rises_found high low (n ∷ ns) (suc k) s h e =
    let f = rises_found high n ns k s h.1 e in let l : low < n = h.0 in let a : n < s = f.0 in let b : s ≤ high = f.1 in (omega arith, b)

pub rises_take : (high low : ℕ) (ns : List ℕ) (m : ℕ) → RisesTo high low ns → RisesTo high low (take m ns)
rises_take high low ns zero h = rises_le high low ns h
rises_take high low [] (suc m) h = h
rises_take high low (n ∷ ns) (suc m) h = (h.0, rises_take high n ns m h.1)

pub rises_push : (high low : ℕ) (ns : List ℕ) → RisesTo high low ns → RisesTo (high + 1) low (ns ++ (high + 1) ∷ [])
rises_push high low [] h = let e : low ≤ high = h in (omega arith, omega arith)
rises_push high low (n ∷ ns) h = (h.0, rises_push high n ns h.1)

pub rises_above : (high low : ℕ) (ns : List ℕ) (k : ℕ) → RisesTo high low ns → k < length ns → low < get_or ns k 0
rises_above high low [] k h l = absurd (omega arith)
rises_above high low (n ∷ ns) zero h l = h.0
rises_above high low (n ∷ ns) (suc k) h l = let e = rises_above high n ns k h.1 (omega arith) in let f : low < n = h.0 in omega arith

pub rises_ordered : (high low : ℕ) (ns : List ℕ) (i j : ℕ) → RisesTo high low ns → i ≤ j → j < length ns → get_or ns i 0 ≤ get_or ns j 0
rises_ordered high low [] i j h a b = absurd (omega arith)
rises_ordered high low (n ∷ ns) zero zero h a b = omega arith
rises_ordered high low (n ∷ ns) zero (suc j) h a b = let e = rises_above high n ns j h.1 (omega arith) in omega arith
rises_ordered high low (n ∷ ns) (suc i) zero h a b = absurd (omega arith)
rises_ordered high low (n ∷ ns) (suc i) (suc j) h a b = rises_ordered high n ns i j h.1 (omega arith) (omega arith)

-- a search that found no place says that there is none
pub absent_from_search : (ns : List ℕ) (x : ℕ) (r : Result ℕ ℕ) → MatchResult r (λ i. (i < length ns) × (get_or ns i 0 ≡ x)) (λ i. (i ≤ length ns) × ((k : ℕ) → k < i → get_or ns k 0 < x) × ((k : ℕ) → i ≤ k → k < length ns → x < get_or ns k 0)) → is_some (result_ok r) ≡ false → (k : ℕ) → slice_get ns k ≡ Some x → ⊥
absent_from_search ns x (Ok i) h n k e = cc
absent_from_search ns x (Err i) h n k e =
    let inside : k < length ns = slice_get_within ns k x e in
    let is : get_or ns k 0 ≡ x = get_or_from_slice_get ns k x 0 e in
    let low : k < i → get_or ns k 0 < x = h.1 k in
    let high : i ≤ k → k < length ns → x < get_or ns k 0 = h.2 k in
    ⊎_elim (λ l. let a = low l in omega arith) (λ l. let a = high l inside in omega arith) (cases_lt k i)
