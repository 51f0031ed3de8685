-- Live regions as serials beside lists of words.
use Rattle.std.proofs.Common.{◌≡◌, ℕ, ◌<◌, ◌≤◌, List, [], ◌∷◌, ◌++◌, length, take, set, get_or, Option, Some, None, refl, ap, ◌∙◌, arith, zero, suc}
use Rattle.std.proofs.lemmas.Bool.Decides.{nat_tests}
use Rattle.std.proofs.lemmas.Option.{slice_get_past}
use Rattle.std.specs.Prelude.{slice_get}
use Rattle.kam_store.specs.Store.{RisesTo, serials_of, words_at, word_in, length_at, changed}
use Rattle.kam_store.specs.Plain.{live_of}
use Rattle.kam_store.proofs.Rising.{rises_found}

pub length-live_of : (ns : List ℕ) (wss : List (List ℕ)) → length ns ≤ length wss → length (live_of ns wss) ≡ length ns
length-live_of [] wss h = refl
length-live_of (n ∷ ns) [] h = absurd (omega arith)
length-live_of (n ∷ ns) (ws ∷ wss) h = ap suc (length-live_of ns wss (omega arith))

pub serials_of-live_of : (ns : List ℕ) (wss : List (List ℕ)) → length ns ≤ length wss → serials_of (live_of ns wss) ≡ ns
serials_of-live_of [] wss h = refl
serials_of-live_of (n ∷ ns) [] h = absurd (omega arith)
serials_of-live_of (n ∷ ns) (ws ∷ wss) h = ap (λ ms. n ∷ ms) (serials_of-live_of ns wss (omega arith))

pub take-live_of : (k : ℕ) (ns : List ℕ) (wss : List (List ℕ)) → take k (live_of ns wss) ≡ live_of (take k ns) wss
take-live_of zero ns wss = refl
take-live_of (suc k) [] wss = refl
take-live_of (suc k) (n ∷ ns) [] = refl
take-live_of (suc k) (n ∷ ns) (ws ∷ wss) = ap (λ rs. record { serial = n; words = ws } ∷ rs) (take-live_of k ns wss)

-- only as many lists count as there are serials
pub live_of-take : (k : ℕ) (ns : List ℕ) (wss : List (List ℕ)) → live_of (take k ns) (take k wss) ≡ live_of (take k ns) wss
live_of-take zero ns wss = refl
live_of-take (suc k) [] wss = refl
live_of-take (suc k) (n ∷ ns) [] = refl
live_of-take (suc k) (n ∷ ns) (ws ∷ wss) = ap (λ rs. record { serial = n; words = ws } ∷ rs) (live_of-take k ns wss)

pub live_of-longer : (ns : List ℕ) (wss more : List (List ℕ)) → length ns ≤ length wss → live_of ns (wss ++ more) ≡ live_of ns wss
live_of-longer [] wss more h = refl
live_of-longer (n ∷ ns) [] more h = absurd (omega arith)
live_of-longer (n ∷ ns) (ws ∷ wss) more h = ap (λ rs. record { serial = n; words = ws } ∷ rs) (live_of-longer ns wss more (omega arith))

pub live_of-push : (ns : List ℕ) (n : ℕ) (wss : List (List ℕ)) → length ns < length wss → live_of (ns ++ n ∷ []) wss ≡ live_of ns wss ++ record { serial = n; words = get_or wss (length ns) [] } ∷ []
live_of-push [] n [] h = absurd (omega arith)
live_of-push [] n (ws ∷ wss) h = refl
live_of-push (m ∷ ns) n [] h = absurd (omega arith)
live_of-push (m ∷ ns) n (ws ∷ wss) h = ap (λ rs. record { serial = m; words = ws } ∷ rs) (live_of-push ns n wss (omega arith))

pub words_at-place : (high low : ℕ) (ns : List ℕ) (wss : List (List ℕ)) (k s : ℕ) → RisesTo high low ns → slice_get ns k ≡ Some s → k < length wss → words_at s (live_of ns wss) ≡ Some (get_or wss k [])
words_at-place high low [] wss k s h e l = absurd (cc)
words_at-place high low (n ∷ ns) [] k s h e l = absurd (omega arith)
words_at-place high low (n ∷ ns) (ws ∷ wss) zero s h e l = let f : n ≡ s = cc in grind (arith, nat_tests)
words_at-place high low (n ∷ ns) (ws ∷ wss) (suc k) s h e l =
    let above = rises_found high n ns k s h.1 e in
    let rest = words_at-place high n ns wss k s h.1 e (omega arith) in
    let a : n < s = above.0 in grind (arith, nat_tests)

pub length_at-place : (high low : ℕ) (ns : List ℕ) (wss : List (List ℕ)) (k s : ℕ) → RisesTo high low ns → slice_get ns k ≡ Some s → k < length wss → length_at s (live_of ns wss) ≡ length (get_or wss k [])
length_at-place high low [] wss k s h e l = absurd (cc)
length_at-place high low (n ∷ ns) [] k s h e l = absurd (omega arith)
length_at-place high low (n ∷ ns) (ws ∷ wss) zero s h e l = let f : n ≡ s = cc in grind (arith, nat_tests)
length_at-place high low (n ∷ ns) (ws ∷ wss) (suc k) s h e l =
    let above = rises_found high n ns k s h.1 e in
    let rest = length_at-place high n ns wss k s h.1 e (omega arith) in
    let a : n < s = above.0 in grind (arith, nat_tests)

pub changed-place : (high low : ℕ) (ns : List ℕ) (wss : List (List ℕ)) (k s : ℕ) (f : List ℕ → List ℕ) → RisesTo high low ns → slice_get ns k ≡ Some s → k < length wss → changed s f (live_of ns wss) ≡ live_of ns (set wss k (f (get_or wss k [])))
changed-place high low [] wss k s f h e l = absurd (cc)
changed-place high low (n ∷ ns) [] k s f h e l = absurd (omega arith)
changed-place high low (n ∷ ns) (ws ∷ wss) zero s f h e l = let g : n ≡ s = cc in grind (arith, nat_tests)
changed-place high low (n ∷ ns) (ws ∷ wss) (suc k) s f h e l =
    let above = rises_found high n ns k s h.1 e in
    let rest = changed-place high n ns wss k s f h.1 e (omega arith) in
    let a : n < s = above.0 in grind (arith, nat_tests)

pub words_at-absent : (ns : List ℕ) (wss : List (List ℕ)) (s : ℕ) → ((k : ℕ) → slice_get ns k ≡ Some s → ⊥) → words_at s (live_of ns wss) ≡ None
words_at-absent [] wss s h = refl
words_at-absent (n ∷ ns) [] s h = refl
words_at-absent (n ∷ ns) (ws ∷ wss) s h =
    let rest = words_at-absent ns wss s (λ k e. h (suc k) e) in
    let other : n ≡ s → ⊥ = (λ e. h 0 (ap Some e)) in grind (arith, nat_tests)

-- the word at a place of a live region
pub found_word : (high low : ℕ) (ns : List ℕ) (wss : List (List ℕ)) (k s i w : ℕ) → RisesTo high low ns → slice_get ns k ≡ Some s → k < length wss → slice_get (get_or wss k []) i ≡ Some w → word_in (words_at s (live_of ns wss)) i ≡ Some w
found_word high low ns wss k s i w h e l f = ap (λ o. word_in o i) (words_at-place high low ns wss k s h e l) ∙ f

-- none past its end
pub no_word : (high low : ℕ) (ns : List ℕ) (wss : List (List ℕ)) (k s i : ℕ) → RisesTo high low ns → slice_get ns k ≡ Some s → k < length wss → length (get_or wss k []) ≤ i → word_in (words_at s (live_of ns wss)) i ≡ None
no_word high low ns wss k s i h e l f = ap (λ o. word_in o i) (words_at-place high low ns wss k s h e l) ∙ slice_get_past (get_or wss k []) i f

-- and none where no region has the serial
pub absent_word : (ns : List ℕ) (wss : List (List ℕ)) (s i : ℕ) → ((k : ℕ) → slice_get ns k ≡ Some s → ⊥) → word_in (words_at s (live_of ns wss)) i ≡ None
absent_word ns wss s i h = ap (λ o. word_in o i) (words_at-absent ns wss s h)

-- a value isn't none
pub not_none : {X : Type 0} (o : Option X) (x : X) → o ≡ Some x → o ≡ None → ⊥
not_none o x e f = cc
