-- What the calls of a store in pages leave of its meaning, over plain lists.
use Rattle.std.proofs.Common.{◌≡◌, ℕ, ◌+◌, ◌-◌, ◌*◌, ◌^◌, ◌≤◌, List, [], ◌∷◌, ◌++◌, length, take, Option, Some, None, refl, ap, ◌∙◌, arith}
use Rattle.std.proofs.lemmas.List.{length-take-le, take-take}
use Rattle.page_pool.specs.Holding.{Holding}
use Rattle.kam_store.specs.Store.{LiveRegion, StoreState, pages_for, pages_of, with_live, with_region, appended, length_at, words_at}
use Rattle.kam_store.specs.Writing.{PeaksWithin, Writes, LacksPage, LacksMemory}
use Rattle.kam_store.specs.Moves.{MovesPages, PeakWithin, IsUnmet, MeetsNone}
use Rattle.kam_store.specs.Paged.{paged_state}
use Rattle.kam_store.proofs.Account.{pages_of-appended}

-- two meanings with the same parts are one
pub same_state : {M : Type 0} (h g : Holding M) (made : ℕ) (live mine : List LiveRegion) → length g.out - pages_of mine ≡ length h.out - pages_of live → g.mark ≡ h.mark → g.peak ≡ h.peak → g.low ≡ h.low → g.dries ≡ h.dries → paged_state g made mine ≡ with_live (paged_state h made live) mine
same_state {M} h g made live mine base mark peak low dries =
    let f : M → ℕ → ℕ → Option ℕ → ℕ → StoreState M = λ m b p l d. record { made = made; live = mine; mark = m; base = b; peak = p; low = l; dries = d; quota = None } in
    ap (λ m. f m (length g.out - pages_of mine) g.peak g.low g.dries) mark
    ∙ ap (λ b. f h.mark b g.peak g.low g.dries) base
    ∙ ap (λ p. f h.mark (length h.out - pages_of live) p g.low g.dries) peak
    ∙ ap (λ l. f h.mark (length h.out - pages_of live) h.peak l g.dries) low
    ∙ ap (λ d. f h.mark (length h.out - pages_of live) h.peak h.low d) dries

-- the base stays where pages come and go with the regions that need them
pub base_stays : {M : Type 0} (h g : Holding M) (before after : List ℕ) (live mine : List LiveRegion) → MovesPages h before g after → pages_of mine + length before ≡ pages_of live + length after → length g.out - pages_of mine ≡ length h.out - pages_of live
base_stays h g before after live mine m e = let l = m.longer in omega arith

pub peaks : {M : Type 0} (h g : Holding M) (made more : ℕ) (live : List LiveRegion) (serial : ℕ) (words : List ℕ) (new : StoreState M) → PeakWithin h more g → pages_of (appended serial words live) ≡ pages_of live + more → new.peak ≡ g.peak → PeaksWithin (paged_state h made live) serial words new
peaks h g made more live serial words new p e n = record {
  kept = let k = p.kept in omega arith;
  most = let m = p.most in omega arith;
}

-- a meaning of the form that these stores have
abbrev state : {M : Type 0} → ℕ → List LiveRegion → M → ℕ → ℕ → Option ℕ → ℕ → StoreState M
state made live m b p l d = record { made = made; live = live; mark = m; base = b; peak = p; low = l; dries = d; quota = None }

same_parts : {M : Type 0} (made : ℕ) (live : List LiveRegion) (m n : M) (b c p : ℕ) (l k : Option ℕ) (d e : ℕ) → m ≡ n → b ≡ c → l ≡ k → d ≡ e → state made live m b p l d ≡ state made live n c p k e
same_parts made live m n b c p l k d e mn bc lk de =
    ap (λ m. state made live m b p l d) mn
    ∙ ap (λ b. state made live n b p l d) bc
    ∙ ap (λ l. state made live n c p l d) lk
    ∙ ap (λ d. state made live n c p k d) de

pub pages_for-le : (m n : ℕ) → pages_for m ≤ pages_for (m + n)
pages_for-le m n = omega arith

-- how many pages more some words need
abbrev pub more_for : List ℕ → List ℕ → ℕ
more_for ws words = pages_for (length ws + length words) - pages_for (length ws)

pub pages_of-more : (serial : ℕ) (words : List ℕ) (live : List LiveRegion) (ws : List ℕ) → words_at serial live ≡ Some ws → pages_of (appended serial words live) ≡ pages_of live + more_for ws words
pages_of-more serial words live ws at =
    let e = pages_of-appended serial words live ws at in
    let le : pages_for (length ws) ≤ pages_for (length ws + length words) = pages_for-le (length ws) (length words) in
    omega arith

-- words were written
pub wrote : {M : Type 0} (h g : Holding M) (made : ℕ) (live : List LiveRegion) (serial : ℕ) (words ws before after : List ℕ) (pointer : ℕ) → words_at serial live ≡ Some ws → pointer ≡ serial * 2 ^ 32 + length_at serial live → MovesPages h before g after → length before + more_for ws words ≡ length after → PeakWithin h (more_for ws words) g → IsUnmet h g → Writes (paged_state h made live) serial words pointer (paged_state g made (appended serial words live))
wrote h g made live serial words ws before after pointer at place moved more peak unmet =
    let need = pages_of-more serial words live ws at in
    let mine = appended serial words live in
    record {
      place = place;
      peak = peaks h g made _ live serial words (paged_state g made mine) peak need refl;
      rest = same_parts made mine _ _ _ _ _ _ _ _ _ moved.mark (base_stays h g before after live mine moved (omega arith)) unmet.low unmet.dries;
    }

-- no page was to be had
pub lacked_page : {M : Type 0} (h g : Holding M) (made : ℕ) (live : List LiveRegion) (serial : ℕ) (words ws before : List ℕ) → words_at serial live ≡ Some ws → MovesPages h before g before → PeakWithin h (more_for ws words) g → MeetsNone h (more_for ws words) g → LacksPage (paged_state h made live) serial words (paged_state g made live)
lacked_page h g made live serial words ws before at moved peak met =
    let need = pages_of-more serial words live ws at in
    record {
      found = met.found;
      below = let b = met.below in omega arith;
      peak = peaks h g made _ live serial words (paged_state g made live) peak need refl;
      rest = same_parts made live _ _ _ _ _ _ _ _ _ moved.mark (base_stays h g before before live live moved refl) met.low met.dries;
    }

-- memory was wanting
pub lacked_memory : {M : Type 0} (h g : Holding M) (made : ℕ) (live : List LiveRegion) (serial : ℕ) (words ws before : List ℕ) → words_at serial live ≡ Some ws → MovesPages h before g before → PeakWithin h (more_for ws words) g → IsUnmet h g → LacksMemory (paged_state h made live) serial words (paged_state g made live)
lacked_memory h g made live serial words ws before at moved peak unmet =
    let need = pages_of-more serial words live ws at in
    record {
      peak = peaks h g made _ live serial words (paged_state g made live) peak need refl;
      rest = same_parts made live _ _ _ _ _ _ _ _ _ moved.mark (base_stays h g before before live live moved refl) unmet.low unmet.dries;
    }

-- a region ended, and its pages went back
pub closed : {M : Type 0} (h g : Holding M) (made : ℕ) (live mine : List LiveRegion) (before : List ℕ) → MovesPages h before g [] → pages_of mine + length before ≡ pages_of live → g.peak ≡ h.peak → IsUnmet h g → paged_state g made mine ≡ with_live (paged_state h made live) mine
closed h g made live mine before moved need peak unmet =
    same_state h g made live mine (base_stays h g before [] live mine moved (need ∙ omega arith)) moved.mark peak unmet.low unmet.dries

-- one less of the first so many
pub take-one_less : {X : Type 0} (m : ℕ) (xs : List X) → m ≤ length xs → take (length (take m xs) - 1) (take m xs) ≡ take (m - 1) xs
take-one_less m xs h =
    let l = length-take-le m xs h in
    ap (λ n. take (n - 1) (take m xs)) l ∙ take-take (m - 1) m xs (omega arith)

-- other regions that need as many pages
pub same_base : {M : Type 0} (h : Holding M) (made : ℕ) (live mine : List LiveRegion) → pages_of mine ≡ pages_of live → paged_state h made mine ≡ with_live (paged_state h made live) mine
same_base h made live mine e = same_state h h made live mine (ap (λ n. length h.out - n) e) refl refl refl refl

pages_of-push : (rs : List LiveRegion) (n : ℕ) → pages_of (rs ++ record { serial = n; words = [] } ∷ []) ≡ pages_of rs
pages_of-push [] n = refl
pages_of-push (r ∷ rs) n = ap (λ m. pages_for (length r.words) + m) (pages_of-push rs n)

-- a new region needs no page
pub made_state : {M : Type 0} (h : Holding M) (made : ℕ) (live : List LiveRegion) → paged_state h (made + 1) (live ++ record { serial = made + 1; words = [] } ∷ []) ≡ with_region (paged_state h made live)
made_state h made live =
    ap (λ n. state (made + 1) (live ++ record { serial = made + 1; words = [] } ∷ []) h.mark (length h.out - n) h.peak h.low h.dries) (pages_of-push live (made + 1))
