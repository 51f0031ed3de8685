-- The last page of a list leaves, or one comes.
use Rattle.std.proofs.Common.{◌≡◌, ℕ, ◌+◌, ◌*◌, ◌<◌, ◌≤◌, List, [], ◌∷◌, ◌++◌, length, take, drop, set, get_or, ap, sym, ◌∙◌, arith}
use Rattle.std.proofs.lemmas.List.{length_push, take-append-le, drop-append-le, take_more_set, take_more, append_assoc, take-append-drop, map-append}
use Rattle.page_pool.specs.declared.page.Page.{Page}
use Rattle.page_pool.specs.PageWords.{number_of}
use Rattle.kam_store.specs.Joined.{joined, numbers}
use Rattle.kam_store.proofs.Joined.{numbers-push, length-joined, joined-append}

pub few_left : (kept : ℕ) (all rest : List Page) (p : Page) → all ≡ rest ++ p ∷ [] → kept < length all → kept ≤ length rest
few_left kept all rest p e h = omega (arith, ap (λ (ps : List Page). length ps) e, length_push rest p)

pub numbers_left : (kept : ℕ) (all rest : List Page) (p : Page) → all ≡ rest ++ p ∷ [] → kept < length all → numbers (drop kept all) ≡ numbers (drop kept rest) ++ number_of p ∷ []
numbers_left kept all rest p e h =
    ap (λ (ps : List Page). numbers (drop kept ps)) e
    ∙ ap numbers (drop-append-le kept rest (p ∷ []) (few_left kept all rest p e h))
    ∙ numbers-push (drop kept rest) p

pub front_left : (kept : ℕ) (all rest : List Page) (p : Page) → all ≡ rest ++ p ∷ [] → kept < length all → take kept rest ≡ take kept all
front_left kept all rest p e h =
    sym (ap (λ (ps : List Page). take kept ps) e ∙ take-append-le kept rest (p ∷ []) (few_left kept all rest p e h))

pub numbers_popped : (all rest : List Page) (p : Page) → all ≡ rest ++ p ∷ [] → numbers all ≡ numbers rest ++ number_of p ∷ []
numbers_popped all rest p e = ap numbers e ∙ numbers-push rest p

-- one word more is written
pub written_more : (row : List ℕ) (start k d : ℕ) (front words : List ℕ) → start < length row → take start row ≡ front ++ take k words → k < length words → take (start + 1) (set row start (get_or words k d)) ≡ front ++ take (k + 1) words
written_more row start k d front words l e m =
    take_more_set row start (get_or words k d) l
    ∙ ap (λ (xs : List ℕ). xs ++ get_or words k d ∷ []) e
    ∙ append_assoc front (take k words) (get_or words k d ∷ [])
    ∙ ap (λ (xs : List ℕ). front ++ xs) (sym (take_more words k d m))

-- a list of pages with another before it
pub numbers_split : (kept : ℕ) (all front : List Page) → take kept all ≡ front → numbers all ≡ numbers front ++ numbers (drop kept all)
numbers_split kept all front e =
    ap numbers (sym (take-append-drop kept all)) ∙ map-append number_of (take kept all) (drop kept all) ∙ ap (λ (ps : List Page). numbers ps ++ numbers (drop kept all)) e

-- the words of the first pages are there
pub joined_front : (kept used : ℕ) (all front : List Page) → take kept all ≡ front → used ≤ 128 * length front → take used (joined all) ≡ take used (joined front)
joined_front kept used all front e l =
    ap (λ (ps : List Page). take used (joined ps)) (sym (take-append-drop kept all))
    ∙ ap (take used) (joined-append (take kept all) (drop kept all))
    ∙ ap (λ (ps : List Page). take used (joined ps ++ joined (drop kept all))) e
    ∙ take-append-le used (joined front) (joined (drop kept all)) (let n = length-joined front in omega arith)
