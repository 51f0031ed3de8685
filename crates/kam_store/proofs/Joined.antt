-- The words of pages in a row.
use Rattle.std.proofs.Common.{◌≡◌, ℕ, ◌+◌, ◌-◌, ◌*◌, ◌<◌, List, [], ◌∷◌, ◌++◌, length, take, set, get_or, Some, refl, ap, sym, ◌∙◌, arith, zero, suc}
use Rattle.std.proofs.lemmas.List.{length-append, set-append_left, set-append_right, length-map, map_push}
use Rattle.std.proofs.lemmas.List.Concat.{flat_map-append}
use Rattle.std.specs.Prelude.{slice_get}
use Rattle.page_pool.specs.declared.page.Page.{Page}
use Rattle.page_pool.specs.PageWords.{number_of, words_of}
use Rattle.page_pool.proofs.Lone.{whole}
use Rattle.kam_store.specs.Joined.{joined, numbers}

pub get-append_left : {X : Type 0} (xs ys : List X) (i : ℕ) → i < length xs → slice_get (xs ++ ys) i ≡ slice_get xs i
get-append_left [] ys i h = absurd (omega arith)
get-append_left (x ∷ xs) ys zero h = refl
get-append_left (x ∷ xs) ys (suc i) h = get-append_left xs ys i (omega arith)

pub get-append_right : {X : Type 0} (xs ys : List X) (i : ℕ) → slice_get (xs ++ ys) (length xs + i) ≡ slice_get ys i
get-append_right [] ys i = ap (λ k. slice_get ys k) (omega arith)
get-append_right (x ∷ xs) ys i = let e : suc (length xs) + i ≡ suc (length xs + i) = omega arith in rw e (get-append_right xs ys i)

pub length-joined : (ps : List Page) → length (joined ps) ≡ 128 * length ps
length-joined [] = refl
length-joined (p ∷ ps) =
    let a = length-append (words_of p) (joined ps) in let b = length-joined ps in let w = whole p in omega arith

pub length-numbers : (ps : List Page) → length (numbers ps) ≡ length ps
length-numbers ps = length-map ps number_of

pub numbers-push : (ps : List Page) (p : Page) → numbers (ps ++ p ∷ []) ≡ numbers ps ++ number_of p ∷ []
numbers-push ps p = map_push number_of ps p

pub joined-append : (ps qs : List Page) → joined (ps ++ qs) ≡ joined ps ++ joined qs
joined-append ps qs = flat_map-append words_of ps qs

-- a word of a page stands in the row where the pages before it end
pub get-joined : (ps : List Page) (q r w : ℕ) (d : Page) → q < length ps → r < 128 → slice_get (words_of (get_or ps q d)) r ≡ Some w → slice_get (joined ps) (q * 128 + r) ≡ Some w
get-joined [] q r w d a b e = absurd (omega arith)
get-joined (p ∷ ps) zero r w d a b e =
    let at : 0 * 128 + r ≡ r = omega arith in
    let in' = whole p in
    rw at (get-append_left (words_of p) (joined ps) r (omega arith) ∙ e)
get-joined (p ∷ ps) (suc q) r w d a b e =
    let rest = get-joined ps q r w d (omega arith) b e in
    let at : suc q * 128 + r ≡ length (words_of p) + (q * 128 + r) = (let in' = whole p in omega arith) in
    rw at (get-append_right (words_of p) (joined ps) (q * 128 + r) ∙ rest)

-- a word written to a page is written to the row
pub joined-set : (ps : List Page) (q r w : ℕ) (p d : Page) → q < length ps → r < 128 → words_of p ≡ set (words_of (get_or ps q d)) r w → joined (set ps q p) ≡ set (joined ps) (q * 128 + r) w
joined-set [] q r w p d a b e = absurd (omega arith)
joined-set (x ∷ ps) zero r w p d a b e =
    let at : 0 * 128 + r ≡ r = omega arith in
    let in' = whole x in
    rw at (ap (λ ws. ws ++ joined ps) e ∙ sym (set-append_left (words_of x) (joined ps) r w (omega arith)))
joined-set (x ∷ ps) (suc q) r w p d a b e =
    let rest = joined-set ps q r w p d (omega arith) b e in
    let at : suc q * 128 + r - 128 ≡ q * 128 + r = omega arith in
    ap (λ ws. words_of x ++ ws) rest
    ∙ ap (λ i. words_of x ++ set (joined ps) i w) (sym at)
    ∙ sym (set-append_right (words_of x) (joined ps) 128 (suc q * 128 + r) w (whole x) (omega arith))

pub numbers-set : (ps : List Page) (q : ℕ) (p d : Page) → q < length ps → number_of p ≡ number_of (get_or ps q d) → numbers (set ps q p) ≡ numbers ps
numbers-set [] q p d h e = refl
numbers-set (x ∷ ps) zero p d h e = ap (λ n. n ∷ numbers ps) e
numbers-set (x ∷ ps) (suc q) p d h e = ap (λ ns. number_of x ∷ ns) (numbers-set ps q p d (omega arith) e)

pub get-take : {X : Type 0} (xs : List X) (n i : ℕ) → i < n → slice_get (take n xs) i ≡ slice_get xs i
get-take xs zero i h = absurd (omega arith)
get-take [] (suc n) i h = refl
get-take (x ∷ xs) (suc n) zero h = refl
get-take (x ∷ xs) (suc n) (suc i) h = get-take xs n i (omega arith)

pub take-set-lt : {X : Type 0} (xs : List X) (n i : ℕ) (x : X) → i < n → take n (set xs i x) ≡ set (take n xs) i x
take-set-lt xs zero i x h = absurd (omega arith)
take-set-lt [] (suc n) i x h = refl
take-set-lt (y ∷ xs) (suc n) zero x h = refl
take-set-lt (y ∷ xs) (suc n) (suc i) x h = ap (λ ys. y ∷ ys) (take-set-lt xs n i x (omega arith))
