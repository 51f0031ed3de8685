-- What moves of the top and writes into the slots make of the words on a stack.
use Rattle.std.proofs.Common.{◌≡◌, ℕ, zero, suc, ◌+◌, ◌-◌, ◌<◌, ◌≤◌, List, [], ◌∷◌, ◌++◌, length, take, drop, reverse, set, get_or, slice_get, Some, ◌⊎◌, inl, inr, refl, ap, subst, arith}
use Rattle.std.proofs.lemmas.List.{reverse-append, length-reverse, length-take-le, length-set, take_more, take_more_set, get_or-reverse, get_or-take, same_lists, get_or-set_same, get_or-set_other, take-set}
use Rattle.std.proofs.lemmas.Bool.{cases_eq, le-leb, lt-ltb}
use Rattle.std.proofs.lemmas.Option.{slice_get-get_or}
use Rattle.kam_rows.specs.Stacked.{words_on}
use Rattle.kam_code.specs.Step.{without, put_at, slid}

pub length_on : (top : ℕ) (slots : List ℕ) → top ≤ length slots → length (words_on top slots) ≡ top
length_on top slots h = rw (length-reverse (take top slots)) (length-take-le top slots h)

pub on_push : (top : ℕ) (slots : List ℕ) (w : ℕ) → top < length slots → words_on (top + 1) (set slots top w) ≡ w ∷ words_on top slots
on_push top slots w h = rw (take_more_set slots top w h) (reverse-append (take top slots) (w ∷ []))

pub on_pop : (top : ℕ) (slots : List ℕ) (d : ℕ) → top < length slots → words_on (top + 1) slots ≡ get_or slots top d ∷ words_on top slots
on_pop top slots d h = rw (take_more slots top d h) (reverse-append (take top slots) (get_or slots top d ∷ []))

-- without n words
pub drop_on : (n top all : ℕ) (slots : List ℕ) → n + top ≡ all → all ≤ length slots → drop n (words_on all slots) ≡ words_on top slots
drop_on zero top all slots e h = let k : all ≡ top = omega (arith, e) in rw k refl
drop_on (suc n) top all slots e h =
    let k : all ≡ n + top + 1 = omega (arith, e) in
    let p : words_on (n + top + 1) slots ≡ get_or slots (n + top) 0 ∷ words_on (n + top) slots = on_pop (n + top) slots 0 (omega (arith, e, h)) in
    rw k (rw p (drop_on n top (n + top) slots refl (omega (arith, e, h))))

-- the word so many below the top
pub get_or_on : (top k d : ℕ) (slots : List ℕ) → k < top → top ≤ length slots → get_or (words_on top slots) k d ≡ get_or slots (top - 1 - k) d
get_or_on top k d slots h l =
    let e = length-take-le top slots l in
    let g = get_or-reverse (take top slots) k d (omega (arith, e, h)) in
    let m : length (take top slots) - 1 - k ≡ top - 1 - k = omega (arith, e) in
    rw g (rw m (get_or-take top slots (top - 1 - k) d (omega (arith, h))))

pub slice_get_on : (top k d : ℕ) (slots : List ℕ) → k < top → top ≤ length slots → slice_get (words_on top slots) k ≡ Some (get_or slots (top - 1 - k) d)
slice_get_on top k d slots h l =
    let e = length_on top slots l in
    let g = get_or_on top k d slots h l in
    rw (← g) (slice_get-get_or (words_on top slots) k d (omega (arith, e, h)))

-- another word at a place from the bottom
set_each : (top at w k d : ℕ) (slots : List ℕ) → at < top → top ≤ length slots → k < top → (k ≡ top - 1 - at) ⊎ (k ≡ top - 1 - at → ⊥) → get_or (set (words_on top slots) (top - 1 - at) w) k d ≡ get_or (words_on top (set slots at w)) k d
set_each top at w k d slots h l kh (inl e) =
    let a = length_on top slots l in
    let c = length-set slots at w in
    let m : top - 1 - k ≡ at = omega (arith, e, h) in
    rw e (rw (get_or-set_same (words_on top slots) (top - 1 - at) w d (omega (arith, a, h)))
    (rw (get_or_on top (top - 1 - at) d (set slots at w) (omega (arith, h)) (omega (arith, c, l)))
    (let n : top - 1 - (top - 1 - at) ≡ at = omega (arith, h) in rw n (rw (get_or-set_same slots at w d (omega (arith, h, l))) refl))))
set_each top at w k d slots h l kh (inr ne) =
    let c = length-set slots at w in
    rw (get_or-set_other (words_on top slots) (top - 1 - at) k w d ne)
    (rw (get_or_on top k d slots kh l)
    (rw (get_or_on top k d (set slots at w) kh (omega (arith, c, l)))
    (rw (get_or-set_other slots at (top - 1 - k) w d (λ q. ne (omega (arith, q, h, kh)))) refl)))

pub set_on : (top at w : ℕ) (slots : List ℕ) → at < top → top ≤ length slots → set (words_on top slots) (top - 1 - at) w ≡ words_on top (set slots at w)
set_on top at w slots h l =
    let a = length_on top slots l in
    let b = length-set (words_on top slots) (top - 1 - at) w in
    let c = length-set slots at w in
    let d = length_on top (set slots at w) (omega (arith, c, l)) in
    same_lists (set (words_on top slots) (top - 1 - at) w) (words_on top (set slots at w)) (omega (arith, a, b, d))
    (λ k x kh. set_each top at w k x slots h l (omega (arith, kh, a, b)) (cases_eq k (top - 1 - at)))

-- ---- what rows of the table give

pub pop_gives : (n top : ℕ) (slots : List ℕ) → n ≤ top → top ≤ length slots → without n (words_on top slots) ≡ Some (words_on (top - n) slots)
pop_gives n top slots h l = rw (length_on top slots l) (rw (le-leb n top h) (ap Some (drop_on n (top - n) top slots (omega (arith, h)) l)))

pub put_local_gives : (at top v : ℕ) (slots : List ℕ) → at < top → top < length slots → v ≡ get_or slots top 0 → put_at at (words_on (top + 1) slots) ≡ Some (words_on top (set slots at v))
put_local_gives at top v slots h l e =
    rw (on_pop top slots 0 l) (rw (← e)
    (rw (length_on top slots (omega (arith, l))) (rw (lt-ltb at top h) (ap Some (set_on top at v slots h (omega (arith, l)))))))

pub slide_gives : (n top v : ℕ) (slots : List ℕ) → n ≤ top → top < length slots → v ≡ get_or slots top 0 → slid n (words_on (top + 1) slots) ≡ Some (words_on (top - n + 1) (set slots (top - n) v))
slide_gives n top v slots h l e =
    rw (on_pop top slots 0 l) (rw (← e)
    (rw (pop_gives n top slots h (omega (arith, l))) (rw (on_push (top - n) slots v (omega (arith, l))) refl)))

pub put_local_row : (i at top : ℕ) (slots : List ℕ) → at ≡ i → at < top - 1 → top ≤ length slots → put_at i (words_on top slots) ≡ Some (words_on (top - 1) (set slots at (get_or slots (top - 1) 0)))
put_local_row i at top slots e h l =
    let k : top - 1 + 1 ≡ top = omega (arith, h) in
    let g = put_local_gives at (top - 1) (get_or slots (top - 1) 0) slots h (omega (arith, h, l)) refl in
    subst (λ x. put_at i (words_on x slots) ≡ Some (words_on (top - 1) (set slots at (get_or slots (top - 1) 0)))) k
    (subst (λ x. put_at x (words_on (top - 1 + 1) slots) ≡ Some (words_on (top - 1) (set slots at (get_or slots (top - 1) 0)))) e g)

pub slide_row : (n top : ℕ) (slots : List ℕ) → n < top → top ≤ length slots → slid n (words_on top slots) ≡ Some (words_on (top - n) (set slots (top - 1 - n) (get_or slots (top - 1) 0)))
slide_row n top slots h l =
    let k : top - 1 + 1 ≡ top = omega (arith, h) in
    let m : top - 1 - n + 1 ≡ top - n = omega (arith, h) in
    let g = slide_gives n (top - 1) (get_or slots (top - 1) 0) slots (omega (arith, h)) (omega (arith, h, l)) refl in
    subst (λ x. slid n (words_on x slots) ≡ Some (words_on (top - n) (set slots (top - 1 - n) (get_or slots (top - 1) 0)))) k
    (subst (λ x. slid n (words_on (top - 1 + 1) slots) ≡ Some (words_on x (set slots (top - 1 - n) (get_or slots (top - 1) 0)))) m g)
