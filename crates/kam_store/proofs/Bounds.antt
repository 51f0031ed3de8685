-- How many words the live regions have, from call to call: what bounds the words in all bounds those in one region.
use Rattle.std.proofs.Common.{◌≡◌, ℕ, ◌+◌, ◌/◌, ◌%◌, ◌^◌, ◌≤◌, List, [], ◌∷◌, ◌++◌, length, take, set, refl, ap, arith, zero, suc}
use Rattle.std.proofs.lemmas.Bool.Decides.{nat_tests}
use Rattle.std.proofs.lemmas.List.{length-append, length-set}
use Rattle.std.proofs.Common.{Result, Ok, Err}
use Rattle.std.specs.Result.{IfOk, OnOk, OnErr, IsErrOf}
use Rattle.kam_store.specs.declared.region_store.StoreRefusal.{StoreRefusal}
use Rattle.kam_store.specs.declared.region_store.StoreRefusal.TheVariants.{NoPage, Dead, NoMemory}
use Rattle.kam_store.specs.Store.{LiveRegion, StoreState, words_in, length_at, changed, appended, with_region, with_live, with_word}
use Rattle.kam_store.specs.Writing.{Writes, LacksPage, LacksMemory}

pub length_at-le : (serial : ℕ) (rs : List LiveRegion) → length_at serial rs ≤ words_in rs
length_at-le serial [] = omega arith
length_at-le serial (r ∷ rs) = let e = length_at-le serial rs in grind (arith, nat_tests)

pub words_in-appended : (serial : ℕ) (more : List ℕ) (rs : List LiveRegion) → words_in (appended serial more rs) ≤ words_in rs + length more
words_in-appended serial more [] = omega arith
words_in-appended serial more (r ∷ rs) =
    let e = words_in-appended serial more rs in let l = length-append r.words more in grind (arith, nat_tests)

pub words_in-set : (serial i w : ℕ) (rs : List LiveRegion) → words_in (changed serial (λ ws. set ws i w) rs) ≡ words_in rs
words_in-set serial i w [] = refl
words_in-set serial i w (r ∷ rs) =
    let e = words_in-set serial i w rs in let l = length-set r.words i w in grind (arith, nat_tests)

pub words_in-take : (n : ℕ) (rs : List LiveRegion) → words_in (take n rs) ≤ words_in rs
words_in-take zero rs = omega arith
words_in-take (suc n) [] = omega arith
words_in-take (suc n) (r ∷ rs) = let e = words_in-take n rs in omega arith

pub words_in-push : (rs : List LiveRegion) (serial : ℕ) → words_in (rs ++ record { serial = serial; words = [] } ∷ []) ≡ words_in rs
words_in-push [] serial = omega arith
words_in-push (r ∷ rs) serial = let e = words_in-push rs serial in omega arith

-- at most so many regions were made and so many words are in the live ones, more than before
pub record GrowsBy {M : Type 0} (old : StoreState M) (regions words : ℕ) (new : StoreState M) : Type 0 where
  pub made : new.made ≤ old.made + regions
  pub words_in : words_in new.live ≤ words_in old.live + words

grows_same : {M : Type 0} (s t : StoreState M) (m n : ℕ) → t ≡ s → GrowsBy s m n t
grows_same s t m n e =
    let a : t.made ≡ s.made = ap (λ (u : StoreState _). u.made) e in
    let b : words_in t.live ≡ words_in s.live = ap (λ (u : StoreState _). words_in u.live) e in
    record { made = omega arith; words_in = omega arith }

pub after_region : {M : Type 0} (s t : StoreState M) (r : Result ℕ StoreRefusal) → OnOk r (t ≡ with_region s) → OnErr r (t ≡ s) → GrowsBy s 1 0 t
after_region s t (Ok serial) e f =
    let a : t.made ≡ s.made + 1 = ap (λ (u : StoreState _). u.made) e in
    let b = ap (λ (u : StoreState _). words_in u.live) e in
    let d = words_in-push s.live (s.made + 1) in
    record { made = omega arith; words_in = omega arith }
after_region s t (Err x) e f = grows_same s t 1 0 f

pub after_close : {M : Type 0} (s t : StoreState M) (n : ℕ) → t ≡ with_live s (take n s.live) → GrowsBy s 0 0 t
after_close s t n e =
    let a : t.made ≡ s.made = ap (λ (u : StoreState _). u.made) e in
    let b = ap (λ (u : StoreState _). words_in u.live) e in
    let d = words_in-take n s.live in
    record { made = omega arith; words_in = omega arith }

pub after_write : {M : Type 0} (s t : StoreState M) (serial : ℕ) (words : List ℕ) (r : Result ℕ StoreRefusal) → IfOk r (λ pointer. Writes s serial words pointer t) → (IsErrOf r NoPage → LacksPage s serial words t) → (IsErrOf r Dead → t ≡ s) → (IsErrOf r NoMemory → LacksMemory s serial words t) → GrowsBy s 0 (length words) t
after_write s t serial words (Ok pointer) w p d m =
    let a : t.made ≡ s.made = ap (λ (u : StoreState _). u.made) w.rest in
    let b = ap (λ (u : StoreState _). words_in u.live) w.rest in
    let e = words_in-appended serial words s.live in
    record { made = omega arith; words_in = omega arith }
after_write s t serial words (Err NoPage) w p d m =
    let l = p refl in
    let a : t.made ≡ s.made = ap (λ (u : StoreState _). u.made) l.rest in
    let b : words_in t.live ≡ words_in s.live = ap (λ (u : StoreState _). words_in u.live) l.rest in
    record { made = omega arith; words_in = omega arith }
after_write s t serial words (Err Dead) w p d m = grows_same s t 0 (length words) (d refl)
after_write s t serial words (Err NoMemory) w p d m =
    let l = m refl in
    let a : t.made ≡ s.made = ap (λ (u : StoreState _). u.made) l.rest in
    let b : words_in t.live ≡ words_in s.live = ap (λ (u : StoreState _). words_in u.live) l.rest in
    record { made = omega arith; words_in = omega arith }

pub after_set : {M E : Type 0} (s t : StoreState M) (pointer field word : ℕ) (r : Result (Unit {0}) E) → OnOk r (t ≡ with_word s pointer field word) → OnErr r (t ≡ s) → GrowsBy s 0 0 t
after_set s t pointer field word (Ok x) e f =
    let a : t.made ≡ s.made = ap (λ (u : StoreState _). u.made) e in
    let b = ap (λ (u : StoreState _). words_in u.live) e in
    let d = words_in-set (pointer / 2 ^ 32) (pointer % 2 ^ 32 + field) word s.live in
    record { made = omega arith; words_in = omega arith }
after_set s t pointer field word (Err x) e f = grows_same s t 0 0 f
