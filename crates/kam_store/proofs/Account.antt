-- What the regions in pages need, and how it goes with what is out.
use Rattle.std.proofs.Common.{◌≡◌, ℕ, ◌+◌, ◌*◌, ◌^◌, ◌<◌, ◌≤◌, Bool, true, false, cond, eqb, List, [], ◌∷◌, ◌++◌, length, drop, set, get_or, Option, Some, refl, ap, sym, ◌∙◌, arith, zero, suc}
use Rattle.std.proofs.lemmas.List.{length-append, length-take, length-set}
use Rattle.std.proofs.lemmas.List.Elements.{All-head, All-tail}
use Rattle.std.specs.List.{All}
use Rattle.page_pool.specs.Holding.{times}
use Rattle.page_pool.proofs.Times.{times-append}
use Rattle.kam_store.specs.Store.{LiveRegion, pages_for, pages_of, changed, appended, words_at}
use Rattle.kam_store.specs.Plain.{live_of}
use Rattle.kam_store.specs.Joined.{joined}
use Rattle.kam_store.specs.Paging.{content_of, numbers_of}
use Rattle.kam_store.specs.PagedKept.{contents, all_numbers}
use Rattle.kam_store.specs.declared.page_region.PageRegion.{PageRegion}
use Rattle.kam_store.proofs.Joined.{length-joined, length-numbers}

-- a region has as many words as it used
pub length-content : (r : PageRegion) → length (content_of r) ≡ r.used
length-content r =
    let a = length-take r.used (joined r.pages.items) in
    let b = length-joined r.pages.items in
    let d = r.pages.ok.0 in
    let t = r.tight in
    omega arith

-- and the pages that these need
pub length-numbers_of : (r : PageRegion) → length (numbers_of r) ≡ pages_for (length (content_of r))
length-numbers_of r =
    let a = length-numbers r.pages.items in
    let d = r.pages.ok.0 in
    let t = r.tight in
    let e = length-content r in
    a ∙ sym d ∙ t ∙ ap pages_for (sym e)

-- regions without words have no page
pub idle_numbers : (rs : List PageRegion) → All (λ r. r.used ≡ 0) rs → length (all_numbers rs) ≡ 0
idle_numbers [] h = refl
idle_numbers (r ∷ rs) h =
    let e : r.used ≡ 0 = All-head (λ (r : PageRegion). r.used ≡ 0) r rs h in
    let f = idle_numbers rs (All-tail (λ (r : PageRegion). r.used ≡ 0) r rs h) in
    let g = length-append (numbers_of r) (all_numbers rs) in
    let n = length-numbers_of r in
    let m = length-content r in
    let z : pages_for (length (content_of r)) ≡ 0 = ap pages_for (m ∙ e) in
    omega arith

-- the live regions need the pages that all hold
pub pages_of-live : (ns : List ℕ) (rs : List PageRegion) → length ns ≤ length rs → All (λ r. r.used ≡ 0) (drop (length ns) rs) → pages_of (live_of ns (contents rs)) ≡ length (all_numbers rs)
pages_of-live [] rs l h = sym (idle_numbers rs h)
pages_of-live (n ∷ ns) [] l h = absurd (omega arith)
pages_of-live (n ∷ ns) (r ∷ rs) l h =
    let e = pages_of-live ns rs (omega arith) h in
    let g = length-append (numbers_of r) (all_numbers rs) in
    let m = length-numbers_of r in
    omega arith

-- one region after another
pub all_numbers-set : (rs : List PageRegion) (k : ℕ) (r d : PageRegion) (n : ℕ) → k < length rs → times n (all_numbers (set rs k r)) + times n (numbers_of (get_or rs k d)) ≡ times n (all_numbers rs) + times n (numbers_of r)
all_numbers-set [] k r d n h = absurd (omega arith)
all_numbers-set (x ∷ rs) zero r d n h =
    let a = times-append n (numbers_of r) (all_numbers rs) in
    let b = times-append n (numbers_of x) (all_numbers rs) in
    omega arith
all_numbers-set (x ∷ rs) (suc k) r d n h =
    let a = times-append n (numbers_of x) (all_numbers rs) in
    let b = times-append n (numbers_of x) (all_numbers (set rs k r)) in
    let e = all_numbers-set rs k r d n (omega arith) in
    omega arith

pub length-all_numbers-set : (rs : List PageRegion) (k : ℕ) (r d : PageRegion) → k < length rs → length (all_numbers (set rs k r)) + length (numbers_of (get_or rs k d)) ≡ length (all_numbers rs) + length (numbers_of r)
length-all_numbers-set [] k r d h = absurd (omega arith)
length-all_numbers-set (x ∷ rs) zero r d h =
    let a = length-append (numbers_of r) (all_numbers rs) in
    let b = length-append (numbers_of x) (all_numbers rs) in
    omega arith
length-all_numbers-set (x ∷ rs) (suc k) r d h =
    let a = length-append (numbers_of x) (all_numbers rs) in
    let b = length-append (numbers_of x) (all_numbers (set rs k r)) in
    let e = length-all_numbers-set rs k r d (omega arith) in
    omega arith

pub times-one : (rs : List PageRegion) (k : ℕ) (d : PageRegion) (n : ℕ) → k < length rs → times n (numbers_of (get_or rs k d)) ≤ times n (all_numbers rs)
times-one [] k d n h = absurd (omega arith)
times-one (x ∷ rs) zero d n h = let a = times-append n (numbers_of x) (all_numbers rs) in omega arith
times-one (x ∷ rs) (suc k) d n h =
    let a = times-append n (numbers_of x) (all_numbers rs) in let e = times-one rs k d n (omega arith) in omega arith

pub length-one : (rs : List PageRegion) (k : ℕ) (d : PageRegion) → k < length rs → length (numbers_of (get_or rs k d)) ≤ length (all_numbers rs)
length-one [] k d h = absurd (omega arith)
length-one (x ∷ rs) zero d h = let a = length-append (numbers_of x) (all_numbers rs) in omega arith
length-one (x ∷ rs) (suc k) d h =
    let a = length-append (numbers_of x) (all_numbers rs) in let e = length-one rs k d (omega arith) in omega arith

-- so many pages at most
pub pages_of-le : (rs : List LiveRegion) → All (λ r. length r.words < 2 ^ 32) rs → pages_of rs ≤ 33554432 * length rs
pages_of-le [] h = omega arith
pages_of-le (r ∷ rs) h =
    let e = pages_of-le rs (All-tail (λ (r : LiveRegion). length r.words < 2 ^ 32) r rs h) in
    let f : length r.words < 4294967296 = All-head (λ (r : LiveRegion). length r.words < 2 ^ 32) r rs h in
    omega arith

pages_step : (b : Bool) (more : List ℕ) (r : LiveRegion) (rs : List LiveRegion) (ws : List ℕ) (rest : List LiveRegion) (o : Option (List ℕ)) → cond b (Some r.words) o ≡ Some ws → (o ≡ Some ws → pages_of rest + pages_for (length ws) ≡ pages_of rs + pages_for (length ws + length more)) → pages_of (cond b (record r { words = r.words ++ more } ∷ rs) (r ∷ rest)) + pages_for (length ws) ≡ pages_of (r ∷ rs) + pages_for (length ws + length more)
pages_step true more r rs ws rest o h k =
    let e : r.words ≡ ws = cc in
    let l = length-append r.words more in
    let m : length r.words ≡ length ws = ap (λ (xs : List ℕ). length xs) e in
    let n : length (r.words ++ more) ≡ length ws + length more = omega arith in
    let a = ap pages_for m in let b = ap pages_for n in omega arith
pages_step false more r rs ws rest o h k = let e = k h in omega arith

-- what more words in one region add to the pages needed
pub pages_of-appended : (serial : ℕ) (more : List ℕ) (rs : List LiveRegion) (ws : List ℕ) → words_at serial rs ≡ Some ws → pages_of (appended serial more rs) + pages_for (length ws) ≡ pages_of rs + pages_for (length ws + length more)
pages_of-appended serial more [] ws h = absurd (cc)
pages_of-appended serial more (r ∷ rs) ws h =
    pages_step (eqb r.serial serial) more r rs ws (appended serial more rs) (words_at serial rs) h (pages_of-appended serial more rs ws)

set_step : (b : Bool) (i w : ℕ) (r : LiveRegion) (rs rest : List LiveRegion) → pages_of rest ≡ pages_of rs → pages_of (cond b (record r { words = set r.words i w } ∷ rs) (r ∷ rest)) ≡ pages_of (r ∷ rs)
set_step true i w r rs rest h = let l = length-set r.words i w in let a = ap pages_for l in omega arith
set_step false i w r rs rest h = omega arith

-- a word written over another needs no page
pub pages_of-set : (serial i w : ℕ) (rs : List LiveRegion) → pages_of (changed serial (λ ws. set ws i w) rs) ≡ pages_of rs
pages_of-set serial i w [] = refl
pages_of-set serial i w (r ∷ rs) = set_step (eqb r.serial serial) i w r rs (changed serial (λ ws. set ws i w) rs) (pages_of-set serial i w rs)
