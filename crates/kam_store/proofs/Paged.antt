-- What a store in pages keeps true, call by call, and what its live regions are then.
use Rattle.std.proofs.Common.{◌≡◌, ℕ, ◌+◌, ◌^◌, ◌<◌, ◌≤◌, List, [], ◌∷◌, ◌++◌, length, take, drop, set, get_or, ap, sym, subst, ◌∙◌, arith}
use Rattle.std.proofs.lemmas.List.{length-set, length-append, length-map, map-append, map-set, take-set, drop-set, drop-set-lt, drop-drop, drop-append-le, get_or-map, get_or-drop, nil_from_length, length-take-le, length_push, length-drop, append-nil}
use Rattle.std.proofs.lemmas.List.Concat.{flat_map-append}
use Rattle.std.proofs.lemmas.List.Elements.{All-get_or, All-set, All-append, All-cons, All-drop, All-weaker, All-same, All-nil, All-head, All-tail}
use Rattle.std.specs.List.{All}
use Rattle.page_pool.specs.Holding.{Holding, times}
use Rattle.page_pool.proofs.Times.{length-left_of}
use Rattle.kam_store.specs.Serials.{SerialList}
use Rattle.kam_store.specs.Store.{LiveRegion, RisesTo, pages_of, load_of}
use Rattle.kam_store.specs.Paged.{paged_state}
use Rattle.kam_store.specs.Plain.{live_of}
use Rattle.kam_store.specs.Moves.{AreOut, MovesPages}
use Rattle.kam_store.specs.Paging.{content_of, numbers_of, KeepsRegions}
use Rattle.kam_store.specs.PagedKept.{contents, all_numbers, IsPaged}
use Rattle.kam_store.specs.declared.page_region.PageRegion.{PageRegion}
use Rattle.kam_store.proofs.Account.{length-content, idle_numbers, pages_of-live, pages_of-le, all_numbers-set, length-all_numbers-set, length-one, times-one}
use Rattle.kam_store.proofs.Rising.{rises_length}
use Rattle.kam_store.proofs.Live.{length-live_of, take-live_of, live_of-take, live_of-longer, live_of-push}

abbrev IsIdle : PageRegion → Type 0
IsIdle r = r.used ≡ 0

abbrev IsShort : PageRegion → Type 0
IsShort r = r.used < 2 ^ 32

-- the words of the region at a place
pub contents-at : (rs : List PageRegion) (k : ℕ) (r : PageRegion) → k < length rs → r ≡ get_or rs k r → get_or (contents rs) k [] ≡ content_of r
contents-at rs k r l e = get_or-map content_of rs k r [] l ∙ ap content_of (sym e)

pub contents-set : (rs : List PageRegion) (k : ℕ) (r : PageRegion) → contents (set rs k r) ≡ set (contents rs) k (content_of r)
contents-set rs k r = map-set content_of rs k r

pub length-contents : (rs : List PageRegion) → length (contents rs) ≡ length rs
length-contents rs = length-map rs content_of

pub short_at : {M : Type 0} (s : SerialList) (rs : List PageRegion) (held : ℕ) (h : Holding M) (k : ℕ) (r : PageRegion) → IsPaged s rs held h → k < length rs → r ≡ get_or rs k r → r.used < 2 ^ 32
short_at s rs held h k r p l e = subst IsShort (sym e) (All-get_or IsShort rs k r l p.short)

pub out_at : {M : Type 0} (s : SerialList) (rs : List PageRegion) (held : ℕ) (h : Holding M) (k : ℕ) (r : PageRegion) → IsPaged s rs held h → k < length rs → r ≡ get_or rs k r → AreOut h (numbers_of r)
out_at s rs held h k r p l e = record {
  each = λ n.
      let a = times-one rs k r n l in
      let b = p.out.each n in
      let f : times n (numbers_of r) ≡ times n (numbers_of (get_or rs k r)) = ap (λ (q : PageRegion). times n (numbers_of q)) e in
      omega arith;
}

pub held_at : {M : Type 0} (s : SerialList) (rs : List PageRegion) (held : ℕ) (h : Holding M) (k : ℕ) (r : PageRegion) → IsPaged s rs held h → k < length rs → r ≡ get_or rs k r → length (numbers_of r) ≤ held
held_at s rs held h k r p l e =
    let f : length (numbers_of r) ≡ length (numbers_of (get_or rs k r)) = ap (λ (q : PageRegion). length (numbers_of q)) e in
    let b = length-one rs k r l in
    let d = p.count in
    omega arith

-- the pages of all regions after one region's pages came or went
out_set : {M : Type 0} (rs : List PageRegion) (h g : Holding M) (k : ℕ) (r x : PageRegion) → AreOut h (all_numbers rs) → k < length rs → r ≡ get_or rs k r → MovesPages h (numbers_of r) g (numbers_of x) → AreOut g (all_numbers (set rs k x))
out_set rs h g k r x o l e m = record {
  each = λ n.
      let a = all_numbers-set rs k x r n l in
      let b = o.each n in
      let d = m.each n in
      let f : times n (numbers_of r) ≡ times n (numbers_of (get_or rs k r)) = ap (λ (q : PageRegion). times n (numbers_of q)) e in
      omega arith;
}

count_set : (rs : List PageRegion) (k : ℕ) (r x : PageRegion) → k < length rs → r ≡ get_or rs k r → length (all_numbers (set rs k x)) + length (numbers_of r) ≡ length (all_numbers rs) + length (numbers_of x)
count_set rs k r x l e =
    let a = length-all_numbers-set rs k x r l in
    let f : length (numbers_of r) ≡ length (numbers_of (get_or rs k r)) = ap (λ (q : PageRegion). length (numbers_of q)) e in
    omega arith

-- a live region changed
pub paged_set : {M : Type 0} (s : SerialList) (rs : List PageRegion) (held now : ℕ) (h g : Holding M) (k : ℕ) (r x : PageRegion) → IsPaged s rs held h → k < length s.live → k < length rs → r ≡ get_or rs k r → x.used < 2 ^ 32 → MovesPages h (numbers_of r) g (numbers_of x) → now + length (numbers_of r) ≡ held + length (numbers_of x) → IsPaged s (set rs k x) now g
paged_set s rs held now h g k r x p a l e short m n = record {
  paired = let b = p.paired in let d = length-set rs k x in omega arith;
  short = All-set IsShort rs k x short p.short;
  idle = All-same IsIdle _ _ (drop-set-lt (length s.live) rs k x a) p.idle;
  count = let b = count_set rs k r x l e in let d = p.count in omega arith;
  out = out_set rs h g k r x p.out l e m;
}

-- the highest region ended
pub paged_close : {M : Type 0} (s : SerialList) (rs : List PageRegion) (held now : ℕ) (h g : Holding M) (k : ℕ) (r x : PageRegion) → IsPaged s rs held h → length s.live ≡ k + 1 → k < length rs → r ≡ get_or rs k r → x.used ≡ 0 → MovesPages h (numbers_of r) g (numbers_of x) → now + length (numbers_of r) ≡ held + length (numbers_of x) → IsPaged (record s { live = take k s.live }) (set rs k x) now g
paged_close s rs held now h g k r x p a l e none m n =
    let top = length-take-le k s.live (omega arith) in
    record {
      paired = let d = length-set rs k x in omega arith;
      short = All-set IsShort rs k x (omega arith) p.short;
      idle = rw top (rw (drop-set rs k x l) (All-cons IsIdle x (drop (k + 1) rs) none (subst (λ m. All IsIdle (drop m rs)) a p.idle)));
      count = let b = count_set rs k r x l e in let d = p.count in omega arith;
      out = out_set rs h g k r x p.out l e m;
    }

-- regions without words came above
pub paged_keep : {M : Type 0} (s : SerialList) (rs qs : List PageRegion) (held : ℕ) (h : Holding M) → IsPaged s rs held h → KeepsRegions rs qs → IsPaged s qs held h
paged_keep s rs qs held h p k =
    let none : all_numbers k.more ≡ [] = nil_from_length (all_numbers k.more) (idle_numbers k.more k.idle) in
    let same : all_numbers qs ≡ all_numbers rs = ap all_numbers k.is ∙ flat_map-append numbers_of rs k.more ∙ ap (λ (ns : List ℕ). all_numbers rs ++ ns) none ∙ append-nil (all_numbers rs) in
    record {
      paired = let b = p.paired in let d = ap (λ (xs : List PageRegion). length xs) k.is in let e = length-append rs k.more in omega arith;
      short = All-same IsShort _ _ k.is (All-append IsShort rs k.more p.short (All-weaker IsIdle IsShort (λ x z. omega arith) k.more k.idle));
      idle = All-same IsIdle _ _ (ap (drop (length s.live)) k.is ∙ drop-append-le (length s.live) rs k.more p.paired) (All-append IsIdle (drop (length s.live) rs) k.more p.idle k.idle);
      count = p.count ∙ ap (λ (ns : List ℕ). length ns) (sym same);
      out = subst (λ (ns : List ℕ). AreOut h ns) (sym same) p.out;
    }

-- one of them is live
pub paged_add : {M : Type 0} (s : SerialList) (rs : List PageRegion) (held : ℕ) (h : Holding M) (n : ℕ) → IsPaged s rs held h → length s.live < length rs → IsPaged (record { made = s.made + 1; live = s.live ++ n ∷ [] }) rs held h
paged_add s rs held h n p l =
    let longer = length_push s.live n in
    record {
      paired = omega arith;
      short = p.short;
      idle = rw longer (All-same IsIdle _ _ (sym (drop-drop 1 (length s.live) rs)) (All-drop IsIdle 1 (drop (length s.live) rs) p.idle));
      count = p.count;
      out = p.out;
    }

pub live-kept : (ns : List ℕ) (rs qs : List PageRegion) → KeepsRegions rs qs → length ns ≤ length rs → live_of ns (contents qs) ≡ live_of ns (contents rs)
live-kept ns rs qs k l =
    ap (λ (xs : List PageRegion). live_of ns (contents xs)) k.is
    ∙ ap (live_of ns) (map-append content_of rs k.more)
    ∙ live_of-longer ns (contents rs) (contents k.more) (let d = length-contents rs in omega arith)

live-added : {M : Type 0} (s : SerialList) (rs : List PageRegion) (held : ℕ) (h : Holding M) (n : ℕ) (d : PageRegion) → IsPaged s rs held h → length s.live < length rs → live_of (s.live ++ n ∷ []) (contents rs) ≡ live_of s.live (contents rs) ++ record { serial = n; words = [] } ∷ []
live-added s rs held h n d p l =
    let k = length s.live in
    let first : get_or (drop k rs) 0 d ≡ get_or rs k d = get_or-drop k rs 0 d ∙ ap (λ i. get_or rs i d) (omega arith) in
    let inside : 0 < length (drop k rs) = (let e = length-drop k rs in omega arith) in
    let idle : (get_or rs k d).used ≡ 0 = subst IsIdle first (All-get_or IsIdle (drop k rs) 0 d inside p.idle) in
    let empty : content_of (get_or rs k d) ≡ [] = nil_from_length (content_of (get_or rs k d)) (length-content (get_or rs k d) ∙ idle) in
    let words : get_or (contents rs) k [] ≡ [] = get_or-map content_of rs k d [] l ∙ empty in
    live_of-push s.live n (contents rs) (let e = length-contents rs in omega arith)
    ∙ ap (λ (ws : List ℕ). live_of s.live (contents rs) ++ record { serial = n; words = ws } ∷ []) words

pub live-closed : (ns : List ℕ) (rs : List PageRegion) (k : ℕ) (x : PageRegion) → live_of (take k ns) (contents (set rs k x)) ≡ take k (live_of ns (contents rs))
live-closed ns rs k x =
    ap (live_of (take k ns)) (contents-set rs k x)
    ∙ sym (live_of-take k ns (set (contents rs) k (content_of x)))
    ∙ ap (live_of (take k ns)) (take-set (contents rs) k (content_of x))
    ∙ live_of-take k ns (contents rs)
    ∙ sym (take-live_of k ns (contents rs))

-- the live regions need the pages that are held
pub pages_of-paged : {M : Type 0} (s : SerialList) (rs : List PageRegion) (held : ℕ) (h : Holding M) → IsPaged s rs held h → pages_of (live_of s.live (contents rs)) ≡ held
pages_of-paged s rs held h p = pages_of-live s.live rs p.paired p.idle ∙ sym p.count

-- what is out is the load
pub out_is_load : {M : Type 0} (s : SerialList) (rs : List PageRegion) (held : ℕ) (h : Holding M) → IsPaged s rs held h → length h.out ≡ load_of (paged_state h s.made (live_of s.live (contents rs)))
out_is_load s rs held h p =
    let n = pages_of-paged s rs held h p in
    let c = p.count in
    let l = length-left_of h.out (all_numbers rs) p.out.each in
    omega arith

short_live : (ns : List ℕ) (rs : List PageRegion) → All IsShort rs → All (λ (r : LiveRegion). length r.words < 2 ^ 32) (live_of ns (contents rs))
short_live [] rs h = All-nil (λ (r : LiveRegion). length r.words < 2 ^ 32)
short_live (n ∷ ns) [] h = All-nil (λ (r : LiveRegion). length r.words < 2 ^ 32)
short_live (n ∷ ns) (r ∷ rs) h =
    let e = length-content r in
    let u : r.used < 2 ^ 32 = All-head IsShort r rs h in
    All-cons (λ (q : LiveRegion). length q.words < 2 ^ 32) (record { serial = n; words = content_of r }) (live_of ns (contents rs)) (omega arith) (short_live ns rs (All-tail IsShort r rs h))

-- fewer than 2^32 regions hold fewer than 2^57 pages
pub held_bound : {M : Type 0} (s : SerialList) (rs : List PageRegion) (held : ℕ) (h : Holding M) → IsPaged s rs held h → RisesTo s.made 0 s.live → s.made < 4294967296 → held < 144115188075855872
held_bound s rs held h p rises few =
    let live = live_of s.live (contents rs) in
    let a = pages_of-paged s rs held h p in
    let b = pages_of-le live (short_live s.live rs p.short) in
    let d = length-live_of s.live (contents rs) (let e = length-contents rs in let f = p.paired in omega arith) in
    let f = rises_length s.made 0 s.live rises in
    omega arith

pub live-added_some : {M : Type 0} (s : SerialList) (rs : List PageRegion) (held : ℕ) (h : Holding M) (n : ℕ) → IsPaged s rs held h → length s.live < length rs → live_of (s.live ++ n ∷ []) (contents rs) ≡ live_of s.live (contents rs) ++ record { serial = n; words = [] } ∷ []
live-added_some s [] held h n p l = absurd (omega arith)
live-added_some s (r ∷ rs) held h n p l = live-added s (r ∷ rs) held h n r p l
