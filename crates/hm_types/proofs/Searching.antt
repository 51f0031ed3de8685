-- The search for types that hold themselves.
use Rattle.std.proofs.Common.{◌≡◌, ◌≢◌, ℕ, zero, suc, ◌+◌, ◌-◌, ◌<◌, ◌≤◌, List, [], ◌∷◌, ◌++◌, length, take, false, refl, ap, sym, ◌∙◌, subst, arith, get_or, set, get_or-set_same, get_or-set_other, length-set, ◌⊎◌, inl, inr, length-append, length-take, get_or-take, if◌then◌else◌}
use Rattle.std.specs.Prelude.{◌==◌, SomeIff, Some, Option}
use Rattle.std.proofs.lemmas.Grind.{get_or_default_zero}
use Rattle.std.proofs.Math.Dec.{ltb}
use Rattle.std.proofs.lemmas.Bool.{lt-ltb, le-ltb}
use Rattle.hm_types.specs.declared.node.Node.{Node}
use Rattle.hm_types.specs.declared.node.Asked.{Asked}
use Rattle.hm_types.specs.Classes.{at, asked_at}
use Rattle.hm_types.specs.Joining.{IsFine, IsIn, Within}
use Rattle.hm_types.specs.Searching.{Child, IsReady, Numbered, Stamped, IsPath, IsEndless, mark_at, unseen}
use Rattle.hm_types.proofs.Sets.{split}
use Rattle.hm_types.proofs.Members.{in-front, last-in, within-snoc, at-front}
use Rattle.hm_types.proofs.Solved.{endless}

one : ℕ → ℕ → ℕ
one floor m = if ltb m floor then 1 else 0

one-below : (floor m : ℕ) → m < floor → one floor m ≡ 1
unfolding one
one-below floor m l = ap (λ b. if b then 1 else 0) (lt-ltb m floor l)

one-above : (floor m : ℕ) → floor ≤ m → one floor m ≡ 0
unfolding one
one-above floor m l = ap (λ b. if b then 1 else 0) (le-ltb m floor l)

pub unseen-less : (floor : ℕ) (marks : List ℕ) (h v : ℕ) → h < length marks → mark_at marks h < floor → floor ≤ v → suc (unseen floor (set marks h v)) ≡ unseen floor marks
unfolding unseen one
unseen-less floor [] h v l m f = absurd (omega arith)
unseen-less floor (x ∷ marks) zero v l m f = let a = one-below floor x m in let b = one-above floor v f in omega (arith, a, b)
unseen-less floor (x ∷ marks) (suc h) v l m f = let q = unseen-less floor marks h v (omega arith) m f in omega (arith, q)

pub unseen-same : (floor : ℕ) (marks : List ℕ) (h v : ℕ) → h < length marks → floor ≤ mark_at marks h → floor ≤ v → unseen floor (set marks h v) ≡ unseen floor marks
unfolding unseen one
unseen-same floor [] h v l m f = absurd (omega arith)
unseen-same floor (x ∷ marks) zero v l m f = let a = one-above floor x m in let b = one-above floor v f in omega (arith, a, b)
unseen-same floor (x ∷ marks) (suc h) v l m f = let q = unseen-same floor marks h v (omega arith) m f in omega (arith, q)

mark-here : (marks : List ℕ) (h v : ℕ) → h < length marks → mark_at (set marks h v) h ≡ v
mark-here marks h v l = get_or-set_same marks h v 0 l

mark-other : (marks : List ℕ) (h v c : ℕ) → c ≢ h → mark_at (set marks h v) c ≡ mark_at marks c
mark-other marks h v c n = get_or-set_other marks h c v 0 n

-- a mark that rises stays above the floor
pub seen-on : (floor : ℕ) (marks : List ℕ) (h v c : ℕ) → h < length marks → floor ≤ v → floor ≤ mark_at marks c → floor ≤ mark_at (set marks h v) c
seen-on floor marks h v c l f m = go (split c h)
  where
    go : (c ≡ h) ⊎ (c ≢ h) → floor ≤ mark_at (set marks h v) c
    go (inl q) = subst (λ z. floor ≤ mark_at (set marks h v) z) (sym q) (subst (λ z. floor ≤ z) (sym (mark-here marks h v l)) f)
    go (inr n) = subst (λ z. floor ≤ z) (sym (mark-other marks h v c n)) m

-- the end of a list with one item more
snoc-last : (xs : List ℕ) (x : ℕ) → get_or (xs ++ x ∷ []) (length xs) 0 ≡ x
snoc-last [] x = refl
snoc-last (y ∷ xs) x = snoc-last xs x

pub numbered-open : (pool : List ℕ) (T : List Node) (A : List Asked) (marks : List ℕ) (floor stamp part : ℕ) → Numbered pool T A marks floor stamp → part < length T → mark_at marks part < floor → Numbered pool T A (set marks part floor) floor stamp
numbered-open pool T A marks floor stamp part N l m = record {
  long = length-set marks part floor ∙ N.long;
  after = N.after;
  below = λ c. below c (split c part);
  falls = λ c d f i. falls c d f i (split c part) (split d part);
}
  where
    lm : part < length marks
    lm = let q = N.long in omega (arith, q, l)

    here : mark_at (set marks part floor) part ≡ floor
    here = mark-here marks part floor lm

    below : (c : ℕ) → (c ≡ part) ⊎ (c ≢ part) → mark_at (set marks part floor) c ≤ stamp
    below c (inl q) = subst (λ z. mark_at (set marks part floor) z ≤ stamp) (sym q) (let a = N.after in omega (arith, here, a))
    below c (inr n) = subst (λ z. z ≤ stamp) (sym (mark-other marks part floor c n)) (N.below c)

    falls : (c d : ℕ) → floor < mark_at (set marks part floor) c → Child pool (at T c) d → (c ≡ part) ⊎ (c ≢ part) → (d ≡ part) ⊎ (d ≢ part)
        → ((asked_at A d).birth < (asked_at A c).birth) ⊎ ((floor < mark_at (set marks part floor) d) × (mark_at (set marks part floor) d < mark_at (set marks part floor) c))
    falls c d f i (inl q) e = absurd (let g : floor < mark_at (set marks part floor) part = subst (λ z. floor < mark_at (set marks part floor) z) q f in omega (arith, g, here))
    falls c d f i (inr n) e = go (N.falls c d (subst (λ z. floor < z) (mark-other marks part floor c n) f) i) e
      where
        go : ((asked_at A d).birth < (asked_at A c).birth) ⊎ ((floor < mark_at marks d) × (mark_at marks d < mark_at marks c)) → (d ≡ part) ⊎ (d ≢ part)
            → ((asked_at A d).birth < (asked_at A c).birth) ⊎ ((floor < mark_at (set marks part floor) d) × (mark_at (set marks part floor) d < mark_at (set marks part floor) c))
        go (inl b) e = inl b
        go (inr b) (inl q) = absurd (let g : floor < mark_at marks part = subst (λ z. floor < mark_at marks z) q (b.0) in omega (arith, g, m))
        go (inr b) (inr o) = inr (let x = mark-other marks part floor d o in let y = mark-other marks part floor c n in let b0 = b.0 in let b1 = b.1 in (omega (arith, x, b0), omega (arith, x, y, b1)))

pub path-open : (pool : List ℕ) (T : List Node) (marks path after : List ℕ) (floor top part : ℕ) → IsPath pool T marks floor path → top ≡ get_or path (length path - 1) 0 → (0 < length path → Child pool (at T top) part) → part < length T → mark_at marks part < floor
    → length marks ≡ length T → after ≡ path ++ part ∷ [] → IsPath pool T (set marks part floor) floor after
path-open pool T marks path after floor top part P t ch l m len a = subst (IsPath pool T (set marks part floor) floor) (sym a) (record {
  within = λ p k. within-snoc (length T) part path P.within l p k;
  opened = λ p k. opened p k (place p k);
  apart = λ p q k j e. apart p q k j e (place q j);
  leads = λ p k. leads p k (place (suc p) k);
  all = λ c e. all c e (split c part);
})
  where
    more : List ℕ
    more = path ++ part ∷ []

    len-more : length more ≡ suc (length path)
    len-more = let x = length-append path (part ∷ []) in omega (arith, x)

    lm : part < length marks
    lm = omega (arith, len, l)

    here : mark_at (set marks part floor) part ≡ floor
    here = mark-here marks part floor lm

    place : (p : ℕ) → p < length more → (p < length path) ⊎ (p ≡ length path)
    place p k = go (split p (length path))
      where
        go : (p ≡ length path) ⊎ (p ≢ length path) → (p < length path) ⊎ (p ≡ length path)
        go (inl q) = inr q
        go (inr n) = inl (omega (arith, n, k, len-more))

    old : (p : ℕ) → p < length path → get_or more p 0 ≡ get_or path p 0
    old p k = at-front path (part ∷ []) p k

    new : (p : ℕ) → p ≡ length path → get_or more p 0 ≡ part
    new p q = ap (λ z. get_or more z 0) q ∙ snoc-last path part

    not-part : (p : ℕ) → p < length path → get_or path p 0 ≡ part → ⊥
    not-part p k q = let o = P.opened p k in let g : mark_at marks part ≡ floor = subst (λ z. mark_at marks z ≡ floor) q o in omega (arith, g, m)

    opened : (p : ℕ) → p < length more → (p < length path) ⊎ (p ≡ length path) → mark_at (set marks part floor) (get_or more p 0) ≡ floor
    opened p k (inl h) = ap (λ z. mark_at (set marks part floor) z) (old p h) ∙ mark-other marks part floor (get_or path p 0) (not-part p h) ∙ P.opened p h
    opened p k (inr q) = ap (λ z. mark_at (set marks part floor) z) (new p q) ∙ here

    apart : (p q : ℕ) → p < q → q < length more → get_or more p 0 ≡ get_or more q 0 → (q < length path) ⊎ (q ≡ length path) → ⊥
    apart p q k j e (inl h) = P.apart p q k h (sym (old p (omega (arith, k, h))) ∙ e ∙ old q h)
    apart p q k j e (inr h) = not-part p (omega (arith, k, h)) (sym (old p (omega (arith, k, h))) ∙ e ∙ new q h)

    leads : (p : ℕ) → suc p < length more → (suc p < length path) ⊎ (suc p ≡ length path) → Child pool (at T (get_or more p 0)) (get_or more (suc p) 0)
    leads p k (inl h) = subst (λ z. Child pool (at T z) (get_or more (suc p) 0)) (sym (old p (omega (arith, h)))) (subst (Child pool (at T (get_or path p 0))) (sym (old (suc p) h)) (P.leads p h))
    leads p k (inr h) = subst (λ z. Child pool (at T z) (get_or more (suc p) 0)) (sym (old p (omega (arith, h)) ∙ is-top)) (subst (Child pool (at T top)) (sym (new (suc p) h)) (ch (omega (arith, h))))
      where
        is-top : get_or path p 0 ≡ top
        is-top = ap (λ z. get_or path z 0) (let g : p ≡ length path - 1 = omega (arith, h) in g) ∙ sym t

    all : (c : ℕ) → mark_at (set marks part floor) c ≡ floor → (c ≡ part) ⊎ (c ≢ part) → IsIn c more
    all c e (inl q) = subst (λ z. IsIn z more) (sym q) (last-in part path)
    all c e (inr n) = in-front c path (part ∷ []) (P.all c (sym (mark-other marks part floor c n) ∙ e))

pub numbered-done : (pool : List ℕ) (T : List Node) (A : List Asked) (marks : List ℕ) (floor stamp top : ℕ) → Numbered pool T A marks floor stamp → top < length T → mark_at marks top ≡ floor
    → ((d : ℕ) → Child pool (at T top) d → IsReady A marks floor ((asked_at A top).birth) d) → Numbered pool T A (set marks top (stamp + 1)) floor (stamp + 1)
numbered-done pool T A marks floor stamp top N l m ready = record {
  long = length-set marks top (stamp + 1) ∙ N.long;
  after = let a = N.after in omega (arith, a);
  below = λ c. below c (split c top);
  falls = λ c d f i. falls c d f i (split c top) (split d top);
}
  where
    lm : top < length marks
    lm = let q = N.long in omega (arith, q, l)

    new : List ℕ
    new = set marks top (stamp + 1)

    here : mark_at new top ≡ stamp + 1
    here = mark-here marks top (stamp + 1) lm

    below : (c : ℕ) → (c ≡ top) ⊎ (c ≢ top) → mark_at new c ≤ stamp + 1
    below c (inl q) = subst (λ z. mark_at new z ≤ stamp + 1) (sym q) (omega (arith, here))
    below c (inr n) = let x = mark-other marks top (stamp + 1) c n in let b = N.below c in omega (arith, x, b)

    not-top : (d : ℕ) → floor < mark_at marks d → d ≢ top
    not-top d f q = let g : floor < mark_at marks top = subst (λ z. floor < mark_at marks z) q f in omega (arith, g, m)

    falls : (c d : ℕ) → floor < mark_at new c → Child pool (at T c) d → (c ≡ top) ⊎ (c ≢ top) → (d ≡ top) ⊎ (d ≢ top)
        → ((asked_at A d).birth < (asked_at A c).birth) ⊎ ((floor < mark_at new d) × (mark_at new d < mark_at new c))
    falls c d f i (inl q) e = subst (λ z. ((asked_at A d).birth < (asked_at A z).birth) ⊎ ((floor < mark_at new d) × (mark_at new d < mark_at new z))) (sym q) (go (ready d (subst (λ z. Child pool (at T z) d) q i)))
      where
        go : IsReady A marks floor ((asked_at A top).birth) d → ((asked_at A d).birth < (asked_at A top).birth) ⊎ ((floor < mark_at new d) × (mark_at new d < mark_at new top))
        go (inl b) = inl b
        go (inr b) = inr (let x = mark-other marks top (stamp + 1) d (not-top d b) in let y = N.below d in (omega (arith, x, b), omega (arith, x, y, here)))
    falls c d f i (inr n) e = go (N.falls c d (subst (λ z. floor < z) (mark-other marks top (stamp + 1) c n) f) i)
      where
        go : ((asked_at A d).birth < (asked_at A c).birth) ⊎ ((floor < mark_at marks d) × (mark_at marks d < mark_at marks c)) → ((asked_at A d).birth < (asked_at A c).birth) ⊎ ((floor < mark_at new d) × (mark_at new d < mark_at new c))
        go (inl b) = inl b
        go (inr b) = inr (let x = mark-other marks top (stamp + 1) d (not-top d (b.0)) in let y = mark-other marks top (stamp + 1) c n in let b0 = b.0 in let b1 = b.1 in (omega (arith, x, b0), omega (arith, x, y, b1)))

pub path-done : (pool : List ℕ) (T : List Node) (marks path rest : List ℕ) (floor v top : ℕ) → IsPath pool T marks floor path → 0 < length path → top ≡ get_or path (length path - 1) 0 → top < length marks → floor < v → rest ≡ take (length path - 1) path
    → IsPath pool T (set marks top v) floor rest
path-done pool T marks path rest floor v top P some t lm f a = subst (IsPath pool T (set marks top v) floor) (sym a) (record {
  within = λ p k. subst (λ z. z < length T) (sym (old p k)) (P.within p (longer p k));
  opened = λ p k. ap (λ z. mark_at (set marks top v) z) (old p k) ∙ mark-other marks top v (get_or path p 0) (not-top p k) ∙ P.opened p (longer p k);
  apart = λ p q k j e. P.apart p q k (longer q j) (sym (old p (omega (arith, k, j))) ∙ e ∙ old q j);
  leads = λ p k. subst (λ z. Child pool (at T z) (get_or less (suc p) 0)) (sym (old p (omega (arith, k)))) (subst (Child pool (at T (get_or path p 0))) (sym (old (suc p) k)) (P.leads p (longer (suc p) k)));
  all = λ c e. all c e (split c top);
})
  where
    less : List ℕ
    less = take (length path - 1) path

    len : length less ≡ length path - 1
    len = let x = length-take (length path - 1) path in grind (arith, x)

    longer : (p : ℕ) → p < length less → p < length path
    longer p k = omega (arith, k, len)

    old : (p : ℕ) → p < length less → get_or less p 0 ≡ get_or path p 0
    old p k = get_or-take (length path - 1) path p 0 (omega (arith, k, len))

    kept : (j : ℕ) → j ≢ length path - 1 → j < length path → j < length less
    kept j h l = omega (arith, h, l, len)

    not-top : (p : ℕ) → p < length less → get_or path p 0 ≢ top
    not-top p k q = P.apart p (length path - 1) (omega (arith, k, len)) (omega (arith, some)) (q ∙ t)

    all : (c : ℕ) → mark_at (set marks top v) c ≡ floor → (c ≡ top) ⊎ (c ≢ top) → IsIn c less
    all c e (inl q) = absurd (let x = mark-here marks top v lm in let y : mark_at (set marks top v) top ≡ floor = subst (λ z. mark_at (set marks top v) z ≡ floor) q e in omega (arith, x, y, f))
    all c e (inr n) = go (P.all c (sym (mark-other marks top v c n) ∙ e))
      where
        go : IsIn c path → IsIn c less
        go (j, l, q) = at-end (split j (length path - 1))
          where
            at-end : (j ≡ length path - 1) ⊎ (j ≢ length path - 1) → IsIn c less
            at-end (inl h) = absurd (n (sym q ∙ ap (λ z. get_or path z 0) h ∙ sym t))
            at-end (inr h) = (j, kept j h l, old j (kept j h l) ∙ q)

-- a class on the way stands in one further on, and the last in one before
pub path-endless : (pool : List ℕ) (T : List Node) (marks path : List ℕ) (floor top part : ℕ) → IsFine pool T → IsPath pool T marks floor path → 0 < length path → top ≡ get_or path (length path - 1) 0 → Child pool (at T top) part → mark_at marks part ≡ floor → IsEndless pool T
path-endless pool T marks path floor top part fi P some t ch m s r = endless pool T s (λ c. IsIn c path) fi r down part (P.all part m)
  where
    down : (c : ℕ) → IsIn c path → (d : ℕ) × Child pool (at T c) d × IsIn d path
    down c (j, l, q) = go (split j (length path - 1))
      where
        go : (j ≡ length path - 1) ⊎ (j ≢ length path - 1) → (d : ℕ) × Child pool (at T c) d × IsIn d path
        go (inl h) = (part, subst (λ z. Child pool (at T z) part) (t ∙ ap (λ z. get_or path z 0) (sym h) ∙ q) ch, P.all part m)
        go (inr h) = (get_or path (suc j) 0, subst (λ z. Child pool (at T z) (get_or path (suc j) 0)) q (P.leads j (omega (arith, h, l))), (suc j, omega (arith, h, l), refl))

pub some-if : (n : ℕ) → false ≡ (n == 0) → 0 < n
some-if zero q = absurd (cc)
some-if (suc n) q = omega arith

pub top-of : (path : List ℕ) (n x : ℕ) → length path ≡ n → 0 < n → x ≡ get_or path (n - 1) x → x ≡ get_or path (length path - 1) 0
top-of path n x l k e = e ∙ get_or_default_zero path (n - 1) x (omega (arith, l, k)) ∙ ap (λ z. get_or path (z - 1) 0) (sym l)

pub top-within : (pool : List ℕ) (T : List Node) (marks path : List ℕ) (floor top : ℕ) → IsPath pool T marks floor path → 0 < length path → top ≡ get_or path (length path - 1) 0 → (top < length T) × (mark_at marks top ≡ floor)
top-within pool T marks path floor top P k t = (subst (λ z. z < length T) (sym t) (P.within (length path - 1) (omega (arith, k))), ap (λ z. mark_at marks z) t ∙ P.opened (length path - 1) (omega (arith, k)))

-- the class at the end of the way gets a number
pub turn-done : (pool : List ℕ) (T : List Node) (A : List Asked) (marks path rest : List ℕ) (floor stamp st n top : ℕ) → Numbered pool T A marks floor stamp → IsPath pool T marks floor path → length path ≡ n → 0 < n → top ≡ get_or path (n - 1) top
    → ((d : ℕ) → Child pool (at T top) d → IsReady A marks floor ((asked_at A top).birth) d) → st ≡ stamp + 1 → rest ≡ take (n - 1) path
    → Numbered pool T A (set marks top st) floor st × IsPath pool T (set marks top st) floor rest × ((c : ℕ) → floor ≤ mark_at marks c → floor ≤ mark_at (set marks top st) c)
turn-done pool T A marks path rest floor stamp st n top N P l k t ready e a = subst (λ v. Numbered pool T A (set marks top v) floor v × IsPath pool T (set marks top v) floor rest × ((c : ℕ) → floor ≤ mark_at marks c → floor ≤ mark_at (set marks top v) c)) (sym e) (
  numbered-done pool T A marks floor stamp top N (w.0) (w.1) ready,
  path-done pool T marks path rest floor (stamp + 1) top P some t' lm over (a ∙ ap (λ z. take (z - 1) path) (sym l)),
  λ c f. seen-on floor marks top (stamp + 1) c lm (omega (arith, over)) f,
)
  where
    some : 0 < length path
    some = omega (arith, l, k)

    t' : top ≡ get_or path (length path - 1) 0
    t' = top-of path n top l k t

    w : (top < length T) × (mark_at marks top ≡ floor)
    w = top-within pool T marks path floor top P some t'

    lm : top < length marks
    lm = let x = w.0 in let y = N.long in omega (arith, x, y)

    over : floor < stamp + 1
    over = let x = N.after in omega (arith, x)

pub turn-done-less : (pool : List ℕ) (T : List Node) (A : List Asked) (marks path rest : List ℕ) (floor stamp st n top : ℕ) → Numbered pool T A marks floor stamp → IsPath pool T marks floor path → length path ≡ n → 0 < n → top ≡ get_or path (n - 1) top → st ≡ stamp + 1 → rest ≡ take (n - 1) path
    → length rest + (unseen floor (set marks top st) + unseen floor (set marks top st)) < length path + (unseen floor marks + unseen floor marks)
turn-done-less pool T A marks path rest floor stamp st n top N P l k t e a =
    let some : 0 < length path = omega (arith, l, k) in
    let w = top-within pool T marks path floor top P some (top-of path n top l k t) in
    let w0 = w.0 in let w1 = w.1 in let y = N.long in let x = N.after in
    let u = unseen-same floor marks top st (omega (arith, w0, y)) (omega (arith, w1)) (omega (arith, e, x)) in
    let r : length rest ≡ length (take (n - 1) path) = ap (λ z. length z) a in
    let q = length-take (n - 1) path in grind (arith, u, r, q, l, k)

pub turn-open : (pool : List ℕ) (T : List Node) (A : List Asked) (marks path after : List ℕ) (floor stamp n top part : ℕ) → Numbered pool T A marks floor stamp → IsPath pool T marks floor path → length path ≡ n → 0 < n → top ≡ get_or path (n - 1) top
    → Child pool (at T top) part × (part < length T) × (mark_at marks part ≤ floor) → (mark_at marks part ≡ floor → ⊥) → after ≡ path ++ part ∷ []
    → Numbered pool T A (set marks part floor) floor stamp × IsPath pool T (set marks part floor) floor after × ((c : ℕ) → floor ≤ mark_at marks c → floor ≤ mark_at (set marks part floor) c)
turn-open pool T A marks path after floor stamp n top part N P l k t (ch, lp, m) ne a = (
  numbered-open pool T A marks floor stamp part N lp (omega (arith, m, ne)),
  path-open pool T marks path after floor top part P (top-of path n top l k t) (λ _. ch) lp (omega (arith, m, ne)) N.long a,
  λ c f. seen-on floor marks part floor c (let y = N.long in omega (arith, lp, y)) (omega arith) f,
)

pub turn-open-less : (pool : List ℕ) (T : List Node) (A : List Asked) (marks path after : List ℕ) (floor stamp top part : ℕ) → Numbered pool T A marks floor stamp
    → Child pool (at T top) part × (part < length T) × (mark_at marks part ≤ floor) → (mark_at marks part ≡ floor → ⊥) → after ≡ path ++ part ∷ []
    → length after + (unseen floor (set marks part floor) + unseen floor (set marks part floor)) < length path + (unseen floor marks + unseen floor marks)
turn-open-less pool T A marks path after floor stamp top part N (ch, lp, m) ne a =
    let y = N.long in
    let u = unseen-less floor marks part floor (omega (arith, lp, y)) (omega (arith, m, ne)) (omega arith) in
    let r : length after ≡ length (path ++ part ∷ []) = ap (λ z. length z) a in
    let q = length-append path (part ∷ []) in omega (arith, u, r, q)

pub turn-endless : (pool : List ℕ) (T : List Node) (marks path : List ℕ) (floor n top part : ℕ) → IsFine pool T → IsPath pool T marks floor path → length path ≡ n → 0 < n → top ≡ get_or path (n - 1) top → Child pool (at T top) part × (part < length T) × (mark_at marks part ≤ floor) → mark_at marks part ≡ floor → IsEndless pool T
turn-endless pool T marks path floor n top part fi P l k t w m = path-endless pool T marks path floor top part fi P (omega (arith, l, k)) (top-of path n top l k t) (w.0) m

pub some-is : (o : Option ℕ) (a b : ℕ) (p : Type 0) → o ≡ Some a → SomeIff o p b → a ≡ b
some-is o a b p q h = (subst (λ z. SomeIff z p b) q h).1

unseen-up : (floor : ℕ) (marks : List ℕ) (h v : ℕ) → h < length marks → floor ≤ v → unseen floor (set marks h v) ≤ unseen floor marks
unfolding unseen one
unseen-up floor [] h v l f = absurd (omega arith)
unseen-up floor (x ∷ marks) zero v l f = let b = one-above floor v f in omega (arith, b)
unseen-up floor (x ∷ marks) (suc h) v l f = let q = unseen-up floor marks h v (omega arith) f in omega (arith, q)

-- a walk that lists classes, each after its parts
pub record Listing (T : List Node) (marks path order : List ℕ) (floor stamp : ℕ) : Type 0 where
  pub stamped : Stamped (length T) marks stamp
  pub after : floor ≤ stamp
  pub path_in : Within (length T) path
  pub order_in : Within (length T) order

stamped-set : (T : List Node) (marks : List ℕ) (h v stamp : ℕ) → h < length T → v ≤ stamp → Stamped (length T) marks stamp → Stamped (length T) (set marks h v) stamp
stamped-set T marks h v stamp l k (n, b) = (length-set marks h v ∙ n, λ c. go c (split c h))
  where
    go : (c : ℕ) → (c ≡ h) ⊎ (c ≢ h) → mark_at (set marks h v) c ≤ stamp
    go c (inl q) = subst (λ z. mark_at (set marks h v) z ≤ stamp) (sym q) (let x = mark-here marks h v (omega (arith, n, l)) in omega (arith, x, k))
    go c (inr m) = let x = mark-other marks h v c m in let y = b c in omega (arith, x, y)

pub list-open : (T : List Node) (marks path path2 order : List ℕ) (floor stamp part : ℕ) → Listing T marks path order floor stamp → part < length T → path2 ≡ path ++ part ∷ [] → Listing T (set marks part floor) path2 order floor stamp
list-open T marks path path2 order floor stamp part L l a = record {
  stamped = stamped-set T marks part floor stamp l L.after L.stamped;
  after = L.after;
  path_in = subst (Within (length T)) (sym a) (within-snoc (length T) part path L.path_in l);
  order_in = L.order_in;
}

pub list-open-less : (T : List Node) (marks path path2 order : List ℕ) (floor stamp part : ℕ) → Listing T marks path order floor stamp → part < length T → mark_at marks part ≤ floor → (mark_at marks part ≡ floor → ⊥) → path2 ≡ path ++ part ∷ []
    → length path2 + (unseen floor (set marks part floor) + unseen floor (set marks part floor)) < length path + (unseen floor marks + unseen floor marks)
list-open-less T marks path path2 order floor stamp part L l m ne a =
    let y = L.stamped.0 in
    let u = unseen-less floor marks part floor (omega (arith, l, y)) (omega (arith, m, ne)) (omega arith) in
    let r : length path2 ≡ length (path ++ part ∷ []) = ap (λ z. length z) a in
    let q = length-append path (part ∷ []) in omega (arith, u, r, q)

shorter : (n : ℕ) (path : List ℕ) (k : ℕ) → Within n path → Within n (take k path)
shorter n path k w i l = let x = length-take k path in let y : i < k = grind (arith, x, l) in subst (λ z. z < n) (sym (get_or-take k path i 0 y)) (w i (grind (arith, x, l)))

pub list-done : (T : List Node) (marks path path2 order order2 : List ℕ) (floor stamp st n top : ℕ) → Listing T marks path order floor stamp → length path ≡ n → 0 < n → top ≡ get_or path (n - 1) top → st ≡ stamp + 1 → path2 ≡ take (n - 1) path → order2 ≡ order ++ top ∷ [] → Listing T (set marks top st) path2 order2 floor st
list-done T marks path path2 order order2 floor stamp st n top L l k t e a b = subst (λ v. Listing T (set marks top v) path2 order2 floor v) (sym e) (record {
  stamped = stamped-set T marks top (stamp + 1) (stamp + 1) lt (omega arith) (L.stamped.0, λ c. (let x = L.stamped.1 c in omega (arith, x)));
  after = (let x = L.after in omega (arith, x));
  path_in = subst (Within (length T)) (sym a) (shorter (length T) path (n - 1) L.path_in);
  order_in = subst (Within (length T)) (sym b) (within-snoc (length T) top order L.order_in lt);
})
  where
    lt : top < length T
    lt = subst (λ z. z < length T) (sym (top-of path n top l k t)) (L.path_in (length path - 1) (omega (arith, l, k)))

pub list-done-less : (T : List Node) (marks path path2 order : List ℕ) (floor stamp st n top : ℕ) → Listing T marks path order floor stamp → length path ≡ n → 0 < n → top ≡ get_or path (n - 1) top → st ≡ stamp + 1 → path2 ≡ take (n - 1) path
    → length path2 + (unseen floor (set marks top st) + unseen floor (set marks top st)) < length path + (unseen floor marks + unseen floor marks)
list-done-less T marks path path2 order floor stamp st n top L l k t e a =
    let lt : top < length T = subst (λ z. z < length T) (sym (top-of path n top l k t)) (L.path_in (length path - 1) (omega (arith, l, k))) in
    let y = L.stamped.0 in let x = L.after in
    let u = unseen-up floor marks top st (omega (arith, lt, y)) (omega (arith, e, x)) in
    let r : length path2 ≡ length (take (n - 1) path) = ap (λ z. length z) a in
    let q = length-take (n - 1) path in grind (arith, u, r, q, l, k)
