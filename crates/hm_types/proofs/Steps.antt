-- The cases of the unifier's step.
use Rattle.std.proofs.Common.{IfOk, Result, Ok, Err, ◌≡◌, ◌≢◌, ℕ, suc, ◌+◌, ◌-◌, ◌<◌, ◌≤◌, List, [], ◌∷◌, ◌++◌, length, drop, false, refl, ap, sym, ◌∙◌, subst, arith, get_or, set, length-set, length-take, length-drop, length-append, get_or-take, get_or-drop, ◌⊎◌, inl, inr}
use Rattle.type_terms.specs.TypeTerms.{made}
use Rattle.hm_types.specs.declared.node.Node.{Node}
use Rattle.hm_types.specs.declared.node.Node.TheVariants.{Variable, Made, Link}
use Rattle.hm_types.specs.Classes.{Assign, at, terms_of, part_list, Holds, Respects, Stands, stands_made, stands_free, stands_on}
use Rattle.hm_types.specs.Joining.{Fine, IsFine, IsLink, Within, Pairs, PairsIn, pairs_of, size_of, weight, Steps, Keeps, NoSolution}
use Rattle.hm_types.proofs.Sets.{split, at-set, at-other, respects-set, respects-unset, respects-at, fine-set, weight-set, pairs-append, pairs-left, pairs-right, in-append, in-left, in-right, pairs-terms, terms-pairs, terms-length}

-- both give the class the same type
abbrev pub Same : List Node → ℕ → ℕ → Type 0
Same nodes x y = (pool : List ℕ) (s : Assign) → Respects pool nodes s → s x ≡ s y

pub stands-same : (T : List Node) (c r : ℕ) → Stands T c r → Same T c r
stands-same T c r (stands_made q) pool s h = refl
stands-same T c r (stands_free q) pool s h = refl
stands-same T c r (stands_on {d = d} q t) pool s h = subst (Holds pool s c) q (h c) ∙ stands-same T d r t pool s h

pub stands-self : (T : List Node) (c : ℕ) → IsLink (at T c) ≡ false → Stands T c c
stands-self T c h = go (at T c) refl h
  where
    go : (v : Node) → at T c ≡ v → IsLink v ≡ false → Stands T c c
    go Variable q l = stands_free q
    go (Made f i k) q l = stands_made q
    go (Link d) q l = absurd (cc)

comes-link : (T : List Node) (h l c f i k : ℕ) → h < length T → at (set T h (Link l)) c ≡ Made f i k → at T c ≡ Made f i k
comes-link T h l c f i k lt e = go (split c h)
  where
    go : (c ≡ h) ⊎ (c ≢ h) → at T c ≡ Made f i k
    go (inl q) = absurd (let a : at (set T h (Link l)) c ≡ Link l = subst (λ z. at (set T h (Link l)) z ≡ Link l) (sym q) (at-set T h (Link l) lt) in let b : Made f i k ≡ Link l = sym e ∙ a in cc)
    go (inr n) = sym (at-other T h c (Link l) n) ∙ e

comes-low : (T : List Node) (low high c f i k g j m : ℕ) → low < length T → at T high ≡ Made f i k → at (set T low (Made f i k)) c ≡ Made g j m → (d : ℕ) × (at T d ≡ Made g j m)
comes-low T low high c f i k g j m lt ih e = go (split c low)
  where
    go : (c ≡ low) ⊎ (c ≢ low) → (d : ℕ) × (at T d ≡ Made g j m)
    go (inl q) = (high, ih ∙ sym (subst (λ z. at (set T low (Made f i k)) z ≡ Made f i k) (sym q) (at-set T low (Made f i k) lt)) ∙ e)
    go (inr n) = (c, sym (at-other T low c (Made f i k) n) ∙ e)

pub at-is : (pool : List ℕ) (T : List Node) (c : ℕ) (v : Node) (s : Assign) → at T c ≡ v → Respects pool T s → Holds pool s c v
at-is pool T c v s q r = subst (Holds pool s c) q (r c)

in-len : (n m : ℕ) (w : List (ℕ × ℕ)) → n ≡ m → PairsIn n w → PairsIn m w
in-len n m w q h = subst (λ z. PairsIn z w) q h

pub high-free : (pool : List ℕ) (T : List Node) (low high : ℕ) (w : List (ℕ × ℕ)) → IsFine pool T → high < length T → low < high → at T high ≡ Variable → PairsIn (length T) w → Steps pool T ((low, high) ∷ w) (set T high (Link low)) w
unfolding Pairs
high-free pool T low high w fi hi lo is inw = record {
  there = λ s r p. (respects-set pool T high (Link low) s hi r (sym (p.0)), p.1);
  back = λ s r p. (respects-unset pool T high (Link low) s r (subst (Holds pool s high) (sym is) tt), (sym (respects-at pool T high (Link low) s hi r), p));
  fine = fine-set pool T high (Link low) hi fi lo;
  same_length = length-set T high (Link low);
  pairs_in = in-len _ _ w (sym (length-set T high (Link low))) inw;
  comes = λ c f i k e. (c, comes-link T high low c f i k hi e);
}

pub low-free : (pool : List ℕ) (T : List Node) (low high f i k : ℕ) (w : List (ℕ × ℕ)) → IsFine pool T → high < length T → low < high → at T low ≡ Variable → at T high ≡ Made f i k → PairsIn (length T) w
    → Steps pool T ((low, high) ∷ w) (set (set T low (Made f i k)) high (Link low)) w
unfolding Pairs
low-free pool T low high f i k w fi hi lo is ih inw = record {
  there = λ s r p.
      let g : s high ≡ made f (terms_of s (part_list pool i k)) = at-is pool T high (Made f i k) s ih r in
      (respects-set pool U high (Link low) s hiU (respects-set pool T low (Made f i k) s lT r (p.0 ∙ g)) (sym (p.0)), p.1);
  back = λ s r p.
      let g : s high ≡ s low = respects-at pool U high (Link low) s hiU r in
      let m : at U low ≡ Made f i k = at-set T low (Made f i k) lT in
      let n : Holds pool s low (at (set U high (Link low)) low) = r low in
      let o : s low ≡ made f (terms_of s (part_list pool i k)) = subst (Holds pool s low) (at-other U high low (Link low) (omega (arith, lo)) ∙ m) n in
      let t : Respects pool U s = respects-unset pool U high (Link low) s r (subst (Holds pool s high) (sym (at-other T low high (Made f i k) (omega (arith, lo)) ∙ ih)) (g ∙ o)) in
      (respects-unset pool T low (Made f i k) s t (subst (Holds pool s low) (sym is) tt), (sym g, p));
  fine = fine-set pool U high (Link low) hiU (fine-set pool T low (Made f i k) lT fi (subst (Fine pool high) ih (fi high))) lo;
  same_length = length-set U high (Link low) ∙ length-set T low (Made f i k);
  pairs_in = in-len _ _ w (sym (length-set U high (Link low) ∙ length-set T low (Made f i k))) inw;
  comes = λ c g j m e. comes-low T low high c f i k g j m lT ih (comes-link U high low c g j m hiU e);
}
  where
    lT : low < length T
    lT = omega (arith, lo, hi)

    U : List Node
    U = set T low (Made f i k)

    hiU : high < length U
    hiU = omega (arith, hi, length-set T low (Made f i k))

pub part-length : (pool : List ℕ) (i k : ℕ) → i + k ≤ length pool → length (part_list pool i k) ≡ k
part-length pool i k h = let a = length-take k (drop i pool) in let b = length-drop i pool in grind (arith, a, b)

pub both-made : (pool : List ℕ) (T : List Node) (low high f i j k : ℕ) (w : List (ℕ × ℕ)) → IsFine pool T → Within (length T) pool → high < length T → low < high → at T low ≡ Made f i k → at T high ≡ Made f j k → PairsIn (length T) w
    → PairsIn (length T) (pairs_of (part_list pool i k) (part_list pool j k))
    → Steps pool T ((low, high) ∷ w) (set T high (Link low)) (w ++ pairs_of (part_list pool i k) (part_list pool j k))
unfolding Pairs
both-made pool T low high f i j k w fi wi hi lo is ih inw inp = record {
  there = λ s r p.
      let g : s low ≡ made f (terms_of s (part_list pool i k)) = at-is pool T low (Made f i k) s is r in
      let h : s high ≡ made f (terms_of s (part_list pool j k)) = at-is pool T high (Made f j k) s ih r in
      let e : made f (terms_of s (part_list pool i k)) ≡ made f (terms_of s (part_list pool j k)) = sym g ∙ p.0 ∙ h in
      (respects-set pool T high (Link low) s hi r (sym (p.0)), pairs-append s w _ (p.1) (pairs-terms s (part_list pool i k) (part_list pool j k) (cc)));
  back = λ s r p.
      let g : s high ≡ s low = respects-at pool T high (Link low) s hi r in
      let n : Holds pool s low (at (set T high (Link low)) low) = r low in
      let o : s low ≡ made f (terms_of s (part_list pool i k)) = subst (Holds pool s low) (at-other T high low (Link low) (omega (arith, lo)) ∙ is) n in
      let t = terms-pairs s (part_list pool i k) (part_list pool j k) (part-length pool i k (subst (Fine pool low) is (fi low)) ∙ sym (part-length pool j k (subst (Fine pool high) ih (fi high)))) (pairs-right s w _ p) in
      (respects-unset pool T high (Link low) s r (subst (Holds pool s high) (sym ih) (g ∙ o ∙ ap (made f) t)), (sym g, pairs-left s w _ p));
  fine = fine-set pool T high (Link low) hi fi lo;
  same_length = length-set T high (Link low);
  pairs_in = in-len _ _ _ (sym (length-set T high (Link low))) (in-append (length T) w _ inw inp);
  comes = λ c g m n e. (c, comes-link T high low c g m n hi e);
}

pub differs : (pool : List ℕ) (T : List Node) (low high f g i j k m : ℕ) (w : List (ℕ × ℕ)) → IsFine pool T → at T low ≡ Made f i k → at T high ≡ Made g j m → ((f ≡ g) → (k ≡ m) → ⊥) → NoSolution pool T ((low, high) ∷ w)
unfolding Pairs
differs pool T low high f g i j k m w fi is ih n s r p =
    let a : s low ≡ made f (terms_of s (part_list pool i k)) = at-is pool T low (Made f i k) s is r in
    let b : s high ≡ made g (terms_of s (part_list pool j m)) = at-is pool T high (Made g j m) s ih r in
    let e : made f (terms_of s (part_list pool i k)) ≡ made g (terms_of s (part_list pool j m)) = sym a ∙ p.0 ∙ b in
    let t : length (part_list pool i k) ≡ length (part_list pool j m) = terms-length s (part_list pool i k) (part_list pool j m) (cc) in
    n (cc) (sym (part-length pool i k (subst (Fine pool low) is (fi low))) ∙ t ∙ part-length pool j m (subst (Fine pool high) ih (fi high)))

-- the loop: a pair is taken, its roots are joined
pub step-on : (pool : List ℕ) (T0 T T' : List Node) (w0 w w' : List (ℕ × ℕ)) (x y p q : ℕ) → Steps pool T0 w0 T (w ++ (x, y) ∷ []) → Same T x p → Same T y q → Steps pool T ((p, q) ∷ w) T' w' → Steps pool T0 w0 T' w'
unfolding Pairs
step-on pool T0 T T' w0 w w' x y p q F u v G = record {
  there = λ s r h.
      let (a, b) = F.there s r h in
      let e = pairs-right s w ((x, y) ∷ []) b in
      G.there s a (sym (u pool s a) ∙ e.0 ∙ v pool s a, pairs-left s w _ b);
  back = λ s r h.
      let (a, b) = G.back s r h in
      F.back s a (pairs-append s w ((x, y) ∷ []) (b.1) (u pool s a ∙ b.0 ∙ sym (v pool s a), tt));
  fine = G.fine;
  same_length = G.same_length ∙ F.same_length;
  pairs_in = G.pairs_in;
  comes = λ c f i k e. let (d, o) = G.comes c f i k e in F.comes d f i k o;
}

pub step-flip : (pool : List ℕ) (T T' : List Node) (w w' : List (ℕ × ℕ)) (p q : ℕ) → Steps pool T ((q, p) ∷ w) T' w' → Steps pool T ((p, q) ∷ w) T' w'
unfolding Pairs
step-flip pool T T' w w' p q G = record {
  there = λ s r h. G.there s r (sym (h.0), h.1);
  back = λ s r h. let (a, b) = G.back s r h in (a, (sym (b.0), b.1));
  fine = G.fine;
  same_length = G.same_length;
  pairs_in = G.pairs_in;
  comes = G.comes;
}

pub step-same : (pool : List ℕ) (T : List Node) (w : List (ℕ × ℕ)) (p : ℕ) → IsFine pool T → PairsIn (length T) w → Steps pool T ((p, p) ∷ w) T w
unfolding Pairs
step-same pool T w p fi inw = record {
  there = λ s r h. (r, h.1);
  back = λ s r h. (r, (refl, h));
  fine = fi;
  same_length = refl;
  pairs_in = inw;
  comes = λ c f i k e. (c, e);
}

pub none-on : (pool : List ℕ) (T0 T : List Node) (w0 w : List (ℕ × ℕ)) (x y p q : ℕ) → Steps pool T0 w0 T (w ++ (x, y) ∷ []) → Same T x p → Same T y q → NoSolution pool T ((p, q) ∷ w) → NoSolution pool T0 w0
unfolding Pairs
none-on pool T0 T w0 w x y p q F u v n s r h =
    let (a, b) = F.there s r h in
    let e = pairs-right s w ((x, y) ∷ []) b in
    n s a (sym (u pool s a) ∙ e.0 ∙ v pool s a, pairs-left s w _ b)

pub less-free : (T : List Node) (low high : ℕ) → high < length T → at T high ≡ Variable → weight (set T high (Link low)) ≤ weight T
less-free T low high hi is = let q = weight-set T high (Link low) hi in let p : size_of (at T high) ≡ 1 = ap (λ z. size_of z) is in omega (arith, q, p)

pub less-low : (T : List Node) (low high f i k : ℕ) → high < length T → low < high → at T low ≡ Variable → at T high ≡ Made f i k → weight (set (set T low (Made f i k)) high (Link low)) ≤ weight T
less-low T low high f i k hi lo is ih =
    let U = set T low (Made f i k) in
    let l : length U ≡ length T = length-set T low (Made f i k) in
    let q = weight-set T low (Made f i k) (omega arith) in
    let r = weight-set U high (Link low) (omega arith) in
    let p : size_of (at T low) ≡ 1 = ap (λ z. size_of z) is in
    let o : size_of (at U high) ≡ suc k = ap (λ z. size_of z) (at-other T low high (Made f i k) (omega (arith, lo)) ∙ ih) in
    omega (arith, q, r, p, o)

pub pairs-length : (xs ys : List ℕ) → length (pairs_of xs ys) ≤ length xs
unfolding pairs_of
pairs-length [] ys = omega arith
pairs-length (x ∷ xs) [] = omega arith
pairs-length (x ∷ xs) (y ∷ ys) = let q = pairs-length xs ys in omega (arith, q)

pub less-both : (pool : List ℕ) (T : List Node) (low high f i j k : ℕ) (w : List (ℕ × ℕ)) → IsFine pool T → high < length T → at T low ≡ Made f i k → at T high ≡ Made f j k
    → length (w ++ pairs_of (part_list pool i k) (part_list pool j k)) + weight (set T high (Link low)) ≤ length w + weight T
less-both pool T low high f i j k w fi hi is ih =
    let q = weight-set T high (Link low) hi in
    let p : size_of (at T high) ≡ suc k = ap (λ z. size_of z) ih in
    let l = part-length pool i k (subst (Fine pool low) is (fi low)) in
    let m = pairs-length (part_list pool i k) (part_list pool j k) in
    let n = length-append w (pairs_of (part_list pool i k) (part_list pool j k)) in
    omega (arith, q, p, l, m, n)

pub in-pairs : (n : ℕ) (xs ys : List ℕ) → Within n xs → Within n ys → PairsIn n (pairs_of xs ys)
unfolding PairsIn pairs_of
in-pairs n [] ys h g = tt
in-pairs n (x ∷ xs) [] h g = tt
in-pairs n (x ∷ xs) (y ∷ ys) h g = (h 0 (omega arith), g 0 (omega arith), in-pairs n xs ys (λ i l. h (suc i) (omega arith)) (λ i l. g (suc i) (omega arith)))

pub in-part : (n : ℕ) (pool : List ℕ) (i k : ℕ) → Within n pool → i + k ≤ length pool → Within n (part_list pool i k)
in-part n pool i k h l m g =
    let q : length (part_list pool i k) ≡ k = part-length pool i k l in
    let e : get_or (part_list pool i k) m 0 ≡ get_or pool (i + m) 0 = get_or-take k (drop i pool) m 0 (omega (arith, g, q)) ∙ get_or-drop i pool m 0 in
    subst (λ z. z < n) (sym e) (h (i + m) (omega (arith, g, q, l)))

pub in-parts : (n : ℕ) (pool : List ℕ) (i j k : ℕ) → Within n pool → i + k ≤ length pool → j + k ≤ length pool → PairsIn n (pairs_of (part_list pool i k) (part_list pool j k))
in-parts n pool i j k h g l = in-pairs n _ _ (in-part n pool i k h g) (in-part n pool j k h l)

taken : (i k : ℕ) → i + k - i ≡ k
taken i k = omega arith

-- two made classes, by what the code has found out
pub both-law : (pool : List ℕ) (T : List Node) (low high f g i j k m : ℕ) (w w' : List (ℕ × ℕ)) → IsFine pool T → Within (length T) pool → high < length T → low < high → at T low ≡ Made g i m → at T high ≡ Made f j k → g ≡ f → m ≡ k → PairsIn (length T) w
    → w' ≡ w ++ pairs_of (part_list pool i (i + m - i)) (part_list pool j (j + k - j))
    → Steps pool T ((low, high) ∷ w) (set T high (Link low)) w' × (length w' + weight (set T high (Link low)) ≤ length w + weight T)
both-law pool T low high f g i j k m w w' fi wi hi lo is ih q r inw e =
    let is2 : at T low ≡ Made f i k = is ∙ ap (λ z. Made z i m) q ∙ ap (Made f i) r in
    let e2 : w' ≡ w ++ pairs_of (part_list pool i k) (part_list pool j k) = e ∙ ap (λ z. w ++ pairs_of (part_list pool i z) (part_list pool j (j + k - j))) (taken i m ∙ r) ∙ ap (λ z. w ++ pairs_of (part_list pool i k) (part_list pool j z)) (taken j k) in
    let li : i + k ≤ length pool = subst (Fine pool low) is2 (fi low) in
    let lj : j + k ≤ length pool = subst (Fine pool high) ih (fi high) in (
      subst (λ z. Steps pool T ((low, high) ∷ w) (set T high (Link low)) z) (sym e2) (both-made pool T low high f i j k w fi wi hi lo is2 ih inw (in-parts (length T) pool i j k wi li lj)),
      subst (λ z. length z + weight (set T high (Link low)) ≤ length w + weight T) (sym e2) (less-both pool T low high f i j k w fi hi is2 ih),
    )

-- a pair stands for the pair of its roots
pub by-roots : (pool : List ℕ) (T T' : List Node) (w w' : List (ℕ × ℕ)) (x y p q : ℕ) → Same T x p → Same T y q → Steps pool T ((p, q) ∷ w) T' w' → Steps pool T ((x, y) ∷ w) T' w'
unfolding Pairs
by-roots pool T T' w w' x y p q u v G = record {
  there = λ s r h. G.there s r (sym (u pool s r) ∙ h.0 ∙ v pool s r, h.1);
  back = λ s r h. let (a, b) = G.back s r h in (a, (u pool s a ∙ b.0 ∙ sym (v pool s a), b.1));
  fine = G.fine;
  same_length = G.same_length;
  pairs_in = G.pairs_in;
  comes = G.comes;
}

pub none-by-roots : (pool : List ℕ) (T : List Node) (w : List (ℕ × ℕ)) (x y p q : ℕ) → Same T x p → Same T y q → NoSolution pool T ((p, q) ∷ w) → NoSolution pool T ((x, y) ∷ w)
unfolding Pairs
none-by-roots pool T w x y p q u v n s r h = n s r (sym (u pool s r) ∙ h.0 ∙ v pool s r, h.1)

pub none-flip : (pool : List ℕ) (T : List Node) (w : List (ℕ × ℕ)) (p q : ℕ) → NoSolution pool T ((q, p) ∷ w) → NoSolution pool T ((p, q) ∷ w)
unfolding Pairs
none-flip pool T w p q n s r h = n s r (sym (h.0), h.1)

pub in-one : (n x y : ℕ) → x < n → y < n → PairsIn n ((x, y) ∷ [])
unfolding PairsIn
in-one n x y h g = (h, g, tt)

-- taking the last pair
pub taken-last : (pool : List ℕ) (T0 T : List Node) (w0 v w : List (ℕ × ℕ)) (p : ℕ × ℕ) → v ≡ w ++ p ∷ [] → Steps pool T0 w0 T v
    → (p.0 < length T) × (p.1 < length T) × PairsIn (length T) w
unfolding PairsIn
taken-last pool T0 T w0 v w p e F =
    let i : PairsIn (length T) (w ++ p ∷ []) = subst (PairsIn (length T)) e F.pairs_in in
    let r = in-right (length T) w (p ∷ []) i in
    (r.0, r.1, in-left (length T) w (p ∷ []) i)

pub go-on : (pool : List ℕ) (T0 T T' : List Node) (w0 v w w' : List (ℕ × ℕ)) (p : ℕ × ℕ) → v ≡ w ++ p ∷ [] → Steps pool T0 w0 T v → Steps pool T (p ∷ w) T' w' → Steps pool T0 w0 T' w'
go-on pool T0 T T' w0 v w w' p e F G = step-on pool T0 T T' w0 w w' (p.0) (p.1) (p.0) (p.1) (subst (Steps pool T0 w0 T) e F) (λ l s r. refl) (λ l s r. refl) G

pub none-go-on : (pool : List ℕ) (T0 T : List Node) (w0 v w : List (ℕ × ℕ)) (p : ℕ × ℕ) → v ≡ w ++ p ∷ [] → Steps pool T0 w0 T v → NoSolution pool T (p ∷ w) → NoSolution pool T0 w0
none-go-on pool T0 T w0 v w p e F n = none-on pool T0 T w0 w (p.0) (p.1) (p.0) (p.1) (subst (Steps pool T0 w0 T) e F) (λ l s r. refl) (λ l s r. refl) n

pub steps-start : (pool : List ℕ) (T : List Node) (w : List (ℕ × ℕ)) → IsFine pool T → PairsIn (length T) w → Steps pool T w T w
steps-start pool T w fi inw = record {
  there = λ s r h. (r, h);
  back = λ s r h. (r, h);
  fine = fi;
  same_length = refl;
  pairs_in = inw;
  comes = λ c f i k e. (c, e);
}

pub ok-to : {A E : Type 0} (P Q : A → Type 0) (r : Result A E) → ((x : A) → P x → Q x) → IfOk r P → IfOk r Q
ok-to P Q (Ok x) f h = f x h
ok-to P Q (Err e) f h = tt

pub by-one-root : (pool : List ℕ) (T : List Node) (w : List (ℕ × ℕ)) (x y p q : ℕ) → IsFine pool T → PairsIn (length T) w → p ≡ q → Same T x p → Same T y q → Steps pool T ((x, y) ∷ w) T w
by-one-root pool T w x y p q fi inw e u v = by-roots pool T T w w x y p q u v (subst (λ z. Steps pool T ((p, z) ∷ w) T w) e (step-same pool T w p fi inw))

pub not-a-link : (v : Node) → ((d : ℕ) → v ≡ Link d → ⊥) → IsLink v ≡ false
not-a-link Variable n = refl
not-a-link (Made f i k) n = refl
not-a-link (Link d) n = absurd (n d refl)

pub steps-keep : (pool : List ℕ) (T U : List Node) (v w : List (ℕ × ℕ)) → Steps pool T v U w → Keeps pool T U
steps-keep pool T U v w F = record { fine = F.fine; same_length = F.same_length; comes = F.comes }

pub keeps-is : (pool : List ℕ) (T U V : List Node) → Keeps pool T U → V ≡ U → Keeps pool T V
keeps-is pool T U V K q = subst (Keeps pool T) (sym q) K

pub keeps-same : (pool : List ℕ) (T : List Node) → IsFine pool T → Keeps pool T T
keeps-same pool T fi = record { fine = fi; same_length = refl; comes = λ c f i k e. (c, e) }
