-- Numbers for a table that fall towards the parts, from those of before and of the search.
use Rattle.std.proofs.Common.{◌≡◌, ℕ, zero, suc, ◌+◌, ◌<◌, ◌≤◌, List, [], ◌∷◌, length, ap, subst, arith, ◌⊎◌, inl, inr, if◌then◌else◌}
use Rattle.std.proofs.Math.Dec.{ltb}
use Rattle.std.proofs.lemmas.Bool.{lt-ltb, le-ltb, cases_lt}
use Rattle.hm_types.specs.declared.node.Node.{Node}
use Rattle.hm_types.specs.declared.node.Node.TheVariants.{Variable, Made, Link}
use Rattle.hm_types.specs.declared.node.Asked.{Asked}
use Rattle.hm_types.specs.declared.node.TypeName.{TypeName}
use Rattle.hm_types.specs.Classes.{at, asked_at}
use Rattle.hm_types.specs.Joining.{Fine, IsFine, IsIn, Within, Frame}
use Rattle.hm_types.specs.Asking.{Closes, Closed}
use Rattle.hm_types.specs.Searching.{Child, Ranked, Searched, mark_at}
use Rattle.hm_types.proofs.Steps.{in-part}

pub child-of : (pool : List ℕ) (T : List Node) (c d : ℕ) → Child pool (at T c) d → c < length T
child-of pool [] c d i = absurd i
child-of pool (v ∷ T) zero d i = omega arith
child-of pool (v ∷ T) (suc c) d i = let h = child-of pool T c d i in omega (arith, h)

pub child-in : (pool : List ℕ) (T : List Node) (c d : ℕ) → IsFine pool T → Within (length T) pool → c < length T → Child pool (at T c) d → d < length T
child-in pool T c d fi wi l i = go (at T c) (fi c) i
  where
    go : (v : Node) → Fine pool c v → Child pool v d → d < length T
    go Variable f i = absurd i
    go (Made g m k) f (j, o, q) = subst (λ z. z < length T) q (in-part (length T) pool m k wi f j o)
    go (Link e) f q = let h : d < c = subst (λ z. z < c) q f in omega (arith, h, l)

-- so many times
unfoldable pub scaled : ℕ → ℕ → ℕ
scaled n zero = 0
scaled n (suc b) = n + scaled n b

scaled-less : (n a b : ℕ) → a < b → scaled n a + n ≤ scaled n b
unfolding scaled
scaled-less n a zero l = absurd (omega arith)
scaled-less n zero (suc b) l = omega arith
scaled-less n (suc a) (suc b) l = let h = scaled-less n a b (omega (arith, l)) in omega (arith, h)

-- more than each of so many
unfoldable pub above : (ℕ → ℕ) → ℕ → ℕ
above r zero = 0
above r (suc n) = suc (r n) + above r n

pub is-above : (r : ℕ → ℕ) (n c : ℕ) → c < n → r c < above r n
unfolding above
is-above r zero c l = absurd (omega arith)
is-above r (suc n) c l = go (λ h. is-above r n c h) (cases_lt c n)
  where
    go : (c < n → r c < above r n) → (c < n) ⊎ (n ≤ c) → r c < suc (r n) + above r n
    go more (inl h) = let x = more h in omega (arith, x)
    go more (inr h) = let q : c ≡ n = omega (arith, h, l) in let e : r c ≡ r n = ap (λ z. r z) q in omega (arith, e)

closes-birth : (names : List TypeName) (pool : List ℕ) (A : List Asked) (a : Asked) (v : Node) (d : ℕ) → Closes names pool A a v → Child pool v d → (asked_at A d).birth ≤ a.birth
closes-birth names pool A a Variable d k i = absurd i
closes-birth names pool A a (Made f m n) d k i = k.1 d i
closes-birth names pool A a (Link e) d k q = subst (λ z. (asked_at A z).birth ≤ a.birth) q (k.1)

-- by the search's number, or behind all these by that of before
inner : List ℕ → ℕ → ℕ → (ℕ → ℕ) → ℕ → ℕ
inner marks floor top r c = if ltb floor (mark_at marks c) then mark_at marks c else top + r c

inner-numbered : (marks : List ℕ) (floor top : ℕ) (r : ℕ → ℕ) (c : ℕ) → floor < mark_at marks c → inner marks floor top r c ≡ mark_at marks c
unfolding inner
inner-numbered marks floor top r c l = ap (λ b. if b then mark_at marks c else top + r c) (lt-ltb floor (mark_at marks c) l)

inner-other : (marks : List ℕ) (floor top : ℕ) (r : ℕ → ℕ) (c : ℕ) → mark_at marks c ≤ floor → inner marks floor top r c ≡ top + r c
unfolding inner
inner-other marks floor top r c l = ap (λ b. if b then mark_at marks c else top + r c) (le-ltb floor (mark_at marks c) l)

pub ranks-again : (names : List TypeName) (pool : List ℕ) (T U : List Node) (A : List Asked) (marks changed : List ℕ) (floor stamp : ℕ) (r : ℕ → ℕ) → Ranked pool T r → Frame T U [] changed → IsFine pool U → Within (length U) pool
    → Closed names pool U A → ((c : ℕ) → mark_at marks c ≤ stamp) → Searched pool U A marks floor changed → (q : ℕ → ℕ) × Ranked pool U q
ranks-again names pool T U A marks changed floor stamp r k F fi wi cl below S = (rank, λ c d i. falls c d i (child-of pool U c d i))
  where
    top : ℕ
    top = suc stamp

    most : ℕ
    most = top + above r (length U)

    low : ℕ → ℕ
    low = inner marks floor top r

    rank : ℕ → ℕ
    rank c = scaled most ((asked_at A c).birth) + low c

    low-below : (c : ℕ) → c < length U → low c < most
    low-below c l = go (cases_lt floor (mark_at marks c))
      where
        go : (floor < mark_at marks c) ⊎ (mark_at marks c ≤ floor) → low c < most
        go (inl h) = let x = inner-numbered marks floor top r c h in let b = below c in omega (arith, x, b)
        go (inr h) = let x = inner-other marks floor top r c h in let b = is-above r (length U) c l in omega (arith, x, b)

    -- of one age
    even : (c d : ℕ) → Child pool (at U c) d → (asked_at A d).birth ≡ (asked_at A c).birth → low d < low c
    even c d i e = go (cases_lt floor (mark_at marks c))
      where
        numbered : floor < mark_at marks c → ((asked_at A d).birth < (asked_at A c).birth) ⊎ ((floor < mark_at marks d) × (mark_at marks d < mark_at marks c)) → low d < low c
        numbered h (inl b) = absurd (omega (arith, b, e))
        numbered h (inr b) = let x = inner-numbered marks floor top r c h in let y = inner-numbered marks floor top r d (b.0) in let z = b.1 in omega (arith, x, y, z)

        other : mark_at marks c ≤ floor → (at U c ≡ at T c) ⊎ IsIn c changed → low d < low c
        other h (inr m) = absurd (let x = S.all c m in omega (arith, h, x))
        other h (inl q) = last (cases_lt floor (mark_at marks d))
          where
            last : (floor < mark_at marks d) ⊎ (mark_at marks d ≤ floor) → low d < low c
            last (inl m) = let x = inner-other marks floor top r c h in let y = inner-numbered marks floor top r d m in let b = below d in omega (arith, x, y, b)
            last (inr m) = let x = inner-other marks floor top r c h in let y = inner-other marks floor top r d m in let b = k c d (subst (λ v. Child pool v d) q i) in omega (arith, x, y, b)

        go : (floor < mark_at marks c) ⊎ (mark_at marks c ≤ floor) → low d < low c
        go (inl h) = numbered h (S.falls c d h i)
        go (inr h) = other h (F.same c)

    falls : (c d : ℕ) → Child pool (at U c) d → c < length U → rank d < rank c
    falls c d i l = go (cases_lt ((asked_at A d).birth) ((asked_at A c).birth))
      where
        go : ((asked_at A d).birth < (asked_at A c).birth) ⊎ ((asked_at A c).birth ≤ (asked_at A d).birth) → rank d < rank c
        go (inl h) = let x = scaled-less most _ _ h in let y = low-below d (child-in pool U c d fi wi l i) in omega (arith, x, y)
        go (inr h) =
            let b = closes-birth names pool A (asked_at A c) (at U c) d (cl c l) i in
            let e : (asked_at A d).birth ≡ (asked_at A c).birth = omega (arith, h, b) in
            let x : scaled most ((asked_at A d).birth) ≡ scaled most ((asked_at A c).birth) = ap (λ z. scaled most z) e in
            let y = even c d i e in omega (arith, x, y)
