-- Two evaluations side by side: neither counts less than is counted already, and the second one betters the first.
use Rattle.std.proofs.Common.{◌≡◌, ℕ, zero, suc, ◌+◌, ◌≤◌, Bool, true, false, cond, refl, sym, subst, arith}
use Rattle.sml_evaluation.specs.RunState.{RunState, Ending, Done, Raised, BadStatement, Over, Waits, NoRule, then_do, handled, count_of}
use Rattle.eval_laws.specs.Heights.{Betters}

pub record R (N V H A : Type 0) (k n : ℕ) (o p : Ending N V H A) : Type 0 where
  pub low : n ≤ count_of o
  pub high : n ≤ count_of p
  pub better : Betters k o p

pub stays : {N V H A : Type 0} {k : ℕ} (n : ℕ) (o : Ending N V H A) → n ≤ count_of o → Betters k o o → R N V H A k n o o
stays n o l b = record { low = l; high = l; better = b }

-- ends that are there on both sides
pub done_R : {N V H A : Type 0} {k n : ℕ} {a : A} {s : RunState H} → n ≤ s.count → R N V H A k n (Done a s) (Done a s)
done_R l = record { low = l; high = l; better = refl }

pub raised_R : {N V H A : Type 0} {k n : ℕ} {v : V} {s : RunState H} → n ≤ s.count → R N V H A k n (Raised v s) (Raised v s)
raised_R l = record { low = l; high = l; better = refl }

pub waits_R : {N V H A : Type 0} {k n : ℕ} {s : RunState H} → n ≤ s.count → R N V H A k n (Waits s) (Waits s)
waits_R l = record { low = l; high = l; better = refl }

pub no_rule_R : {N V H A : Type 0} {k n : ℕ} {x : N} {s : RunState H} → n ≤ s.count → R N V H A k n (NoRule x s) (NoRule x s)
no_rule_R l = record { low = l; high = l; better = refl }

pub weaker : {N V H A : Type 0} {k n : ℕ} (m : ℕ) {o p : Ending N V H A} → n ≤ m → R N V H A k m o p → R N V H A k n o p
weaker m l r = let a = r.low in let b = r.high in record { low = omega (arith, l, a); high = omega (arith, l, b); better = r.better }

pub if_R : {N V H A : Type 0} {k n : ℕ} (b : Bool) {x y x1 y1 : Ending N V H A} → R N V H A k n x x1 → R N V H A k n y y1 → R N V H A k n (cond b x y) (cond b x1 y1)
if_R true f g = f
if_R false f g = g

-- what follows, side by side
abbrev pub Follows : (N V H A B : Type 0) → ℕ → (A → RunState H → Ending N V H B) → (A → RunState H → Ending N V H B) → Type 0
Follows N V H A B k f f1 = (a : A) (s : RunState H) → R N V H B k s.count (f a s) (f1 a s)

-- what comes after counts no less
pub goes_up : {N V H A B : Type 0} (k n : ℕ) (o : Ending N V H A) (f f1 : A → RunState H → Ending N V H B) → n ≤ count_of o → Follows N V H A B k f f1 → n ≤ count_of (then_do o f1)
goes_up k n (Done a s) f f1 l h = let b = (h a s).high in omega (arith, l, b)
goes_up k n (Raised v s) f f1 l h = l
goes_up k n (BadStatement place s) f f1 l h = l
goes_up k n (Over s) f f1 l h = l
goes_up k n (Waits s) f f1 l h = l
goes_up k n (NoRule x s) f f1 l h = l

pub then_from : {N V H A B : Type 0} (k n : ℕ) (o p : Ending N V H A) (f f1 : A → RunState H → Ending N V H B) → R N V H A k n o p → Follows N V H A B k f f1 → R N V H B k n (then_do o f) (then_do p f1)
then_from {N = N} {V = V} {H = H} {B = B} k n (Done a s) p f f1 r h = subst (λ q. R N V H B k n (f a s) (then_do q f1)) (sym r.better) (weaker s.count r.low (h a s))
then_from {N = N} {V = V} {H = H} {B = B} k n (Raised v s) p f f1 r h = subst (λ q. R N V H B k n (Raised v s) (then_do q f1)) (sym r.better) (raised_R r.low)
then_from {N = N} {V = V} {H = H} {B = B} k n (BadStatement place s) p f f1 r h = subst (λ q. R N V H B k n (BadStatement place s) (then_do q f1)) (sym r.better) (record { low = r.low; high = r.low; better = refl })
then_from k n (Over s) p f f1 r h = record { low = r.low; high = goes_up k n p f f1 r.high h; better = goes_up k (s.count + k) p f f1 r.better h }
then_from {N = N} {V = V} {H = H} {B = B} k n (Waits s) p f f1 r h = subst (λ q. R N V H B k n (Waits s) (then_do q f1)) (sym r.better) (waits_R r.low)
then_from {N = N} {V = V} {H = H} {B = B} k n (NoRule x s) p f f1 r h = subst (λ q. R N V H B k n (NoRule x s) (then_do q f1)) (sym r.better) (no_rule_R r.low)

pub then_R : {N V H A B : Type 0} {k n : ℕ} {o p : Ending N V H A} {f f1 : A → RunState H → Ending N V H B} → R N V H A k n o p → Follows N V H A B k f f1 → R N V H B k n (then_do o f) (then_do p f1)
then_R {k = k} {n = n} {o = o} {p = p} {f = f} {f1 = f1} r h = then_from k n o p f f1 r h

pub handles_up : {N V H A : Type 0} (k n : ℕ) (o : Ending N V H A) (f f1 : V → RunState H → Ending N V H A) → n ≤ count_of o → Follows N V H V A k f f1 → n ≤ count_of (handled o f1)
handles_up k n (Done a s) f f1 l h = l
handles_up k n (Raised v s) f f1 l h = let b = (h v s).high in omega (arith, l, b)
handles_up k n (BadStatement place s) f f1 l h = l
handles_up k n (Over s) f f1 l h = l
handles_up k n (Waits s) f f1 l h = l
handles_up k n (NoRule x s) f f1 l h = l

pub handled_from : {N V H A : Type 0} (k n : ℕ) (o p : Ending N V H A) (f f1 : V → RunState H → Ending N V H A) → R N V H A k n o p → Follows N V H V A k f f1 → R N V H A k n (handled o f) (handled p f1)
handled_from {N = N} {V = V} {H = H} {A = A} k n (Done a s) p f f1 r h = subst (λ q. R N V H A k n (Done a s) (handled q f1)) (sym r.better) (done_R r.low)
handled_from {N = N} {V = V} {H = H} {A = A} k n (Raised v s) p f f1 r h = subst (λ q. R N V H A k n (f v s) (handled q f1)) (sym r.better) (weaker s.count r.low (h v s))
handled_from {N = N} {V = V} {H = H} {A = A} k n (BadStatement place s) p f f1 r h = subst (λ q. R N V H A k n (BadStatement place s) (handled q f1)) (sym r.better) (record { low = r.low; high = r.low; better = refl })
handled_from k n (Over s) p f f1 r h = record { low = r.low; high = handles_up k n p f f1 r.high h; better = handles_up k (s.count + k) p f f1 r.better h }
handled_from {N = N} {V = V} {H = H} {A = A} k n (Waits s) p f f1 r h = subst (λ q. R N V H A k n (Waits s) (handled q f1)) (sym r.better) (waits_R r.low)
handled_from {N = N} {V = V} {H = H} {A = A} k n (NoRule x s) p f f1 r h = subst (λ q. R N V H A k n (NoRule x s) (handled q f1)) (sym r.better) (no_rule_R r.low)

pub handled_R : {N V H A : Type 0} {k n : ℕ} {o p : Ending N V H A} {f f1 : V → RunState H → Ending N V H A} → R N V H A k n o p → Follows N V H V A k f f1 → R N V H A k n (handled o f) (handled p f1)
handled_R {k = k} {n = n} {o = o} {p = p} {f = f} {f1 = f1} r h = handled_from k n o p f f1 r h

-- ---- heights

pub then_betters : {N V H A : Type 0} (o p q : Ending N V H A) → Betters 1 o p → Betters 1 p q → Betters 1 o q
then_betters (Done a s) p q h g = subst (λ x. Betters 1 x q) h g
then_betters (Raised v s) p q h g = subst (λ x. Betters 1 x q) h g
then_betters (BadStatement place s) p q h g = subst (λ x. Betters 1 x q) h g
then_betters (Waits s) p q h g = subst (λ x. Betters 1 x q) h g
then_betters (NoRule n s) p q h g = subst (λ x. Betters 1 x q) h g
then_betters {N = N} {V = V} {H = H} {A = A} (Over s) p q h g = over_more p q h g
  where
    over_more : (x y : Ending N V H A) → s.count + 1 ≤ count_of x → Betters 1 x y → s.count + 1 ≤ count_of y
    over_more (Done a t) y l e = subst (λ z. s.count + 1 ≤ count_of z) (sym e) l
    over_more (Raised v t) y l e = subst (λ z. s.count + 1 ≤ count_of z) (sym e) l
    over_more (BadStatement place t) y l e = subst (λ z. s.count + 1 ≤ count_of z) (sym e) l
    over_more (Waits t) y l e = subst (λ z. s.count + 1 ≤ count_of z) (sym e) l
    over_more (NoRule n t) y l e = subst (λ z. s.count + 1 ≤ count_of z) (sym e) l
    over_more (Over t) y l e = omega (arith, l, e)

pub one_more : (n : ℕ) → suc n ≡ n + suc zero
one_more n = omega arith

pub and_more : (n m : ℕ) → suc (n + suc m) ≡ n + suc (suc m)
and_more n m = omega arith
