-- Two evaluations side by side, of which the second one has a greater height or more answers: neither leaves less than was there.
use Rattle.std.proofs.Common.{◌≡◌, ℕ, zero, suc, ◌+◌, ◌≤◌, Bool, true, false, cond, List, [], ◌++◌, refl, sym, ap, ◌∙◌, subst, arith}
use Rattle.std.proofs.lemmas.List.{append-nil, append_assoc}
use Rattle.web_data.specs.declared.database.WebCall.{WebCall}
use Rattle.web_data.specs.declared.database.WebAns.{WebAns}
use Rattle.sml_evaluation.specs.RunState.{RunState, Ending, Done, Raised, BadStatement, Over, Waits, NoRule, then_do, handled, state_left, count_of}
use Rattle.eval_laws.specs.Heights.{Betters, with_more, Begins, calls_of, Extends}

-- a height at which what ran out counts so many more, or answers more
pub data Mode : Type 0 where
  Higher : ℕ → Mode
  Longer : List WebAns → Mode

abbrev pub more_of : Mode → List WebAns
more_of (Higher k) = []
more_of (Longer more) = more

-- the second state
abbrev pub along : {H : Type 0} → Mode → RunState H → RunState H
along m s = with_more (more_of m) s

-- ---- states further on

pub begins_self : (calls : List WebCall) → Begins calls calls
begins_self calls = ([], sym (append-nil calls))

begins_then : (a b c : List WebCall) → Begins a b → Begins b c → Begins a c
begins_then a b c p q = (p.0 ++ q.0, q.1 ∙ (ap (λ z. z ++ q.0) p.1 ∙ append_assoc a p.0 q.0))

-- a state that an evaluation from another one may come to
pub record Onward (H : Type 0) (s t : RunState H) : Type 0 where
  pub count : s.count ≤ t.count
  pub calls : Begins s.shared.calls t.shared.calls

pub on : {H : Type 0} {s t : RunState H} → s.count ≤ t.count → t.shared.calls ≡ s.shared.calls → Onward H s t
on {s = s} l e = record { count = l; calls = ([], e ∙ sym (append-nil s.shared.calls)) }

pub stays : {H : Type 0} (s : RunState H) → Onward H s s
stays s = on (omega arith) refl

pub onward : {H : Type 0} {s t u : RunState H} → Onward H s t → Onward H t u → Onward H s u
onward {s = s} {t = t} {u = u} p q =
    let a = p.count in let b = q.count in
    record { count = omega (arith, a, b); calls = begins_then s.shared.calls t.shared.calls u.shared.calls p.calls q.calls }

-- ---- outcomes side by side

abbrev pub RanOut : {N V H A : Type 0} → Mode → RunState H → Ending N V H A → Type 0
RanOut (Higher k) s p = s.count + k ≤ count_of p
RanOut (Longer more) s p = p ≡ Over (with_more more s)

abbrev pub Waited : {N V H A : Type 0} → Mode → RunState H → Ending N V H A → Type 0
Waited (Higher k) s p = p ≡ Waits (with_more [] s)
Waited (Longer more) s p = Begins s.shared.calls (calls_of p)

abbrev pub Relates : {N V H A : Type 0} → Mode → Ending N V H A → Ending N V H A → Type 0
Relates m (Done a s) p = p ≡ Done a (along m s)
Relates m (Raised v s) p = p ≡ Raised v (along m s)
Relates m (BadStatement place s) p = p ≡ BadStatement place (along m s)
Relates m (Over s) p = RanOut m s p
Relates m (Waits s) p = Waited m s p
Relates m (NoRule n s) p = p ≡ NoRule n (along m s)

pub record R (N V H A : Type 0) (m : Mode) (s : RunState H) (o p : Ending N V H A) : Type 0 where
  pub low : Onward H s (state_left o)
  pub high : Onward H s (state_left p)
  pub better : Relates m o p

-- more answers take nothing from a state
along_on : {H : Type 0} {s : RunState H} (m : Mode) (t : RunState H) → Onward H s t → Onward H s (along m t)
along_on m t p = record { count = p.count; calls = p.calls }

-- ends that are there on both sides
pub done : {N V H A : Type 0} {m : Mode} {s t : RunState H} {a : A} → Onward H s t → R N V H A m s (Done a t) (Done a (along m t))
done {m = m} {t = t} p = record { low = p; high = along_on m t p; better = refl }

pub raised : {N V H A : Type 0} {m : Mode} {s t : RunState H} {v : V} → Onward H s t → R N V H A m s (Raised v t) (Raised v (along m t))
raised {m = m} {t = t} p = record { low = p; high = along_on m t p; better = refl }

pub refused : {N V H A : Type 0} {m : Mode} {s t : RunState H} {place : ℕ} → Onward H s t → R N V H A m s (BadStatement place t) (BadStatement place (along m t))
refused {m = m} {t = t} p = record { low = p; high = along_on m t p; better = refl }

pub no_rule : {N V H A : Type 0} {m : Mode} {s t : RunState H} {n : N} → Onward H s t → R N V H A m s (NoRule n t) (NoRule n (along m t))
no_rule {m = m} {t = t} p = record { low = p; high = along_on m t p; better = refl }

waited_here : (N V A : Type 0) {H : Type 0} (m : Mode) (t : RunState H) → Waited {N = N} {V = V} {A = A} m t (Waits (along m t))
waited_here N V A (Higher k) t = refl
waited_here N V A (Longer more) t = begins_self t.shared.calls

pub waits : {N V H A : Type 0} {m : Mode} {s t : RunState H} → Onward H s t → R N V H A m s (Waits t) (Waits (along m t))
waits {N = N} {V = V} {A = A} {m = m} {t = t} p = record { low = p; high = along_on m t p; better = waited_here N V A m t }

-- the same, in the state at hand
pub done_here : {N V H A : Type 0} {m : Mode} {s : RunState H} {a : A} → R N V H A m s (Done a s) (Done a (along m s))
done_here {s = s} = done (stays s)

pub waits_here : {N V H A : Type 0} {m : Mode} {s : RunState H} → R N V H A m s (Waits s) (Waits (along m s))
waits_here {s = s} = waits (stays s)

pub weaker : {N V H A : Type 0} {m : Mode} {s t : RunState H} {o p : Ending N V H A} → Onward H s t → R N V H A m t o p → R N V H A m s o p
weaker l r = record { low = onward l r.low; high = onward l r.high; better = r.better }

pub if_R : {N V H A : Type 0} {m : Mode} {s : RunState H} (b : Bool) {x y x1 y1 : Ending N V H A} → R N V H A m s x x1 → R N V H A m s y y1 → R N V H A m s (cond b x y) (cond b x1 y1)
if_R true f g = f
if_R false f g = g

-- ---- what follows, side by side, and by itself

abbrev pub Follows : (N V H A B : Type 0) → Mode → (A → RunState H → Ending N V H B) → (A → RunState H → Ending N V H B) → Type 0
Follows N V H A B m f f1 = (a : A) (s : RunState H) → R N V H B m s (f a s) (f1 a (along m s))

abbrev pub Grows : (N V H A B : Type 0) → (A → RunState H → Ending N V H B) → Type 0
Grows N V H A B f = (a : A) (s : RunState H) → Onward H s (state_left (f a s))

goes_on : {N V H A B : Type 0} (s : RunState H) (o : Ending N V H A) (f : A → RunState H → Ending N V H B) → Onward H s (state_left o) → Grows N V H A B f → Onward H s (state_left (then_do o f))
goes_on s (Done a t) f l h = onward l (h a t)
goes_on s (Raised v t) f l h = l
goes_on s (BadStatement place t) f l h = l
goes_on s (Over t) f l h = l
goes_on s (Waits t) f l h = l
goes_on s (NoRule n t) f l h = l

-- it only grows, so that what holds of a count or of calls goes on to hold
counts_on : {N V H A B : Type 0} (n : ℕ) (o : Ending N V H A) (f : A → RunState H → Ending N V H B) → n ≤ count_of o → Grows N V H A B f → n ≤ count_of (then_do o f)
counts_on n (Done a t) f l h = let b = (h a t).count in omega (arith, l, b)
counts_on n (Raised v t) f l h = l
counts_on n (BadStatement place t) f l h = l
counts_on n (Over t) f l h = l
counts_on n (Waits t) f l h = l
counts_on n (NoRule x t) f l h = l

calls_on : {N V H A B : Type 0} (calls : List WebCall) (o : Ending N V H A) (f : A → RunState H → Ending N V H B) → Begins calls (calls_of o) → Grows N V H A B f → Begins calls (calls_of (then_do o f))
calls_on calls (Done a t) f l h = begins_then calls t.shared.calls (calls_of (f a t)) l (h a t).calls
calls_on calls (Raised v t) f l h = l
calls_on calls (BadStatement place t) f l h = l
calls_on calls (Over t) f l h = l
calls_on calls (Waits t) f l h = l
calls_on calls (NoRule x t) f l h = l

over_then : {N V H A B : Type 0} (m : Mode) (t : RunState H) (p : Ending N V H A) (f : A → RunState H → Ending N V H B) → RanOut m t p → Grows N V H A B f → RanOut m t (then_do p f)
over_then (Higher k) t p f l h = counts_on (t.count + k) p f l h
over_then (Longer more) t p f l h = ap (λ q. then_do q f) l

waits_then : {N V H A B : Type 0} (m : Mode) (t : RunState H) (p : Ending N V H A) (f : A → RunState H → Ending N V H B) → Waited m t p → Grows N V H A B f → Waited m t (then_do p f)
waits_then (Higher k) t p f l h = ap (λ q. then_do q f) l
waits_then (Longer more) t p f l h = calls_on t.shared.calls p f l h

then_from : {N V H A B : Type 0} (m : Mode) (s : RunState H) (o p : Ending N V H A) (f f1 : A → RunState H → Ending N V H B) → R N V H A m s o p → Follows N V H A B m f f1 → Grows N V H A B f1 → R N V H B m s (then_do o f) (then_do p f1)
then_from {N = N} {V = V} {H = H} {B = B} m s (Done a t) p f f1 r h g = subst (λ q. R N V H B m s (f a t) (then_do q f1)) (sym r.better) (weaker r.low (h a t))
then_from {N = N} {V = V} {H = H} {B = B} m s (Raised v t) p f f1 r h g = subst (λ q. R N V H B m s (Raised v t) (then_do q f1)) (sym r.better) (raised r.low)
then_from {N = N} {V = V} {H = H} {B = B} m s (BadStatement place t) p f f1 r h g = subst (λ q. R N V H B m s (BadStatement place t) (then_do q f1)) (sym r.better) (refused r.low)
then_from m s (Over t) p f f1 r h g = record { low = r.low; high = goes_on s p f1 r.high g; better = over_then m t p f1 r.better g }
then_from m s (Waits t) p f f1 r h g = record { low = r.low; high = goes_on s p f1 r.high g; better = waits_then m t p f1 r.better g }
then_from {N = N} {V = V} {H = H} {B = B} m s (NoRule x t) p f f1 r h g = subst (λ q. R N V H B m s (NoRule x t) (then_do q f1)) (sym r.better) (no_rule r.low)

pub then_R : {N V H A B : Type 0} {m : Mode} {s : RunState H} {o p : Ending N V H A} (f f1 : A → RunState H → Ending N V H B) → R N V H A m s o p → Follows N V H A B m f f1 → Grows N V H A B f1 → R N V H B m s (then_do o f) (then_do p f1)
then_R {m = m} {s = s} {o = o} {p = p} f f1 r h g = then_from m s o p f f1 r h g

-- ---- packets handled

hands_on : {N V H A : Type 0} (s : RunState H) (o : Ending N V H A) (f : V → RunState H → Ending N V H A) → Onward H s (state_left o) → Grows N V H V A f → Onward H s (state_left (handled o f))
hands_on s (Done a t) f l h = l
hands_on s (Raised v t) f l h = onward l (h v t)
hands_on s (BadStatement place t) f l h = l
hands_on s (Over t) f l h = l
hands_on s (Waits t) f l h = l
hands_on s (NoRule n t) f l h = l

over_handled : {N V H A : Type 0} (m : Mode) (t : RunState H) (p : Ending N V H A) (f : V → RunState H → Ending N V H A) → RanOut m t p → Grows N V H V A f → RanOut m t (handled p f)
over_handled (Longer more) t p f l h = ap (λ q. handled q f) l
over_handled (Higher k) t (Done a u) f l h = l
over_handled (Higher k) t (Raised v u) f l h = let b = (h v u).count in omega (arith, l, b)
over_handled (Higher k) t (BadStatement place u) f l h = l
over_handled (Higher k) t (Over u) f l h = l
over_handled (Higher k) t (Waits u) f l h = l
over_handled (Higher k) t (NoRule n u) f l h = l

waits_handled : {N V H A : Type 0} (m : Mode) (t : RunState H) (p : Ending N V H A) (f : V → RunState H → Ending N V H A) → Waited m t p → Grows N V H V A f → Waited m t (handled p f)
waits_handled (Higher k) t p f l h = ap (λ q. handled q f) l
waits_handled (Longer more) t (Raised v u) f l h = begins_then t.shared.calls u.shared.calls (calls_of (f v u)) l (h v u).calls
waits_handled (Longer more) t (Done a u) f l h = l
waits_handled (Longer more) t (BadStatement place u) f l h = l
waits_handled (Longer more) t (Over u) f l h = l
waits_handled (Longer more) t (Waits u) f l h = l
waits_handled (Longer more) t (NoRule n u) f l h = l

handled_from : {N V H A : Type 0} (m : Mode) (s : RunState H) (o p : Ending N V H A) (f f1 : V → RunState H → Ending N V H A) → R N V H A m s o p → Follows N V H V A m f f1 → Grows N V H V A f1 → R N V H A m s (handled o f) (handled p f1)
handled_from {N = N} {V = V} {H = H} {A = A} m s (Done a t) p f f1 r h g = subst (λ q. R N V H A m s (Done a t) (handled q f1)) (sym r.better) (done r.low)
handled_from {N = N} {V = V} {H = H} {A = A} m s (Raised v t) p f f1 r h g = subst (λ q. R N V H A m s (f v t) (handled q f1)) (sym r.better) (weaker r.low (h v t))
handled_from {N = N} {V = V} {H = H} {A = A} m s (BadStatement place t) p f f1 r h g = subst (λ q. R N V H A m s (BadStatement place t) (handled q f1)) (sym r.better) (refused r.low)
handled_from m s (Over t) p f f1 r h g = record { low = r.low; high = hands_on s p f1 r.high g; better = over_handled m t p f1 r.better g }
handled_from m s (Waits t) p f f1 r h g = record { low = r.low; high = hands_on s p f1 r.high g; better = waits_handled m t p f1 r.better g }
handled_from {N = N} {V = V} {H = H} {A = A} m s (NoRule x t) p f f1 r h g = subst (λ q. R N V H A m s (NoRule x t) (handled q f1)) (sym r.better) (no_rule r.low)

pub handled_R : {N V H A : Type 0} {m : Mode} {s : RunState H} {o p : Ending N V H A} (f f1 : V → RunState H → Ending N V H A) → R N V H A m s o p → Follows N V H V A m f f1 → Grows N V H V A f1 → R N V H A m s (handled o f) (handled p f1)
handled_R {m = m} {s = s} {o = o} {p = p} f f1 r h g = handled_from m s o p f f1 r h g

-- ---- heights and answers

-- what ran out counts one more at the next height, where that begins with one
pub ran_out : {N V H A : Type 0} {s t : RunState H} {p : Ending N V H A} → s.count + 1 ≤ t.count → t.shared.calls ≡ s.shared.calls → Onward H t (state_left p) → R N V H A (Higher 1) s (Over s) p
ran_out {s = s} l e h = let b = h.count in record { low = stays s; high = onward (on (omega (arith, l)) e) h; better = omega (arith, l, b) }

pub no_more : {H : Type 0} (s : RunState H) → with_more [] s ≡ s
no_more s = ap (λ answers. record (s) { shared = record (s.shared) { answers = answers } }) (append-nil s.shared.answers)

as_betters : {N V H A : Type 0} (k : ℕ) (o p : Ending N V H A) → Relates (Higher k) o p → Betters k o p
as_betters k (Done a s) p r = r ∙ ap (Done a) (no_more s)
as_betters k (Raised v s) p r = r ∙ ap (Raised v) (no_more s)
as_betters k (BadStatement place s) p r = r ∙ ap (BadStatement place) (no_more s)
as_betters k (Over s) p r = r
as_betters k (Waits s) p r = r ∙ ap Waits (no_more s)
as_betters k (NoRule n s) p r = r ∙ ap (NoRule n) (no_more s)

-- what holds at a greater height, of evaluations as functions of the state
pub betters_at : {N V H A : Type 0} (k : ℕ) (f : RunState H → Ending N V H A) (o : Ending N V H A) (s : RunState H) → R N V H A (Higher k) s o (f (with_more [] s)) → Betters k o (f s)
betters_at k f o s r = subst (λ t. Betters k o (f t)) (no_more s) (as_betters k o (f (with_more [] s)) r.better)

pub as_extends : {N V H A : Type 0} (more : List WebAns) (o p : Ending N V H A) → Relates (Longer more) o p → Extends more o p
as_extends more (Done a s) p r = r
as_extends more (Raised v s) p r = r
as_extends more (BadStatement place s) p r = r
as_extends more (Over s) p r = r
as_extends more (Waits s) p r = r
as_extends more (NoRule n s) p r = r

pub then_betters : {N V H A : Type 0} (o p q : Ending N V H A) → Betters 1 o p → Betters 1 p q → Betters 1 o q
then_betters (Done a s) p q h g = subst (λ x. Betters 1 x q) h g
then_betters (Raised v s) p q h g = subst (λ x. Betters 1 x q) h g
then_betters (BadStatement place s) p q h g = subst (λ x. Betters 1 x q) h g
then_betters (Waits s) p q h g = subst (λ x. Betters 1 x q) h g
then_betters (NoRule n s) p q h g = subst (λ x. Betters 1 x q) h g
then_betters {N = N} {V = V} {H = H} {A = A} (Over s) p q h g = over_more p q h g
  where
    over_more : (x y : Ending N V H A) → s.count + 1 ≤ count_of x → Betters 1 x y → s.count + 1 ≤ count_of y
    over_more (Done a t) y l e = subst (λ z. s.count + 1 ≤ count_of z) (sym e) l
    over_more (Raised v t) y l e = subst (λ z. s.count + 1 ≤ count_of z) (sym e) l
    over_more (BadStatement place t) y l e = subst (λ z. s.count + 1 ≤ count_of z) (sym e) l
    over_more (Waits t) y l e = subst (λ z. s.count + 1 ≤ count_of z) (sym e) l
    over_more (NoRule n t) y l e = subst (λ z. s.count + 1 ≤ count_of z) (sym e) l
    over_more (Over t) y l e = omega (arith, l, e)

pub one_more : (n : ℕ) → suc n ≡ n + suc zero
one_more n = omega arith

pub and_more : (n m : ℕ) → suc (n + suc m) ≡ n + suc (suc m)
and_more n m = omega arith
