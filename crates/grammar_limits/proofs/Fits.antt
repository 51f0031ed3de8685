-- Numbers that tell from where on something holds, and acts with them.
use Rattle.std.proofs.Common.{◌≡◌, ℕ, zero, suc, ◌+◌, ◌≤◌, max, min, List, [], ◌∷◌, ◌++◌, None, refl, ap, ◌∙◌, append_assoc, subst, arith}
use Rattle.grammar_rules.specs.Programs.{Each}
use Rattle.sml_grammar.specs.declared.act.Made.{Made}
use Rattle.sml_grammar.specs.declared.act.Act.{Act}
use Rattle.sml_grammar.specs.Machine.{made}
use Rattle.parse_limits.specs.Heights.{first_high, too_high, growth_of, grown_by, else_high}
use Rattle.grammar_limits.specs.Grows.{Fit, Grows, Joins}

max-left : (k h n : ℕ) → max k h ≤ n → k ≤ n
max-left k h n e = omega (arith, e)

max-right : (k h n : ℕ) → max k h ≤ n → h ≤ n
max-right k h n e = omega (arith, e)

max-bounds : (k h n : ℕ) → k ≤ n → h ≤ n → max k h ≤ n
max-bounds k h n e f = omega (arith, e, f)

node-bounds : (g n : ℕ) → g ≤ n → min (1 + max 0 g) 201 ≤ suc n
node-bounds g n e = omega (arith, e)

node-holds : (g n : ℕ) → suc n ≤ 200 → min (1 + max 0 g) 201 ≤ suc n → g ≤ n
node-holds g n e f = omega (arith, e, f)

node-zero : (g : ℕ) → min (1 + max 0 g) 201 ≤ 0 → ⊥
node-zero g e = omega (arith, e)

gather-bounds : (g n : ℕ) → g ≤ n → min (0 + max 0 g) 201 ≤ n
gather-bounds g n e = omega (arith, e)

gather-holds : (g n : ℕ) → n ≤ 200 → min (0 + max 0 g) 201 ≤ n → g ≤ n
gather-holds g n e f = omega (arith, e, f)

suc-below : (n : ℕ) → suc n ≤ 200 → n ≤ 200
suc-below n e = omega (arith, e)

zero-below : (n : ℕ) → 0 ≤ n
zero-below n = omega arith

-- a number by itself
pub own : (g : ℕ) → Fit g (λ n. g ≤ n)
own g = record { holds = λ n l e. e; bounds = λ n l e. e }

-- the same said otherwise
pub other : {h : ℕ} {P R : ℕ → Type 0} → Fit h P → ((n : ℕ) → P n → R n) → ((n : ℕ) → R n → P n) → Fit h R
other f to from = record { holds = λ n l e. to n (f.holds n l e); bounds = λ n l e. f.bounds n l (from n e) }

-- the greatest of parts
pub none : Fit 0 (λ n. Unit {0})
none = record { holds = λ n l e. tt; bounds = λ n l e. zero-below n }

pub with : {h k : ℕ} {P Q : ℕ → Type 0} → Fit k Q → Fit h P → Fit (max k h) (λ n. P n × Q n)
with {h} {k} q p = record {
  holds = λ n l e. (p.holds n l (max-right k h n e), q.holds n l (max-left k h n e));
  bounds = λ n l e. max-bounds k h n (q.bounds n l e.1) (p.bounds n l e.0);
}

pub one : {h : ℕ} {P : ℕ → Type 0} → Fit h P → Fit (max h 0) P
one p = other (with p none) (λ n q. q.1) (λ n q. (tt, q))

pub two : {h k : ℕ} {P Q : ℕ → Type 0} → Fit h P → Fit k Q → Fit (max k (max h 0)) (λ n. P n × Q n)
two p q = with q (one p)

pub three : {h k l : ℕ} {P Q R : ℕ → Type 0} → Fit h P → Fit k Q → Fit l R → Fit (max l (max k (max h 0))) (λ n. P n × Q n × R n)
three p q r = other (with r (two p q)) (λ n z. (z.0.0, z.0.1, z.1)) (λ n z. ((z.0, z.1), z.2))

-- values that are gathered
pub gathered : {g : ℕ} {Q : ℕ → Type 0} → Fit g Q → Fit (min (0 + max 0 g) 201) Q
gathered {g} q = record {
  holds = λ n l e. q.holds n l (gather-holds g n l e);
  bounds = λ n l e. gather-bounds g n (q.bounds n l e);
}

-- a node over its parts
pub node : {g : ℕ} {Q R : ℕ → Type 0} → Fit g Q → (R 0 → ⊥) → ((n : ℕ) → Q n → R (suc n)) → ((n : ℕ) → R (suc n) → Q n) → Fit (min (1 + max 0 g) 201) R
node {g} {Q} {R} q low to from = record { holds = up; bounds = down }
  where
    up : (n : ℕ) → n ≤ 200 → min (1 + max 0 g) 201 ≤ n → R n
    up zero l e = absurd (node-zero g e)
    up (suc n) l e = to n (q.holds n (suc-below n l) (node-holds g n l e))

    down : (n : ℕ) → n ≤ 200 → R n → min (1 + max 0 g) 201 ≤ n
    down zero l e = absurd (low e)
    down (suc n) l e = node-bounds g n (q.bounds n (suc-below n l) (from n e))

-- nothing more
pub end : {h : ℕ} {hs : List ℕ} {P : ℕ → Type 0} → Fit h P → Grows [] (h ∷ hs) hs P
end {h} f = record { height = h; fit = f; grows = λ more. refl }

-- acts, and then others
pub g-then : {n m : List Made} {old below hs : List ℕ} {P R : ℕ → Type 0} → Grows n old below P → ((h : ℕ) → Fit h P → Grows m (h ∷ below) hs R) → Grows (n ++ m) old hs R
g-then {n} {m} {old} p q = let r = q p.height p.fit in record { height = r.height; fit = r.fit; grows = λ more. ap (λ z. first_high z old) (append_assoc n m more) ∙ p.grows (m ++ more) ∙ r.grows more }

-- an act, and then others
pub g-act : {f : Act} {to : ℕ} {n : List Made} {old ws below : List ℕ} {P : ℕ → Type 0} → too_high f old ≡ None → grown_by (growth_of f) old ≡ ws → Grows n ws below P → Grows (made f to ∷ n) old below P
unfolding first_high
g-act {f = f} {n = n} {old = old} e h p = record {
  height = p.height;
  fit = p.fit;
  grows = λ more.
      ap (λ z. else_high z (first_high (n ++ more) (grown_by (growth_of f) old))) e ∙ ap (λ z. first_high (n ++ more) z) h ∙ p.grows more;
}

-- the same said otherwise
pub recast : {new : List Made} {old below : List ℕ} {P R : ℕ → Type 0} → Grows new old below P → ((n : ℕ) → P n → R n) → ((n : ℕ) → R n → P n) → Grows new old below R
recast p to from = record { height = p.height; fit = other p.fit to from; grows = p.grows }

-- acts that join something to what is gathered, by what it stands for
pub join : {new : List Made} {g : ℕ} {hs : List ℕ} {P Q : ℕ → Type 0} → Fit g Q → Joins new P → Grows new (g ∷ hs) hs (λ n. Q n × P n)
join {new} {g} {hs} {P} {Q} q p = let r = p g hs in record {
  height = r.height;
  grows = r.grows;
  fit = record {
    holds = λ n l e. let z = r.fit.holds n l e in (q.holds n l z.0, z.1);
    bounds = λ n l e. r.fit.bounds n l (q.bounds n l e.0, e.1);
  };
}

-- the last of a list is gathered
pub last-of : {A : Type 0} (P : ℕ → A → Type 0) (x : A) {g : ℕ} {hs : List ℕ} {Q : ℕ → Type 0} → Fit g (λ n. Q n × P n x) → Grows [] (g ∷ hs) hs (λ n. Q n × Each (P n) (x ∷ []))
last-of P x f = end (other f (λ n q. (q.0, (q.1, tt))) (λ n q. (q.0, q.1.0)))

-- one of a list is gathered, and then the others
pub more-of : {A : Type 0} (P : ℕ → A → Type 0) (x : A) (xs : List A) {new : List Made} {g : ℕ} {hs : List ℕ} {Q : ℕ → Type 0} → Fit g (λ n. Q n × P n x) → Joins new (λ n. Each (P n) xs) → Grows new (g ∷ hs) hs (λ n. Q n × Each (P n) (x ∷ xs))
more-of P x xs f j = recast (join f j) (λ n q. (q.0.0, (q.0.1, q.1))) (λ n q. ((q.0, q.1.0), q.1.1))

-- what is gathered onto nothing
pub only : {h : ℕ} {P : ℕ → Type 0} → Fit h (λ n. Unit {0} × P n) → Fit h P
only f = other f (λ n z. z.1) (λ n z. (tt, z))

-- the last two of three together
pub paired : {h : ℕ} {P Q R : ℕ → Type 0} → Fit h (λ n. P n × Q n × R n) → Fit h (λ n. P n × (Q n × R n))
paired f = other f (λ n z. (z.0, (z.1, z.2))) (λ n z. (z.0, z.1.0, z.1.1))

-- a list of no parts
pub no-more : (g : ℕ) (hs : List ℕ) → Grows [] (g ∷ hs) hs (λ n. (g ≤ n) × Unit {0})
no-more g hs = end (other (own g) (λ n z. (z, tt)) (λ n z. z.0))

-- what holds nowhere at 0 has a height
pub at-least : {h : ℕ} {P : ℕ → Type 0} → Fit h P → (P 0 → ⊥) → 1 ≤ h
at-least {h = zero} f low = absurd (low (f.holds 0 (zero-below 200) (zero-below 0)))
at-least {h = suc h} f low = omega arith

pub moved : {h k : ℕ} {P : ℕ → Type 0} → Fit h P → h ≡ k → Fit k P
moved {P = P} f e = subst (λ z. Fit z P) e f
