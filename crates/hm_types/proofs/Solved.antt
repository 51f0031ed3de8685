-- A table in which no type holds itself has an assignment for each choice at its variables, and only one.
use Rattle.std.proofs.Common.{◌≡◌, ℕ, zero, suc, ◌+◌, ◌<◌, ◌≤◌, List, [], ◌∷◌, length, refl, ap, sym, ◌∙◌, subst, arith, get_or, ◌⊎◌, inl, inr}
use Rattle.type_terms.specs.TypeTerms.{Term, Terms, variable, made, no_terms, terms}
use Rattle.hm_types.specs.declared.node.Node.{Node}
use Rattle.hm_types.specs.declared.node.Node.TheVariants.{Variable, Made, Link}
use Rattle.hm_types.specs.Classes.{Assign, at, terms_of, part_list, Holds, Respects}
use Rattle.hm_types.specs.Joining.{Fine, IsFine, IsIn}
use Rattle.hm_types.specs.Searching.{Child, Ranked}

-- what the node says of the class c, variables being as in v and the rest as in s
abbrev pub layer : List ℕ → Assign → Assign → ℕ → Node → Term ℕ
layer pool v s c Variable = v c
layer pool v s c (Made f i k) = made f (terms_of s (part_list pool i k))
layer pool v s c (Link d) = s d

unfoldable pub val : List ℕ → List Node → Assign → ℕ → Assign
val pool nodes v zero c = v c
val pool nodes v (suc n) c = layer pool v (val pool nodes v n) c (at nodes c)

pub data Reaches (pool : List ℕ) (nodes : List Node) : ℕ → ℕ → Type 0 where
  itself : (c : ℕ) → Reaches pool nodes c c
  through : {c d e : ℕ} → Child pool (at nodes c) d → Reaches pool nodes d e → Reaches pool nodes c e

terms-agree : (s u : Assign) (xs : List ℕ) → ((d : ℕ) → IsIn d xs → s d ≡ u d) → terms_of s xs ≡ terms_of u xs
unfolding terms_of
terms-agree s u [] h = refl
terms-agree s u (x ∷ xs) h = ap (λ z. terms z (terms_of s xs)) (h x (0, omega arith, refl)) ∙ ap (terms (u x)) (terms-agree s u xs (λ d i. h d (suc (i.0), (let l = i.1 in omega (arith, l)), i.2)))

layer-agree : (pool : List ℕ) (v s u : Assign) (c : ℕ) (w : Node) → ((d : ℕ) → Child pool w d → s d ≡ u d) → layer pool v s c w ≡ layer pool v u c w
layer-agree pool v s u c Variable h = refl
layer-agree pool v s u c (Made f i k) h = ap (made f) (terms-agree s u (part_list pool i k) h)
layer-agree pool v s u c (Link d) h = h d refl

val-fuel : (pool : List ℕ) (T : List Node) (v : Assign) (r : ℕ → ℕ) → Ranked pool T r → (n m c : ℕ) → r c < n → r c < m → val pool T v n c ≡ val pool T v m c
unfolding val
val-fuel pool T v r k zero m c h g = absurd (omega (arith, h))
val-fuel pool T v r k (suc n) zero c h g = absurd (omega (arith, g))
val-fuel pool T v r k (suc n) (suc m) c h g = layer-agree pool v (val pool T v n) (val pool T v m) c (at T c) (λ d i. let l = k c d i in val-fuel pool T v r k n m d (omega (arith, l, h)) (omega (arith, l, g)))

pub solution : List ℕ → List Node → (ℕ → ℕ) → Assign → Assign
solution pool T r v c = val pool T v (suc (r c)) c

solution-layer : (pool : List ℕ) (T : List Node) (v : Assign) (r : ℕ → ℕ) → Ranked pool T r → (c : ℕ) → solution pool T r v c ≡ layer pool v (solution pool T r v) c (at T c)
unfolding solution val
solution-layer pool T v r k c = layer-agree pool v (val pool T v (r c)) (solution pool T r v) c (at T c) (λ d i. val-fuel pool T v r k (r c) (suc (r d)) d (k c d i) (omega arith))

layer-holds : (pool : List ℕ) (v s : Assign) (c : ℕ) (w : Node) → s c ≡ layer pool v s c w → Holds pool s c w
layer-holds pool v s c Variable h = tt
layer-holds pool v s c (Made f i k) h = h
layer-holds pool v s c (Link d) h = h

-- each choice at the variables is met
pub solvable : (pool : List ℕ) (T : List Node) (v : Assign) (r : ℕ → ℕ) → Ranked pool T r → Respects pool T (solution pool T r v)
solvable pool T v r k c = layer-holds pool v (solution pool T r v) c (at T c) (solution-layer pool T v r k c)

pub at-variable : (pool : List ℕ) (T : List Node) (v : Assign) (r : ℕ → ℕ) → Ranked pool T r → (c : ℕ) → at T c ≡ Variable → solution pool T r v c ≡ v c
at-variable pool T v r k c h = solution-layer pool T v r k c ∙ ap (layer pool v (solution pool T r v) c) h

holds-layer : (pool : List ℕ) (s : Assign) (c : ℕ) (w : Node) → Holds pool s c w → s c ≡ layer pool s s c w
holds-layer pool s c Variable h = refl
holds-layer pool s c (Made f i k) h = h
holds-layer pool s c (Link d) h = h

same-layer : (pool : List ℕ) (s u : Assign) (c : ℕ) (w : Node) → (w ≡ Variable → s c ≡ u c) → ((d : ℕ) → Child pool w d → s d ≡ u d) → layer pool s s c w ≡ layer pool u u c w
same-layer pool s u c Variable g h = g refl
same-layer pool s u c (Made f i k) g h = ap (made f) (terms-agree s u (part_list pool i k) h)
same-layer pool s u c (Link d) g h = h d refl

-- two assignments that agree at the variables that c reaches agree at c
unique-by : (pool : List ℕ) (T : List Node) (r : ℕ → ℕ) (s u : Assign) → Ranked pool T r → Respects pool T s → Respects pool T u → (n c : ℕ) → r c < n
    → ((d : ℕ) → Reaches pool T c d → at T d ≡ Variable → s d ≡ u d) → s c ≡ u c
unique-by pool T r s u k a b zero c l h = absurd (omega (arith, l))
unique-by pool T r s u k a b (suc n) c l h =
    holds-layer pool s c (at T c) (a c)
    ∙ same-layer pool s u c (at T c) (λ q. h c (itself c) q) (λ d i. let m = k c d i in unique-by pool T r s u k a b n d (omega (arith, m, l)) (λ e j q. h e (through i j) q))
    ∙ sym (holds-layer pool u c (at T c) (b c))

pub unique : (pool : List ℕ) (T : List Node) (r : ℕ → ℕ) (s u : Assign) → Ranked pool T r → Respects pool T s → Respects pool T u → (c : ℕ)
    → ((d : ℕ) → Reaches pool T c d → at T d ≡ Variable → s d ≡ u d) → s c ≡ u c
unique pool T r s u k a b c h = unique-by pool T r s u k a b (suc (r c)) c (omega arith) h

-- a type is larger than its parts
unfoldable mutual
  pub size : Term ℕ → ℕ
  size (variable e n) = 1
  size (made f ts) = suc (sizes ts)

  pub sizes : Terms ℕ → ℕ
  sizes no_terms = 0
  sizes (terms t ts) = size t + sizes ts

part-size : (s : Assign) (xs : List ℕ) (j : ℕ) → j < length xs → size (s (get_or xs j 0)) ≤ sizes (terms_of s xs)
unfolding size terms_of
part-size s [] j l = absurd (omega arith)
part-size s (x ∷ xs) zero l = omega arith
part-size s (x ∷ xs) (suc j) l = let h = part-size s xs j (omega (arith, l)) in omega (arith, h)

child-size : (pool : List ℕ) (s : Assign) (c d : ℕ) (w : Node) → Fine pool c w → Holds pool s c w → Child pool w d → (size (s d) < size (s c)) ⊎ ((size (s d) ≡ size (s c)) × (d < c))
unfolding size
child-size pool s c d Variable fi h i = absurd i
child-size pool s c d (Made f m k) fi h (j, l, q) =
    let g = part-size s (part_list pool m k) j l in
    let e : size (s d) ≡ size (s (get_or (part_list pool m k) j 0)) = ap (λ z. size (s z)) (sym q) in
    let o : size (s c) ≡ suc (sizes (terms_of s (part_list pool m k))) = ap (λ z. size z) h in
    inl (omega (arith, g, e, o))
child-size pool s c d (Link e) fi h q = inr (ap (λ z. size (s z)) (sym q) ∙ ap (λ z. size z) (sym h), subst (λ z. z < c) q fi)

-- classes each of which holds another one of them: no assignment
endless-by : (pool : List ℕ) (T : List Node) (s : Assign) (U : ℕ → Type 0) → IsFine pool T → Respects pool T s → ((c : ℕ) → U c → (d : ℕ) × Child pool (at T c) d × U d)
    → (n m c : ℕ) → size (s c) < n → c < m → U c → ⊥
endless-by pool T s U fi r down zero m c a b u = omega (arith, a)
endless-by pool T s U fi r down (suc n) m c a b u = inner (λ k c h i v. endless-by pool T s U fi r down n k c h i v) m c a b u
  where
    inner : ((k c : ℕ) → size (s c) < n → c < k → U c → ⊥) → (m c : ℕ) → size (s c) < suc n → c < m → U c → ⊥
    inner outer zero c a b u = omega (arith, b)
    inner outer (suc m) c a b u = let (d, i, v) = down c u in go d v (child-size pool s c d (at T c) (fi c) (r c) i) (λ e. inner outer m d (let q = e.0 in omega (arith, q, a)) (let q = e.1 in omega (arith, q, b)) v)
      where
        go : (d : ℕ) → U d → (size (s d) < size (s c)) ⊎ ((size (s d) ≡ size (s c)) × (d < c)) → ((size (s d) ≡ size (s c)) × (d < c) → ⊥) → ⊥
        go d v (inl h) more = outer (suc d) d (omega (arith, h, a)) (omega arith) v
        go d v (inr e) more = more e

pub endless : (pool : List ℕ) (T : List Node) (s : Assign) (U : ℕ → Type 0) → IsFine pool T → Respects pool T s → ((c : ℕ) → U c → (d : ℕ) × Child pool (at T c) d × U d)
    → (c : ℕ) → U c → ⊥
endless pool T s U fi r down c u = endless-by pool T s U fi r down (suc (size (s c))) (suc c) c (omega arith) (omega arith) u
