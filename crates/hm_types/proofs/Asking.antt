-- What is asked of classes.
use Rattle.std.proofs.Common.{◌≡◌, ◌≢◌, ℕ, zero, suc, ◌+◌, ◌-◌, ◌<◌, ◌≤◌, List, [], ◌∷◌, ◌++◌, length, Bool, true, false, refl, ap, sym, ◌∙◌, subst, arith, get_or, set, get_or-set_same, get_or-set_other, length-set, ◌⊎◌, inl, inr, if◌then◌else◌, ◌||◌, ◌&&◌, min, length-append, eqb, eq-eqb}
use Rattle.std.proofs.Math.Bool.{beq}
use Rattle.std.proofs.Math.Nat.{min-le_left, min-le_right, min-eq_left, min-eq_right}
use Rattle.std.proofs.lemmas.Bool.{cases_lt}
use Rattle.type_terms.specs.TypeTerms.{Term, Terms, variable, made, no_terms, terms, admits, all_admit, of_flag, IsOver, AllOver, by_parts}
use Rattle.hm_types.specs.declared.node.Node.{Node}
use Rattle.hm_types.specs.declared.node.Node.TheVariants.{Variable, Made, Link}
use Rattle.hm_types.specs.declared.node.Asked.{Asked}
use Rattle.hm_types.specs.declared.node.TypeName.{TypeName}
use Rattle.hm_types.specs.declared.node.Equality.{Equality}
use Rattle.hm_types.specs.declared.node.Equality.TheVariants.{Never, Always, Parts}
use Rattle.hm_types.specs.Classes.{Assign, at, asked_at, name_at, part_list, terms_of, Respects, Holds, Meets, Allows, Takes, equality_of, equality_by}
use Rattle.hm_types.specs.Joining.{IsIn, Within}
use Rattle.hm_types.specs.Asking.{Below, both_of, AsksParts, OfParts, Closes, ClosedBut, Told, Spread, Lowers, LacksAsked, freedom_of, freedom}
use Rattle.hm_types.proofs.Sets.{split}
use Rattle.hm_types.proofs.Members.{in-front, in-snoc, last-in, within-snoc, within-in, at-front}

or-left : (a b : Bool) → a ≡ true → a || b ≡ true
or-left true b q = refl
or-left false b q = absurd (cc)

or-right : (a b : Bool) → b ≡ true → a || b ≡ true
or-right true b q = refl
or-right false b q = q

pub below-left : (a b : Asked) → Below a (both_of a b)
below-left a b = (λ q. or-left a.equality b.equality q, min-le_left a.birth b.birth)

pub below-right : (a b : Asked) → Below b (both_of a b)
below-right a b = (λ q. or-right a.equality b.equality q, min-le_right a.birth b.birth)

one : Bool → ℕ
one e = if e then 0 else 1

one-or : (a b : Bool) → (one (a || b) ≤ one a) × ((a || b ≡ a → ⊥) → one (a || b) < one a)
unfolding one
one-or true b = ((omega arith), λ n. absurd (n refl))
one-or false true = ((omega arith), λ n. omega arith)
one-or false false = ((omega arith), λ n. absurd (n refl))

bool-split : (a b : Bool) → (a ≡ b) ⊎ (a ≡ b → ⊥)
bool-split true true = inl refl
bool-split true false = inr (λ q. cc)
bool-split false true = inr (λ q. cc)
bool-split false false = inl refl

abbrev asked_of : Bool → ℕ → Asked
asked_of x n = record { equality = x; birth = n }

same-asked : (x y : Bool) (m n : ℕ) → m ≡ n → x ≡ y → asked_of x m ≡ asked_of y n
same-asked x y m n p q = ap (λ z. asked_of x z) p ∙ ap (λ z. asked_of z n) q

-- where asking more is news, less is free
pub freer : (a b : Asked) → (both_of a b ≡ a → ⊥) → freedom_of (both_of a b) < freedom_of a
unfolding one
freer a b n = go (split (min a.birth b.birth) a.birth) (bool-split (a.equality || b.equality) a.equality)
  where
    go : (min a.birth b.birth ≡ a.birth) ⊎ (min a.birth b.birth ≢ a.birth) → (a.equality || b.equality ≡ a.equality) ⊎ (a.equality || b.equality ≡ a.equality → ⊥) → freedom_of (both_of a b) < freedom_of a
    go (inl p) (inl q) = absurd (n (same-asked (a.equality || b.equality) a.equality (min a.birth b.birth) a.birth p q))
    go (inl p) (inr q) = let o = (one-or a.equality b.equality).1 q in omega (arith, p, o)
    go (inr p) q = let o = (one-or a.equality b.equality).0 in let l = min-le_left a.birth b.birth in omega (arith, p, o, l)

freedom-set : (T : List Asked) (h : ℕ) (v : Asked) → h < length T → freedom (set T h v) + freedom_of (asked_at T h) ≡ freedom T + freedom_of v
unfolding freedom
freedom-set [] h v l = absurd (omega arith)
freedom-set (u ∷ T) zero v l = omega arith
freedom-set (u ∷ T) (suc h) v l = let q = freedom-set T h v (omega arith) in omega (arith, q)

asked-set : (T : List Asked) (h : ℕ) (v : Asked) → h < length T → asked_at (set T h v) h ≡ v
asked-set T h v l = get_or-set_same T h v _ l

asked-other : (T : List Asked) (h c : ℕ) (v : Asked) → c ≢ h → asked_at (set T h v) c ≡ asked_at T c
asked-other T h c v n = get_or-set_other T h c v _ n

-- a type with fewer classes at hand has what is asked with more
mutual
  unfolding IsOver AllOver

  pub over-mono : (names : List TypeName) (a b : ℕ) → a ≤ b → (t : Term ℕ) → IsOver (Takes names a) t → IsOver (Takes names b) t
  over-mono names a b l (variable e n) h = tt
  over-mono names a b l (made f ts) ((p, q, r), k) = ((p, omega (arith, q, l), r), overs-mono names a b l ts k)

  pub overs-mono : (names : List TypeName) (a b : ℕ) → a ≤ b → (ts : Terms ℕ) → AllOver (Takes names a) ts → AllOver (Takes names b) ts
  overs-mono names a b l no_terms h = tt
  overs-mono names a b l (terms t ts) (h, k) = (over-mono names a b l t h, overs-mono names a b l ts k)

pub allows-below : (names : List TypeName) (a b : Asked) (t : Term ℕ) → Below a b → Allows names b t → Allows names a t
allows-below names a b t l h = (λ q. h.0 (l.0 q), over-mono names b.birth a.birth (l.1) t (h.1))

min-other : (x y : ℕ) → min x y ≢ x → y ≤ min x y
min-other x y n = go (cases_lt y x)
  where
    go : (y < x) ⊎ (x ≤ y) → y ≤ min x y
    go (inl l) = let q : min x y ≡ y = min-eq_right (omega (arith, l)) in omega (arith, q)
    go (inr l) = absurd (n (min-eq_left l))

allows-both : (names : List TypeName) (a b : Asked) (t : Term ℕ) → Allows names a t → Allows names b t → Allows names (both_of a b) t
allows-both names a b t h k = (λ q. eq a.equality b.equality q (h.0) (k.0), over (split (min a.birth b.birth) a.birth))
  where
    eq : (x y : Bool) → x || y ≡ true → (x ≡ true → admits (equality_of names) of_flag t ≡ true) → (y ≡ true → admits (equality_of names) of_flag t ≡ true) → admits (equality_of names) of_flag t ≡ true
    eq true y q f g = f refl
    eq false y q f g = g q

    over : (min a.birth b.birth ≡ a.birth) ⊎ (min a.birth b.birth ≢ a.birth) → IsOver (Takes names (min a.birth b.birth)) t
    over (inl p) = over-mono names a.birth (min a.birth b.birth) (omega (arith, p)) t (h.1)
    over (inr p) = over-mono names b.birth (min a.birth b.birth) (min-other a.birth b.birth p) t (k.1)

below-refl : (a : Asked) → Below a a
below-refl a = (λ q. q, omega arith)

pub below-on : (a b c : Asked) → Below a b → Below b c → Below a c
below-on a b c h k = (λ q. k.0 (h.0 q), (let x = h.1 in let y = k.1 in omega (arith, x, y)))

below-is : (a b : Asked) → b ≡ a → Below a b
below-is a b q = subst (Below a) (sym q) (below-refl a)

-- nothing new
pub told-same : (P : List TypeName → Assign → Type 0) (T : List Asked) (w : List ℕ) → Told P T T w w
told-same P T w = record {
  there = λ names s p m. m;
  lower = λ c. below-refl _;
  only = λ c. inl refl;
  kept = λ c i. i;
  same_length = refl;
  within = λ h. h;
  less = omega arith;
}

pub told-set : (T : List Asked) (h : ℕ) (more met : Asked) (before after : List ℕ) → h < length T → met ≡ both_of (asked_at T h) more → (met ≡ asked_at T h → ⊥) → after ≡ before ++ h ∷ []
    → Told (λ names s. Allows names more (s h)) T (set T h met) before after
told-set T h more met before after l e n a = record {
  there = λ names s p m c k. there names s p m c k (split c h);
  lower = λ c. low c (split c h);
  only = λ c. only c (split c h);
  kept = λ c i. subst (IsIn c) (sym a) (in-front c before (h ∷ []) i);
  same_length = length-set T h met;
  within = λ w. subst (Within (length T)) (sym a) (within-snoc (length T) h before w l);
  less =
      let x = length-append before (h ∷ []) in let y : length after ≡ length (before ++ h ∷ []) = ap (λ z. length z) a in
      let q = freedom-set T h met l in
      let f : freedom_of met < freedom_of (asked_at T h) = subst (λ z. freedom_of z < freedom_of (asked_at T h)) (sym e) (freer (asked_at T h) more (λ p. n (e ∙ p))) in
      omega (arith, x, y, q, f);
}
  where
    here : asked_at (set T h met) h ≡ both_of (asked_at T h) more
    here = asked-set T h met l ∙ e

    there : (names : List TypeName) (s : Assign) → Allows names more (s h) → Meets names T s → (c : ℕ) → c < length (set T h met) → (c ≡ h) ⊎ (c ≢ h) → Allows names (asked_at (set T h met) c) (s c)
    there names s p m c k (inl q) = subst (λ z. Allows names (asked_at (set T h met) z) (s z)) (sym q) (subst (λ z. Allows names z (s h)) (sym here) (allows-both names (asked_at T h) more (s h) (m h l) p))
    there names s p m c k (inr q) = subst (λ z. Allows names z (s c)) (sym (asked-other T h c met q)) (m c (let x = length-set T h met in omega (arith, x, k)))

    low : (c : ℕ) → (c ≡ h) ⊎ (c ≢ h) → Below (asked_at T c) (asked_at (set T h met) c)
    low c (inl q) = subst (λ z. Below (asked_at T z) (asked_at (set T h met) z)) (sym q) (subst (Below (asked_at T h)) (sym here) (below-left (asked_at T h) more))
    low c (inr q) = below-is _ _ (asked-other T h c met q)

    only : (c : ℕ) → (c ≡ h) ⊎ (c ≢ h) → (asked_at (set T h met) c ≡ asked_at T c) ⊎ IsIn c after
    only c (inl q) = inr (subst (IsIn c) (sym a) (subst (λ z. IsIn z (before ++ h ∷ [])) (sym q) (last-in h before)))
    only c (inr q) = inl (asked-other T h c met q)

pub told-on : (P Q : List TypeName → Assign → Type 0) (T U V : List Asked) (v w z : List ℕ) → Told P T U v w → Told Q U V w z → ((names : List TypeName) (s : Assign) → P names s → Meets names T s → Q names s) → Told P T V v z
told-on P Q T U V v w z F G h = record {
  there = λ names s p m. G.there names s (h names s p m) (F.there names s p m);
  lower = λ c. below-on _ _ _ (F.lower c) (G.lower c);
  only = λ c. go c (F.only c) (G.only c);
  kept = λ c i. G.kept c (F.kept c i);
  same_length = G.same_length ∙ F.same_length;
  within = λ x. subst (λ n. Within n z) (F.same_length) (G.within (subst (λ n. Within n w) (sym F.same_length) (F.within x)));
  less = let f = F.less in let g = G.less in omega (arith, f, g);
}
  where
    go : (c : ℕ) → (asked_at U c ≡ asked_at T c) ⊎ IsIn c w → (asked_at V c ≡ asked_at U c) ⊎ IsIn c z → (asked_at V c ≡ asked_at T c) ⊎ IsIn c z
    go c (inl a) (inl b) = inl (b ∙ a)
    go c (inl a) (inr b) = inr b
    go c (inr a) b = inr (G.kept c a)

pub below-met : (a b m : Asked) → m ≡ both_of a b → m ≡ a → Below b a
below-met a b m e q = subst (Below b) (sym e ∙ q) (below-right a b)

is-equal : (x : Bool) → beq x x ≡ true
is-equal true = refl
is-equal false = refl

pub differs : (a b : Asked) → false ≡ (beq a.equality b.equality && eqb a.birth b.birth) → a ≡ b → ⊥
differs a b h q = absurd (let e : false ≡ (beq a.equality a.equality && eqb a.birth a.birth) = subst (λ z. false ≡ (beq a.equality z.equality && eqb a.birth z.birth)) (sym q) h in let x : (beq a.equality a.equality && eqb a.birth a.birth) ≡ true = ap (λ z. z && eqb a.birth a.birth) (is-equal a.equality) ∙ eq-eqb a.birth a.birth refl in let y : false ≡ true = e ∙ x in cc)

-- the parts of a type that has what is asked
over-part : (names : List TypeName) (b : ℕ) (s : Assign) (xs : List ℕ) → AllOver (Takes names b) (terms_of s xs) → (j : ℕ) → j < length xs → IsOver (Takes names b) (s (get_or xs j 0))
unfolding AllOver terms_of
over-part names b s [] h j l = absurd (omega (arith, l))
over-part names b s (x ∷ xs) h zero l = h.0
over-part names b s (x ∷ xs) h (suc j) l = over-part names b s xs (h.1) j (omega (arith, l))

and-left : (a b : Bool) → a && b ≡ true → a ≡ true
and-left true b q = refl
and-left false b q = q

and-right : (a b : Bool) → a && b ≡ true → b ≡ true
and-right true b q = q
and-right false b q = absurd (cc)

admits-part : (names : List TypeName) (s : Assign) (xs : List ℕ) → all_admit (equality_of names) of_flag (terms_of s xs) ≡ true → (j : ℕ) → j < length xs → admits (equality_of names) of_flag (s (get_or xs j 0)) ≡ true
unfolding all_admit terms_of
admits-part names s [] h j l = absurd (omega (arith, l))
admits-part names s (x ∷ xs) h zero l = and-left (admits (equality_of names) of_flag (s x)) (all_admit (equality_of names) of_flag (terms_of s xs)) h
admits-part names s (x ∷ xs) h (suc j) l = admits-part names s xs (and-right (admits (equality_of names) of_flag (s x)) (all_admit (equality_of names) of_flag (terms_of s xs)) h) j (omega (arith, l))

-- a type that has what is asked has what that asks of its parts
pub allows-parts : (names : List TypeName) (own more : Asked) (f : ℕ) (s : Assign) (xs : List ℕ) → OfParts ((name_at names f).equality) own more
    → Allows names own (made f (terms_of s xs)) → (j : ℕ) → j < length xs → Allows names more (s (get_or xs j 0))
unfolding admits IsOver
allows-parts names own more f s xs o h j l = (λ q. equal (o.few q), subst (λ z. IsOver (Takes names z) (s (get_or xs j 0))) (sym o.same) (over-part names own.birth s xs ((h.1).1) j l))
  where
    equal : ((name_at names f).equality ≡ Parts) × (own.equality ≡ true) → admits (equality_of names) of_flag (s (get_or xs j 0)) ≡ true
    equal (k, e) = admits-part names s xs (let a : by_parts (equality_of names f) (all_admit (equality_of names) of_flag (terms_of s xs)) ≡ true = h.0 e in subst (λ z. by_parts (equality_by z) (all_admit (equality_of names) of_flag (terms_of s xs)) ≡ true) k a) j l

never-equal : (names : List TypeName) (own : Asked) (f : ℕ) (ts : Terms ℕ) → Allows names own (made f ts) → own.equality ≡ true → (name_at names f).equality ≡ Never → ⊥
unfolding admits
never-equal names own f ts h e k = let a : by_parts (equality_of names f) (all_admit (equality_of names) of_flag ts) ≡ true = h.0 e in let b : false ≡ true = subst (λ z. by_parts (equality_by z) (all_admit (equality_of names) of_flag ts) ≡ true) k a in absurd (cc)

too-young : (names : List TypeName) (own : Asked) (f : ℕ) (ts : Terms ℕ) → Allows names own (made f ts) → own.birth < (name_at names f).birth → ⊥
unfolding IsOver
too-young names own f ts h l = let b = (h.1).0.1 in omega (arith, b, l)

made-at : (names : List TypeName) (pool : List ℕ) (T : List Node) (A : List Asked) (c f i k : ℕ) (s : Assign) → length A ≡ length T → c < length T → at T c ≡ Made f i k → Respects pool T s → Meets names A s → Allows names (asked_at A c) (made f (terms_of s (part_list pool i k)))
made-at names pool T A c f i k s e l q r m = subst (Allows names (asked_at A c)) (subst (Holds pool s c) q (r c)) (m c (omega (arith, e, l)))

pub young-clash : (names : List TypeName) (pool : List ℕ) (T : List Node) (A : List Asked) (c f i k : ℕ) → length A ≡ length T → c < length T → at T c ≡ Made f i k → (asked_at A c).birth < (name_at names f).birth → LacksAsked names pool T A
young-clash names pool T A c f i k e l q y s r m = too-young names (asked_at A c) f _ (made-at names pool T A c f i k s e l q r m) y

pub never-clash : (names : List TypeName) (pool : List ℕ) (T : List Node) (A : List Asked) (c f i k : ℕ) → length A ≡ length T → c < length T → at T c ≡ Made f i k → ((asked_at A c).equality ≡ true) × ((name_at names f).equality ≡ Never) → LacksAsked names pool T A
never-clash names pool T A c f i k e l q (x, y) s r m = never-equal names (asked_at A c) f _ (made-at names pool T A c f i k s e l q r m) x y

-- the property by which a node's parts are told
abbrev pub IsTyped : List TypeName → List ℕ → List Node → List TypeName → Assign → Type 0
IsTyped names pool T n s = (n ≡ names) × Respects pool T s

pub told-link : (names : List TypeName) (pool : List ℕ) (T : List Node) (A B : List Asked) (v w : List ℕ) (c d : ℕ) → length A ≡ length T → c < length T → at T c ≡ Link d
    → Told (λ n s. Allows n (asked_at A c) (s d)) A B v w → Told (IsTyped names pool T) A B v w
told-link names pool T A B v w c d e l q F = record {
  there = λ n s p m. F.there n s (subst (Allows n (asked_at A c)) (subst (Holds pool s c) q (p.1 c)) (m c (omega (arith, e, l)))) m;
  lower = F.lower;
  only = F.only;
  kept = F.kept;
  same_length = F.same_length;
  within = F.within;
  less = F.less;
}

pub taken : (i k : ℕ) → i + k - i ≡ k
taken i k = omega arith

-- one part more is told
pub told-part : (names : List TypeName) (pool : List ℕ) (T : List Node) (A B C : List Asked) (v w z : List ℕ) (c f i k j : ℕ) (more : Asked) → length A ≡ length T → c < length T → at T c ≡ Made f i k
    → OfParts ((name_at names f).equality) (asked_at A c) more → j < length (part_list pool i k)
    → Told (IsTyped names pool T) A B v w → Told (λ n s. Allows n more (s (get_or (part_list pool i k) j 0))) B C w z → Told (IsTyped names pool T) A C v z
told-part names pool T A B C v w z c f i k j more e l q o lj F G = told-on (IsTyped names pool T) _ A B C v w z F G
    (λ n s p m. subst (λ y. Allows y more (s (get_or (part_list pool i k) j 0))) (sym (p.0)) (allows-parts names (asked_at A c) more f s (part_list pool i k) o (made-at names pool T A c f i k s e l q (p.1) (subst (λ y. Meets y A s) (p.0) m)) j lj))

pub closes-made : (names : List TypeName) (pool : List ℕ) (B : List Asked) (own more : Asked) (f i k : ℕ) → OfParts ((name_at names f).equality) own more → (name_at names f).birth ≤ own.birth
    → ((j : ℕ) → j < length (part_list pool i k) → Below more (asked_at B (get_or (part_list pool i k) j 0))) → Closes names pool B own (Made f i k)
closes-made names pool B own more f i k o b h = (b, λ d (j, l, q). subst (λ z. (asked_at B z).birth ≤ own.birth) q (let x = (h j l).1 in let y = o.same in omega (arith, x, y)), λ e. go ((name_at names f).equality) (o.all e))
  where
    go : (kind : Equality) → AsksParts kind (more.equality ≡ true) → AsksParts kind ((d : ℕ) → IsIn d (part_list pool i k) → (asked_at B d).equality ≡ true)
    go Never x = x
    go Always x = tt
    go Parts x = λ d y. subst (λ z. (asked_at B z).equality ≡ true) (y.2) ((h (y.0) (y.1)).0 x)

closes-mono : (names : List TypeName) (pool : List ℕ) (A B : List Asked) (a : Asked) (v : Node) → ((c : ℕ) → Below (asked_at A c) (asked_at B c)) → Closes names pool A a v → Closes names pool B a v
closes-mono names pool A B a Variable h k = tt
closes-mono names pool A B a (Made f i n) h (b, p, e) = (b, λ d y. (let x = (h d).1 in let z = p d y in omega (arith, x, z)), λ q. go ((name_at names f).equality) (e q))
  where
    go : (kind : Equality) → AsksParts kind ((d : ℕ) → IsIn d (part_list pool i n) → (asked_at A d).equality ≡ true) → AsksParts kind ((d : ℕ) → IsIn d (part_list pool i n) → (asked_at B d).equality ≡ true)
    go Never x = x
    go Always x = tt
    go Parts x = λ d y. (h d).0 (x d y)
closes-mono names pool A B a (Link d) h k = below-on _ _ _ k (h d)

pub spread-start : (names : List TypeName) (pool : List ℕ) (T : List Node) (A : List Asked) (w : List ℕ) → ClosedBut names pool T A w → Within (length T) w → Spread names pool T A A w
spread-start names pool T A w c i = record {
  there = λ s r m. m;
  lower = λ c. below-refl _;
  same_length = refl;
  closed = c;
  within = i;
}

-- one class has told its parts
pub spread-on : (names : List TypeName) (pool : List ℕ) (T : List Node) (A B C : List Asked) (v w z : List ℕ) (c : ℕ) → v ≡ w ++ c ∷ [] → length A ≡ length T → Spread names pool T A B v
    → Told (IsTyped names pool T) B C w z → Closes names pool C (asked_at B c) (at T c) → Spread names pool T A C z
spread-on names pool T A B C v w z c e len F G k = record {
  there = λ s r m. G.there names s (refl, r) (F.there s r m);
  lower = λ d. below-on _ _ _ (F.lower d) (G.lower d);
  same_length = G.same_length ∙ F.same_length;
  closed = λ d l. closed d l (F.closed d l) (G.only d);
  within = subst (λ n. Within n z) same (G.within (subst (λ n. Within n w) (sym same) (front w (subst (Within (length T)) e F.within))));
}
  where
    same : length B ≡ length T
    same = F.same_length ∙ len

    front : (w : List ℕ) → Within (length T) (w ++ c ∷ []) → Within (length T) w
    front w h i l = let q = length-append w (c ∷ []) in subst (λ y. y < length T) (at-front w (c ∷ []) i l) (h i (omega (arith, q, l)))

    closed : (d : ℕ) → d < length T → (Closes names pool B (asked_at B d) (at T d)) ⊎ IsIn d v → (asked_at C d ≡ asked_at B d) ⊎ IsIn d z → (Closes names pool C (asked_at C d) (at T d)) ⊎ IsIn d z
    closed d l x (inr y) = inr y
    closed d l (inl x) (inl y) = inl (subst (λ a. Closes names pool C a (at T d)) (sym y) (closes-mono names pool B C (asked_at B d) (at T d) G.lower x))
    closed d l (inr x) (inl y) = go (in-snoc d c w (subst (IsIn d) e x))
      where
        go : (d ≡ c) ⊎ IsIn d w → (Closes names pool C (asked_at C d) (at T d)) ⊎ IsIn d z
        go (inl q) = inl (subst (λ a. Closes names pool C a (at T d)) (sym y) (subst (λ n. Closes names pool C (asked_at B n) (at T n)) (sym q) k))
        go (inr i) = inr (G.kept d i)

pub lacks-on : (names : List TypeName) (pool : List ℕ) (T : List Node) (A B : List Asked) (v : List ℕ) → Spread names pool T A B v → LacksAsked names pool T B → LacksAsked names pool T A
lacks-on names pool T A B v F n s r m = n s r (F.there s r m)

pub taken-class : (names : List TypeName) (pool : List ℕ) (T : List Node) (A B : List Asked) (v w : List ℕ) (c : ℕ) → v ≡ w ++ c ∷ [] → Spread names pool T A B v → c < length T
taken-class names pool T A B v w c e F = within-in (length T) c v F.within (subst (IsIn c) (sym e) (last-in c w))

-- the loop over a node's parts, whose list is written as a range
pub tell-on : (names : List TypeName) (pool : List ℕ) (T : List Node) (A B C : List Asked) (v w z : List ℕ) (c f i k j : ℕ) (more : Asked) → length A ≡ length T → c < length T → at T c ≡ Made f i k
    → OfParts ((name_at names f).equality) (asked_at A c) more → j < length (part_list pool i (i + k - i))
    → Told (IsTyped names pool T) A B v w → Told (λ n s. Allows n more (s (get_or (part_list pool i (i + k - i)) j 0))) B C w z → Told (IsTyped names pool T) A C v z
tell-on names pool T A B C v w z c f i k j more e l q o lj F G =
    told-part names pool T A B C v w z c f i k j more e l q o (subst (λ n. j < length (part_list pool i n)) (taken i k) lj) F
    (subst (λ m. Told (λ n s. Allows n more (s (get_or (part_list pool i m) j 0))) B C w z) (taken i k) G)

pub tell-met : (B C : List Asked) (P : List TypeName → Assign → Type 0) (w z xs : List ℕ) (more : Asked) (i : ℕ) → Told P B C w z → ((j : ℕ) → j < i → Below more (asked_at B (get_or xs j 0))) → Below more (asked_at C (get_or xs i 0))
    → (j : ℕ) → j < i + 1 → Below more (asked_at C (get_or xs j 0))
tell-met B C P w z xs more i G h m j l = go (split j i)
  where
    go : (j ≡ i) ⊎ (j ≢ i) → Below more (asked_at C (get_or xs j 0))
    go (inl q) = subst (λ y. Below more (asked_at C (get_or xs y 0))) (sym q) m
    go (inr n) = below-on _ _ _ (h j (omega (arith, l, n))) (G.lower (get_or xs j 0))

pub tell-done : (names : List TypeName) (pool : List ℕ) (B : List Asked) (own more : Asked) (f i k n : ℕ) (v : Node) → v ≡ Made f i k → OfParts ((name_at names f).equality) own more → (name_at names f).birth ≤ own.birth
    → length (part_list pool i (i + k - i)) ≤ n → ((j : ℕ) → j < n → Below more (asked_at B (get_or (part_list pool i (i + k - i)) j 0))) → Closes names pool B own v
tell-done names pool B own more f i k n v q o b l h = subst (Closes names pool B own) (sym q) (closes-made names pool B own more f i k o b (λ j m. subst (λ z. Below more (asked_at B (get_or (part_list pool i z) j 0))) (taken i k) (h j (let x : j < length (part_list pool i (i + k - i)) = subst (λ z. j < length (part_list pool i z)) (sym (taken i k)) m in omega (arith, x, l)))))

pub lowers-same : (A : List Asked) → Lowers A A
lowers-same A = record { lower = λ c. below-refl _; same_length = refl }

pub lowers-is : (A B C : List Asked) → Lowers A B → C ≡ B → Lowers A C
lowers-is A B C L q = subst (Lowers A) (sym q) L

pub lowers-on : (A B C : List Asked) → Lowers A B → Lowers B C → Lowers A C
lowers-on A B C F G = record { lower = λ c. below-on _ _ _ (F.lower c) (G.lower c); same_length = G.same_length ∙ F.same_length }

pub told-lowers : (P : List TypeName → Assign → Type 0) (A B : List Asked) (v w : List ℕ) → Told P A B v w → Lowers A B
told-lowers P A B v w F = record { lower = F.lower; same_length = F.same_length }

pub spread-lowers : (names : List TypeName) (pool : List ℕ) (T : List Node) (A B : List Asked) (w : List ℕ) → Spread names pool T A B w → Lowers A B
spread-lowers names pool T A B w F = record { lower = F.lower; same_length = F.same_length }
