-- Least places: seeing nothing, one thing after the other, and the same in other words.
use Rattle.std.proofs.Common.{arith, Bool, true, false, ◌++◌, ◌+◌, ◌<◌, take, length, get_or, ◌≡◌, ◌⊎◌, inl, inr, refl, sym, ◌∙◌, ap, subst, ℕ, ◌≤◌, List, [], ◌∷◌, Option, Some, None}
use Rattle.std.specs.Option.{is_some}
use Rattle.std.proofs.lemmas.List.{take_more, take_all}
use Rattle.hm_scope.specs.Least.{IsLeast, With, Seen, Sees, Some_of}
use Rattle.typing_rules.specs.Scope.{Names, IsOneOf, first_one, other_one}

abbrev pub Lowers : (ℕ → Type 0) → Option ℕ → Option ℕ → Type 0
Lowers P f g = IsLeast (With f P) g

-- nothing is there
pub lowers-none : (P : ℕ → Type 0) (f : Option ℕ) → ((p : ℕ) → P p → ⊥) → Lowers P f f
lowers-none P None none = rest
  where
    rest : (p : ℕ) → With None P p → ⊥
    rest p (inl e) = absurd cc
    rest p (inr h) = none p h
lowers-none P (Some q) none = (inl refl, rest)
  where
    rest : (p : ℕ) → With (Some q) P p → q ≤ p
    rest p (inl e) = let h : q ≡ p = cc in omega arith
    rest p (inr h) = absurd (none p h)

-- in other words
pub with-to : (P Q : ℕ → Type 0) (f : Option ℕ) (p : ℕ) → (P p → Q p) → With f P p → With f Q p
with-to P Q f p to (inl e) = inl e
with-to P Q f p to (inr h) = inr (to h)

pub lowers-to : (P Q : ℕ → Type 0) (f g : Option ℕ) → ((p : ℕ) → P p → Q p) → ((p : ℕ) → Q p → P p) → Lowers P f g → Lowers Q f g
lowers-to P Q f None to from least = λ p h. least p (with-to Q P f p (from p) h)
lowers-to P Q f (Some q) to from (is, all) = (with-to P Q f q (to q) is, λ p h. all p (with-to Q P f p (from p) h))

-- one after the other
pub lowers-then : (P Q : ℕ → Type 0) (f g h : Option ℕ) → Lowers P f g → Lowers Q g h → Lowers (λ p. P p ⊎ Q p) f h
lowers-then P Q f None None first second = rest
  where
    rest : (p : ℕ) → With f (λ p. P p ⊎ Q p) p → ⊥
    rest p (inl e) = first p (inl e)
    rest p (inr (inl x)) = first p (inr x)
    rest p (inr (inr y)) = second p (inr y)
lowers-then P Q f (Some q) None first second = absurd (second q (inl refl))
lowers-then P Q f None (Some r) first (is, all) = (there is, rest)
  where
    there : With None Q r → With f (λ p. P p ⊎ Q p) r
    there (inl e) = absurd cc
    there (inr y) = inr (inr y)

    rest : (p : ℕ) → With f (λ p. P p ⊎ Q p) p → r ≤ p
    rest p (inl e) = absurd (first p (inl e))
    rest p (inr (inl x)) = absurd (first p (inr x))
    rest p (inr (inr y)) = all p (inr y)
lowers-then P Q f (Some q) (Some r) (was, before) (is, all) = (there is, rest)
  where
    wide : With f P q → With f (λ p. P p ⊎ Q p) q
    wide (inl e) = inl e
    wide (inr x) = inr (inl x)

    there : With (Some q) Q r → With f (λ p. P p ⊎ Q p) r
    there (inl e) = let h : q ≡ r = cc in subst (With f (λ p. P p ⊎ Q p)) h (wide was)
    there (inr y) = inr (inr y)

    rest : (p : ℕ) → With f (λ p. P p ⊎ Q p) p → r ≤ p
    rest p (inl e) = let h = before p (inl e) in let l = all q (inl refl) in omega arith
    rest p (inr (inl x)) = let h = before p (inr x) in let l = all q (inl refl) in omega arith
    rest p (inr (inr y)) = all p (inr y)

pub sees-none : (P : ℕ → Type 0) (a : Seen) → ((p : ℕ) → P p → ⊥) → Sees P a a
sees-none P a none = record { same = refl; least = lowers-none P a.first none }

pub sees-to : (P Q : ℕ → Type 0) (a b : Seen) → ((p : ℕ) → P p → Q p) → ((p : ℕ) → Q p → P p) → Sees P a b → Sees Q a b
sees-to P Q a b to from s = record { same = s.same; least = lowers-to P Q a.first b.first to from s.least }

pub sees-then : (P : ℕ → Type 0) (Q : Names → ℕ → Type 0) (a b c : Seen) → Sees P a b → Sees (Q b.names) b c → Sees (λ p. P p ⊎ Q a.names p) a c
sees-then P Q a b c s t = record {
  same = t.same ∙ s.same;
  least = lowers-then P (Q a.names) a.first b.first c.first s.least (subst (λ names. Lowers (Q names) b.first c.first) s.same t.least);
}

-- a list: none, one more at its end, and two
pub of-none : {A : Type 0} {x : A} → IsOneOf x [] → ⊥
of-none i = elim i [ ]

pub sees-nil : {A : Type 0} (P : A → ℕ → Type 0) (a : Seen) → Sees (Some_of P []) a a
sees-nil {A} P a = sees-none (Some_of P []) a (λ p s. of-none s.1)

one-of-end : {A : Type 0} (x : A) (xs : List A) → IsOneOf x (xs ++ x ∷ [])
one-of-end x [] = first_one
one-of-end x (y ∷ ys) = other_one (one-of-end x ys)

one-of-front : {A : Type 0} (x y : A) (xs : List A) → IsOneOf x xs → IsOneOf x (xs ++ y ∷ [])
one-of-front x y [] i = elim i [ ]
one-of-front x y (z ∷ zs) first_one = first_one
one-of-front x y (z ∷ zs) (other_one i) = other_one (one-of-front x y zs i)

split-end : {A : Type 0} (P : A → ℕ → Type 0) (y : A) (xs : List A) (p : ℕ) (x : A) → IsOneOf x (xs ++ y ∷ []) → P x p → Some_of P xs p ⊎ P y p
split-end P y [] p x first_one h = inr h
split-end P y [] p x (other_one i) h = absurd (of-none i)
split-end P y (z ∷ zs) p x first_one h = inl (x, first_one, h)
split-end P y (z ∷ zs) p x (other_one i) h = wider (split-end P y zs p x i h)
  where
    wider : Some_of P zs p ⊎ P y p → Some_of P (z ∷ zs) p ⊎ P y p
    wider (inl (w, j, k)) = inl (w, other_one j, k)
    wider (inr k) = inr k

pub sees-end : {A : Type 0} (P : Names → A → ℕ → Type 0) (y : A) (xs : List A) (a b c : Seen) → Sees (Some_of (P a.names) xs) a b → Sees (P b.names y) b c → Sees (Some_of (P a.names) (xs ++ y ∷ [])) a c
sees-end P y xs a b c s t = sees-to _ _ a c to from (sees-then (Some_of (P a.names) xs) (λ n. P n y) a b c s t)
  where
    to : (p : ℕ) → Some_of (P a.names) xs p ⊎ P a.names y p → Some_of (P a.names) (xs ++ y ∷ []) p
    to p (inl (x, i, h)) = (x, one-of-front x y xs i, h)
    to p (inr h) = (y, one-of-end y xs, h)

    from : (p : ℕ) → Some_of (P a.names) (xs ++ y ∷ []) p → Some_of (P a.names) xs p ⊎ P a.names y p
    from p (x, i, h) = split-end (P a.names) y xs p x i h

pub sees-two : {A : Type 0} (P : Names → A → ℕ → Type 0) (x y : A) (a b c : Seen) → Sees (P a.names x) a b → Sees (P b.names y) b c → Sees (Some_of (P a.names) (x ∷ y ∷ [])) a c
sees-two P x y a b c s t = sees-to _ _ a c to from (sees-then (P a.names x) (λ n. P n y) a b c s t)
  where
    to : (p : ℕ) → P a.names x p ⊎ P a.names y p → Some_of (P a.names) (x ∷ y ∷ []) p
    to p (inl h) = (x, first_one, h)
    to p (inr h) = (y, other_one first_one, h)

    from : (p : ℕ) → Some_of (P a.names) (x ∷ y ∷ []) p → P a.names x p ⊎ P a.names y p
    from p (z, first_one, h) = inl h
    from p (z, other_one first_one, h) = inr h
    from p (z, other_one (other_one i), h) = absurd (of-none i)

pub seen-as : {A : Type 0} (P : A → ℕ → Type 0) (xs ys : List A) (a b : Seen) → xs ≡ ys → Sees (Some_of P xs) a b → Sees (Some_of P ys) a b
seen-as P xs ys a b e s = subst (λ zs. Sees (Some_of P zs) a b) e s

-- a loop over a list: the next of it, and all of it
pub sees-next : {A : Type 0} (P : Names → A → ℕ → Type 0) (xs : List A) (i : ℕ) (d x : A) (a b c : Seen) → x ≡ get_or xs i d → i < length xs → Sees (Some_of (P a.names) (take i xs)) a b
    → Sees (P b.names x) b c → Sees (Some_of (P a.names) (take (i + 1) xs)) a c
sees-next P xs i d x a b c e h s t =
    seen-as (P a.names) (take i xs ++ x ∷ []) (take (i + 1) xs) a c (ap (λ y. take i xs ++ y ∷ []) e ∙ sym (take_more xs i d h)) (sees-end P x (take i xs) a b c s t)

pub sees-whole : {A : Type 0} (P : A → ℕ → Type 0) (xs : List A) (i : ℕ) (a b : Seen) → length xs ≤ i → Sees (Some_of P (take i xs)) a b → Sees (Some_of P xs) a b
sees-whole P xs i a b h s = seen-as P (take i xs) xs a b (take_all i xs h) s

pub none_of : (o : Option Bool) → is_some o ≡ false → o ≡ None
none_of None e = refl
none_of (Some b) e = absurd cc

pub not_none : (o : Option Bool) → is_some o ≡ true → o ≡ None → ⊥
not_none None e h = absurd cc
not_none (Some b) e h = absurd cc

-- two lists, one after the other
one-of-left : {A : Type 0} (x : A) (xs ys : List A) → IsOneOf x xs → IsOneOf x (xs ++ ys)
one-of-left x [] ys i = elim i [ ]
one-of-left x (z ∷ zs) ys first_one = first_one
one-of-left x (z ∷ zs) ys (other_one i) = other_one (one-of-left x zs ys i)

one-of-right : {A : Type 0} (x : A) (xs ys : List A) → IsOneOf x ys → IsOneOf x (xs ++ ys)
one-of-right x [] ys i = i
one-of-right x (z ∷ zs) ys i = other_one (one-of-right x zs ys i)

split-lists : {A : Type 0} (P : A → ℕ → Type 0) (xs ys : List A) (p : ℕ) (x : A) → IsOneOf x (xs ++ ys) → P x p → Some_of P xs p ⊎ Some_of P ys p
split-lists P [] ys p x i h = inr (x, i, h)
split-lists P (z ∷ zs) ys p x first_one h = inl (x, first_one, h)
split-lists P (z ∷ zs) ys p x (other_one i) h = wider (split-lists P zs ys p x i h)
  where
    wider : Some_of P zs p ⊎ Some_of P ys p → Some_of P (z ∷ zs) p ⊎ Some_of P ys p
    wider (inl (w, j, k)) = inl (w, other_one j, k)
    wider (inr k) = inr k

pub sees-lists : {A : Type 0} (P : Names → A → ℕ → Type 0) (xs ys : List A) (a b c : Seen) → Sees (Some_of (P a.names) xs) a b → Sees (Some_of (P b.names) ys) b c → Sees (Some_of (P a.names) (xs ++ ys)) a c
sees-lists P xs ys a b c s t = sees-to _ _ a c to from (sees-then (Some_of (P a.names) xs) (λ n. Some_of (P n) ys) a b c s t)
  where
    to : (p : ℕ) → Some_of (P a.names) xs p ⊎ Some_of (P a.names) ys p → Some_of (P a.names) (xs ++ ys) p
    to p (inl (x, i, h)) = (x, one-of-left x xs ys i, h)
    to p (inr (x, i, h)) = (x, one-of-right x xs ys i, h)

    from : (p : ℕ) → Some_of (P a.names) (xs ++ ys) p → Some_of (P a.names) xs p ⊎ Some_of (P a.names) ys p
    from p (x, i, h) = split-lists (P a.names) xs ys p x i h
