-- Two lists side by side.
use Rattle.std.proofs.Common.{◌≡◌, ℕ, suc, ◌+◌, ◌<◌, List, [], ◌∷◌, ◌++◌, length, get_or, drop, drop-cons, append_assoc, append-nil, subst, refl, ap, sym, ◌∙◌, inl, inr, ◌⊎◌, arith}
use Rattle.typing_rules.specs.Scope.{IsOneOf, first_one, other_one}
use Rattle.script_loader.specs.Lists.{Each, none, one, SoFar, Stops}

-- one more at the ends
pub each_more : {A B : Type 0} {R : A → B → Type 0} {xs : List A} {ys : List B} {x : A} {y : B} → Each R xs ys → R x y → Each R (xs ++ x ∷ []) (ys ++ y ∷ [])
each_more none r = one r none
each_more (one s e) r = one s (each_more e r)

-- what is left at an item
pub at_item : {X : Type 0} (xs : List X) (i : ℕ) (d x : X) → x ≡ get_or xs i d → i < length xs → drop i xs ≡ x ∷ drop (i + 1) xs
at_item xs i d x e h = drop-cons xs i d h ∙ ap (λ y. y ∷ drop (suc i) xs) (sym e) ∙ ap (λ j. x ∷ drop j xs) (next i)
  where
    next : (n : ℕ) → suc n ≡ n + 1
    next n = omega arith

-- item by item

pub none_done : {A B : Type 0} {R : A → B → Type 0} (all : List A) → SoFar R all all []
none_done all = record { front = []; split = refl; each = none }

pub one_done : {A B : Type 0} {R : A → B → Type 0} (all here rest : List A) (done : List B) (x : A) (y : B) → SoFar R all here done → here ≡ x ∷ rest → R x y → SoFar R all rest (done ++ y ∷ [])
one_done all here rest done x y s h r = record {
  front = s.front ++ x ∷ [];
  split = s.split ∙ ap (λ xs. s.front ++ xs) h ∙ sym (append_assoc s.front (x ∷ []) rest);
  each = each_more s.each r;
}

pub all_done : {A B : Type 0} {R : A → B → Type 0} (all rest : List A) (done : List B) → SoFar R all rest done → rest ≡ [] → Each R all done
all_done {R = R} all rest done s e = subst (λ xs. Each R xs done) (sym (s.split ∙ ap (λ xs. s.front ++ xs) e ∙ append-nil s.front)) s.each

pub stops_here : {A B E : Type 0} {R : A → B → Type 0} (Fault : A → E → Type 0) (all here rest : List A) (done : List B) (x : A) (e : E) → SoFar R all here done → here ≡ x ∷ rest → Fault x e → Stops R Fault all e
stops_here Fault all here rest done x e s h f = record {
  front = s.front;
  here = x;
  back = rest;
  split = s.split ∙ ap (λ xs. s.front ++ xs) h;
  done = done;
  each = s.each;
  fault = f;
}

-- parts of lists side by side

-- what goes with an item of the first list
pub each_at : {A B : Type 0} {R : A → B → Type 0} (front : List A) (x : A) (back : List A) (ys : List B) → Each R (front ++ x ∷ back) ys → (y : B) × R x y
each_at [] x back [] e = elim e [ ]
each_at [] x back (y ∷ ys) (one r e) = (y, r)
each_at (f ∷ front) x back [] e = elim e [ ]
each_at (f ∷ front) x back (y ∷ ys) (one r e) = each_at front x back ys e

-- the item of the first list that goes with one of the second, and those before both
pub record Split {A B : Type 0} (R : A → B → Type 0) (xs : List A) (front : List B) (y : B) : Type 0 where
  pub before : List A
  pub here : A
  pub after : List A
  pub split : xs ≡ before ++ here ∷ after
  pub each : Each R before front
  pub goes : R here y

pub each_split : {A B : Type 0} {R : A → B → Type 0} (xs : List A) (front : List B) (y : B) (back : List B) → Each R xs (front ++ y ∷ back) → Split R xs front y
each_split [] [] y back e = elim e [ ]
each_split [] (f ∷ front) y back e = elim e [ ]
each_split (x ∷ xs) [] y back (one r e) = record { before = []; here = x; after = xs; split = refl; each = none; goes = r }
each_split (x ∷ xs) (f ∷ front) y back (one r e) =
    let s = each_split xs front y back e in
    record { before = x ∷ s.before; here = s.here; after = s.after; split = ap (λ zs. x ∷ zs) s.split; each = one r s.each; goes = s.goes }

pub each_then : {A B C : Type 0} {R : A → B → Type 0} {S : B → C → Type 0} (T : A → C → Type 0) (xs : List A) (ys : List B) (zs : List C) → ((x : A) (y : B) (z : C) → R x y → S y z → T x z) → Each R xs ys → Each S ys zs → Each T xs zs
each_then T [] [] [] f none none = none
each_then T [] [] (z ∷ zs) f e d = elim d [ ]
each_then T [] (y ∷ ys) zs f e d = elim e [ ]
each_then T (x ∷ xs) [] zs f e d = elim e [ ]
each_then T (x ∷ xs) (y ∷ ys) [] f e d = elim d [ ]
each_then T (x ∷ xs) (y ∷ ys) (z ∷ zs) f (one r e) (one s d) = one (f x y z r s) (each_then T xs ys zs f e d)

-- an item between others is one of the whole
pub one_behind : {A : Type 0} (front : List A) (x : A) (back : List A) → IsOneOf x (front ++ x ∷ back)
one_behind [] x back = first_one
one_behind (y ∷ front) x back = other_one (one_behind front x back)

-- what goes with one of the first list
pub each_one : {A B : Type 0} {R : A → B → Type 0} (x : A) (xs : List A) (ys : List B) → Each R xs ys → IsOneOf x xs → (y : B) × R x y
each_one x [] ys e i = elim i [ ]
each_one x (z ∷ xs) [] e i = elim e [ ]
each_one x (_ ∷ xs) (y ∷ ys) (one r e) first_one = (y, r)
each_one x (_ ∷ xs) (y ∷ ys) (one r e) (other_one i) = each_one x xs ys e i

-- one of a list with an item behind it
pub one_of_more : {A : Type 0} (x : A) (xs : List A) (y : A) → IsOneOf x (xs ++ y ∷ []) → IsOneOf x xs ⊎ (x ≡ y)
one_of_more x [] _ first_one = inr refl
one_of_more x [] y (other_one i) = elim i [ ]
one_of_more x (_ ∷ xs) y first_one = inl first_one
one_of_more x (z ∷ xs) y (other_one i) = elim (one_of_more x xs y i) [
  | inl j ↦ inl (other_one j)
  | inr e ↦ inr e
]
