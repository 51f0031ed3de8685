-- A new number for a new name.
use Rattle.std.proofs.Common.{◌≡◌, ℕ, ◌+◌, ◌<◌, Bool, true, false, cond, List, Option, Some, None, refl, ap, sym, ◌∙◌, subst, arith, bytes_eq, [], ◌∷◌, map, Vec, Global, hash_map_len, is_some, if◌then◌else◌}
use Rattle.std.proofs.lemmas.Slice.Eq.{bytes_eq-Decides}
use Rattle.std.specs.Map.{lookup, AreApart, KeepsOthers}
use Rattle.std.specs.HashMap.{HashMap, get, UpdatesBy}
use Rattle.hm_scheme.specs.Numbering.{IsNumbering, number_in, shown_numbers}

abbrev pub Adds : (f g : List ℕ → Option ℕ) → List ℕ → ℕ → Type 0
Adds f g name c = (q : List ℕ) → g q ≡ cond (bytes_eq name q) (Some c) (f q)

-- what a name of the new table has: the new number, or what it had
pub number-cases : (f g : List ℕ → Option ℕ) (name : List ℕ) (c : ℕ) → Adds f g name c → (P : Type 0) (q : List ℕ) (n : ℕ) → g q ≡ Some n → (name ≡ q → c ≡ n → P) → (f q ≡ Some n → P) → P
number-cases f g name c a P q n e new old = by (bytes_eq name q) refl
  where
    by : (t : Bool) → bytes_eq name q ≡ t → P
    by true h =
        let i : cond true (Some c) (f q) ≡ Some n = subst (λ b. cond b (Some c) (f q) ≡ Some n) h (sym (a q) ∙ e) in
        new ((bytes_eq-Decides name q).0 h) (cc)
    by false h = old (subst (λ b. cond b (Some c) (f q) ≡ Some n) h (sym (a q) ∙ e))

pub numbering-more : (f g : List ℕ → Option ℕ) (name : List ℕ) (c : ℕ) → IsNumbering f c → Adds f g name c → IsNumbering g (c + 1)
numbering-more f g name c i a = record {
  below = λ q n e. number-cases f g name c a (n < c + 1) q n e (λ _ h. omega (arith, h)) (λ h. let l = i.below q n h in omega (arith, l));
  apart = λ p q n d e. number-cases f g name c a (p ≡ q) p n d
      (λ x h. number-cases f g name c a (p ≡ q) q n e (λ y _. sym x ∙ y) (λ old. let l = i.below q n old in absurd (omega (arith, h, l))))
      (λ was. number-cases f g name c a (p ≡ q) q n e (λ _ h. let l = i.below p n was in absurd (omega (arith, h, l))) (λ old. i.apart p q n was old));
}

pub number-here : (f g : List ℕ → Option ℕ) (name : List ℕ) (c : ℕ) → Adds f g name c → g name ≡ Some c
number-here f g name c a = a name ∙ ap (λ b. cond b (Some c) (f name)) ((bytes_eq-Decides name name).1 refl)

pub number-kept : (f g : List ℕ → Option ℕ) (name : List ℕ) (c : ℕ) → f name ≡ None → Adds f g name c → (q : List ℕ) (n : ℕ) → f q ≡ Some n → g q ≡ Some n
number-kept f g name c none a q n e = a q ∙ by (bytes_eq name q) refl
  where
    by : (t : Bool) → bytes_eq name q ≡ t → cond t (Some c) (f q) ≡ Some n
    by true h =
        let s = sym none ∙ ap f ((bytes_eq-Decides name q).0 h) ∙ e in absurd (cc)
    by false h = e

-- the table's look-up is that of the list
pub lookup-shown : {X : Type 0} (test : List ℕ → Bool) (es : List (Vec ℕ Global × X)) → lookup test (map (λ e. (e.0.items, e.1)) es) ≡ lookup (λ k. test k.items) es
lookup-shown test [] = refl
lookup-shown test (e ∷ es) = ap (λ r. cond (test e.0.items) (Some e.1) r) (lookup-shown test es)

-- ---- a table with a new number

abbrev pub key_eq : Vec ℕ Global → Vec ℕ Global → Bool
key_eq k l = bytes_eq k.items l.items

abbrev shown_entries : List (Vec ℕ Global × ℕ) → List (List ℕ × ℕ)
shown_entries es = map (λ e. (e.0.items, e.1)) es

others : (name q : List ℕ) (key : Vec ℕ Global) → key.items ≡ name → bytes_eq name q ≡ false → AreApart (key_eq key) (λ k. bytes_eq q k.items)
others name q key e h k t = by (bytes_eq q k.items) refl
  where
    by : (b : Bool) → bytes_eq q k.items ≡ b → bytes_eq q k.items ≡ false
    by true g =
        let same : name ≡ q = sym e ∙ (bytes_eq-Decides key.items k.items).0 t ∙ sym ((bytes_eq-Decides q k.items).0 g) in
        let so = (bytes_eq-Decides name q).1 same in absurd (cc)
    by false g = g

numbers-added : (old new : List (Vec ℕ Global × ℕ)) (key : Vec ℕ Global) (name : List ℕ) (c : ℕ) → key.items ≡ name → lookup (key_eq key) new ≡ Some c → KeepsOthers key_eq (key_eq key) old new →
    Adds (number_in (shown_entries old)) (number_in (shown_entries new)) name c
unfolding KeepsOthers
numbers-added old new key name c e here keeps q = lookup-shown (bytes_eq q) new ∙ by (bytes_eq name q) refl
  where
    by : (t : Bool) → bytes_eq name q ≡ t → lookup (λ k. bytes_eq q k.items) new ≡ cond t (Some c) (number_in (shown_entries old) q)
    by true h = subst (λ z. lookup (λ k. bytes_eq z k.items) new ≡ Some c) (e ∙ (bytes_eq-Decides name q).0 h) here
    by false h =
        keeps (λ k. bytes_eq q k.items) (λ x y g. ap (λ z. bytes_eq z y.items) ((bytes_eq-Decides q x.items).0 g)) (others name q key e h)
        ∙ sym (lookup-shown (bytes_eq q) old)

-- what is true of a table after a new name got the next number
pub record HasNext {S : Type 0} (m n : HashMap (Vec ℕ Global) ℕ S) (name : List ℕ) (c : ℕ) : Type 0 where
  pub is : IsNumbering (number_in (shown_numbers n)) (hash_map_len n)
  pub here : number_in (shown_numbers n) name ≡ Some c
  pub kept : (q : List ℕ) (i : ℕ) → number_in (shown_numbers m) q ≡ Some i → number_in (shown_numbers n) q ≡ Some i

pub next : {S : Type 0} (m n : HashMap (Vec ℕ Global) ℕ S) (key : Vec ℕ Global) (name : List ℕ) (c : ℕ) (was : Option ℕ) → IsNumbering (number_in (shown_numbers m)) (hash_map_len m) → key.items ≡ name →
    number_in (shown_numbers m) name ≡ None → was ≡ get key_eq m key → hash_map_len n ≡ hash_map_len m + (if is_some was then 0 else 1) → c ≡ hash_map_len m →
    UpdatesBy key_eq (key_eq key) m n (Some c) → HasNext m n name c
next m n key name c was i e none w len count u =
    let a = numbers-added m.entries n.entries key name c e u.1 u.3 in
    let f = number_in (shown_numbers m) in
    let g = number_in (shown_numbers n) in
    let absent : lookup (key_eq key) m.entries ≡ None = sym (lookup-shown (bytes_eq key.items) m.entries) ∙ ap f e ∙ none in
    let gone : was ≡ None = w ∙ absent in
    let longer : hash_map_len n ≡ c + 1 = subst (λ o. hash_map_len n ≡ hash_map_len m + (if is_some o then 0 else 1)) gone len ∙ ap (λ k. k + 1) (sym count) in
    record {
      is = subst (IsNumbering g) (sym longer) (numbering-more f g name c (subst (IsNumbering f) (sym count) i) a);
      here = number-here f g name c a;
      kept = number-kept f g name c none a;
    }
