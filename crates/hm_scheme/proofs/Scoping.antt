-- Bindings with places: what is true of them after one more, and after one less.
use Rattle.std.proofs.Common.{◌≡◌, ◌≢◌, ℕ, zero, suc, ◌+◌, ◌-◌, ◌<◌, ◌≤◌, ◌⊎◌, inl, inr, Bool, true, false, cond, ◌==◌, List, [], ◌∷◌, ◌++◌, length, take, drop, set, get_or, Option, Some, None, IfSome, refl, ap, sym, ◌∙◌, subst, arith, min, append_assoc, get_or-set_same, get_or-set_other, take_at, below_more}
use Rattle.std.proofs.lemmas.Bool.{eqb-true, eq-eqb, cases_eq, cases_lt}
use Rattle.std.proofs.lemmas.List.{get_or_push, get_or_past, length_push, get_or_append_left, take-append-le, take_more, map_push, take_rest, drop_min, drop-map}
use Rattle.hm_scheme.specs.declared.scope.Bound.{Bound}
use Rattle.hm_scheme.specs.Bindings.{Binding, meaning_in, first_of_two, shown, place_after, last_place, bound_at, IsIndexed}

-- ---- the place of the last binding

after-none : (t : Bool) → place_after None t ≡ cond t (Some 0) None
after-none true = refl
after-none false = refl

after-cond : (t u : Bool) (n : ℕ) (p : Option ℕ) → place_after (cond t (Some n) p) u ≡ cond t (Some (suc n)) (place_after p u)
after-cond true u n p = refl
after-cond false u n p = refl

pub last_place-push : (bs : List Bound) (b : Bound) (name : ℕ) → last_place (bs ++ b ∷ []) name ≡ cond (b.name == name) (Some (length bs)) (last_place bs name)
last_place-push [] b name = after-none (b.name == name)
last_place-push (x ∷ bs) b name = ap (λ p. place_after p (x.name == name)) (last_place-push bs b name) ∙ after-cond (b.name == name) (x.name == name) (length bs) (last_place bs name)

pub last_place-here : (bs : List Bound) (b : Bound) → last_place (bs ++ b ∷ []) b.name ≡ Some (length bs)
last_place-here bs b = last_place-push bs b b.name ∙ ap (λ t. cond t (Some (length bs)) (last_place bs b.name)) (eq-eqb b.name b.name refl)

pub last_place-other : (bs : List Bound) (b : Bound) (name : ℕ) → b.name ≢ name → last_place (bs ++ b ∷ []) name ≡ last_place bs name
last_place-other bs b name n = last_place-push bs b name ∙ by (b.name == name) refl
  where
    by : (t : Bool) → (b.name == name) ≡ t → cond t (Some (length bs)) (last_place bs name) ≡ last_place bs name
    by true h = absurd (n (eqb-true b.name name h))
    by false h = refl

pub last_place-within : (bs : List Bound) (name : ℕ) → IfSome (last_place bs name) (λ i. i < length bs)
last_place-within [] name = tt
last_place-within (b ∷ bs) name = by (last_place bs name) (b.name == name) (last_place-within bs name)
  where
    by : (p : Option ℕ) (t : Bool) → IfSome p (λ i. i < length bs) → IfSome (place_after p t) (λ i. i < suc (length bs))
    by (Some i) t h = omega (arith, h)
    by None true h = omega arith
    by None false h = tt

-- ---- what a name stands for

abbrev pub meaning_at : List Bound → Option ℕ → Option ℕ
meaning_at bs None = None
meaning_at bs (Some i) = Some ((bound_at bs i).meaning)

pub meaning_in-shown : (bs : List Bound) (name : ℕ) → meaning_in (shown bs) name ≡ meaning_at bs (last_place bs name)
meaning_in-shown [] name = refl
meaning_in-shown (b ∷ bs) name = ap (λ m. first_of_two m (cond (b.name == name) (Some b.meaning) None)) (meaning_in-shown bs name) ∙ by (last_place bs name) (b.name == name)
  where
    by : (p : Option ℕ) (t : Bool) → first_of_two (meaning_at bs p) (cond t (Some b.meaning) None) ≡ meaning_at (b ∷ bs) (place_after p t)
    by (Some i) t = refl
    by None true = refl
    by None false = refl

-- ---- room for a name

pub get_or-pad : (xs : List (Option ℕ)) (n : ℕ) → get_or (xs ++ None ∷ []) n None ≡ get_or xs n None
get_or-pad [] zero = refl
get_or-pad [] (suc n) = refl
get_or-pad (x ∷ xs) zero = refl
get_or-pad (x ∷ xs) (suc n) = get_or-pad xs n

-- ---- one binding more, and one less

abbrev pub Outer : List Bound → ℕ → Type 0
Outer bs i = (bound_at bs i).outer ≡ last_place (take i bs) ((bound_at bs i).name)

outer-left : (bs : List Bound) (b : Bound) (i : ℕ) → i < length bs → Outer (bs ++ b ∷ []) i ≡ Outer bs i
outer-left bs b i l =
    ap (λ x. x.outer ≡ last_place (take i (bs ++ b ∷ [])) x.name) (get_or_append_left bs (b ∷ []) _ i l)
    ∙ ap (λ xs. (bound_at bs i).outer ≡ last_place xs ((bound_at bs i).name)) (take-append-le i bs (b ∷ []) (omega (arith, l)))

outer-here : (bs : List Bound) (b : Bound) → b.outer ≡ last_place bs b.name → Outer (bs ++ b ∷ []) (length bs)
outer-here bs b h =
    subst (λ x. x.outer ≡ last_place (take (length bs) (bs ++ b ∷ [])) x.name) (sym (get_or_push bs b _ (length bs) refl))
    (subst (λ xs. b.outer ≡ last_place xs b.name) (sym (take_at bs (b ∷ []) (length bs) refl)) h)

pub indexed-push : (bs : List Bound) (places room : List (Option ℕ)) (b : Bound) → IsIndexed bs places → ((n : ℕ) → get_or room n None ≡ get_or places n None) →
    b.name < length room → b.outer ≡ get_or room b.name None → IsIndexed (bs ++ b ∷ []) (set room b.name (Some (length bs)))
indexed-push bs places room b x same l o = record {
  inner = λ name. by name (cases_eq b.name name);
  outer = λ i h. below_more (λ k. Outer (bs ++ b ∷ []) k) (length bs) (λ k g. subst (λ T. T) (sym (outer-left bs b k g)) (x.outer k g))
      (outer-here bs b (o ∙ same b.name ∙ x.inner b.name)) i (subst (λ n. i < n) (length_push bs b) h);
}
  where
    by : (name : ℕ) → (b.name ≡ name) ⊎ (b.name ≡ name → ⊥) → get_or (set room b.name (Some (length bs))) name None ≡ last_place (bs ++ b ∷ []) name
    by name (inl e) =
        subst (λ n. get_or (set room b.name (Some (length bs))) n None ≡ last_place (bs ++ b ∷ []) n) e (get_or-set_same room b.name (Some (length bs)) None l ∙ sym (last_place-here bs b))
    by name (inr n) =
        get_or-set_other room b.name name (Some (length bs)) None (λ e. n (sym e)) ∙ same name ∙ x.inner name ∙ sym (last_place-other bs b name n)

-- the list of places has one for the last binding's name
pub indexed-room : (bs : List Bound) (b : Bound) (places : List (Option ℕ)) → IsIndexed (bs ++ b ∷ []) places → b.name < length places
indexed-room bs b places x = by (cases_lt b.name (length places))
  where
    by : (b.name < length places) ⊎ (length places ≤ b.name) → b.name < length places
    by (inl l) = l
    by (inr g) = let e = sym (get_or_past places b.name None g) ∙ x.inner b.name ∙ last_place-here bs b in absurd (cc)

pub indexed-pop : (bs : List Bound) (b : Bound) (places : List (Option ℕ)) → IsIndexed (bs ++ b ∷ []) places → IsIndexed bs (set places b.name b.outer)
indexed-pop bs b places x = record {
  inner = λ name. by name (cases_eq b.name name);
  outer = λ i h. subst (λ T. T) (outer-left bs b i h) (x.outer i (subst (λ n. i < n) (sym (length_push bs b)) (omega (arith, h))));
}
  where
    last : b.outer ≡ last_place bs b.name
    last =
        subst (λ y. y.outer ≡ last_place bs y.name) (get_or_push bs b _ (length bs) refl)
        (subst (λ xs. (bound_at (bs ++ b ∷ []) (length bs)).outer ≡ last_place xs ((bound_at (bs ++ b ∷ []) (length bs)).name)) (take_at bs (b ∷ []) (length bs) refl)
        (x.outer (length bs) (subst (λ n. length bs < n) (sym (length_push bs b)) (omega arith))))

    by : (name : ℕ) → (b.name ≡ name) ⊎ (b.name ≡ name → ⊥) → get_or (set places b.name b.outer) name None ≡ last_place bs name
    by name (inl e) =
        subst (λ n. get_or (set places b.name b.outer) n None ≡ last_place bs n) e (get_or-set_same places b.name b.outer None (indexed-room bs b places x) ∙ last)
    by name (inr n) =
        get_or-set_other places b.name name b.outer None (λ e. n (sym e)) ∙ x.inner name ∙ last_place-other bs b name n

-- ---- what a look-up finds

pub found : (bs : List Bound) (places : List (Option ℕ)) (name i : ℕ) → IsIndexed bs places → Some i ≡ get_or places name None → (i < length bs) × (meaning_in (shown bs) name ≡ Some ((bound_at bs i).meaning))
found bs places name i x e =
    let h : last_place bs name ≡ Some i = sym (e ∙ x.inner name) in
    (subst (λ p. IfSome p (λ j. j < length bs)) h (last_place-within bs name), meaning_in-shown bs name ∙ ap (meaning_at bs) h)

pub not_found : (bs : List Bound) (places : List (Option ℕ)) (name : ℕ) → IsIndexed bs places → None ≡ get_or places name None → meaning_in (shown bs) name ≡ None
not_found bs places name x e = meaning_in-shown bs name ∙ ap (meaning_at bs) (sym (e ∙ x.inner name))

-- ---- bindings one after the other

pub shown-more : (base : List Binding) (bs : List Bound) (i : ℕ) → i < length bs → (base ++ shown (take i bs)) ++ ((bound_at bs i).name, (bound_at bs i).meaning) ∷ [] ≡ base ++ shown (take (i + 1) bs)
shown-more base bs i l =
    append_assoc base (shown (take i bs)) _ ∙ ap (λ z. base ++ z) (sym (ap shown (take_more bs i _ l) ∙ map_push (λ b. (b.name, b.meaning)) (take i bs) (bound_at bs i)))

pub shown-inside : (xs ys kept : List Bound) (depth from len : ℕ) → ys ≡ xs → from ≡ min depth len → len ≡ length xs → kept ≡ take (length ys - from) (drop from ys) → shown kept ≡ drop depth (shown xs)
shown-inside xs ys kept depth from len same f l k =
    ap shown (k ∙ take_rest ys from ∙ ap (drop from) same ∙ ap (λ n. drop n xs) (f ∙ ap (min depth) l) ∙ drop_min depth xs) ∙ sym (drop-map (λ b. (b.name, b.meaning)) depth xs)
