-- Tests, options and the front of a text.
use Rattle.std.proofs.Common.{◌≡◌, ◌⊎◌, ℕ, Bool, true, false, cond, List, [], ◌∷◌, ◌++◌, Option, Some, None, refl, ap, ◌∙◌, inl, inr}
use Rattle.std.specs.Prelude.{◌==◌, ◌&&◌, not, is_some}
use Rattle.smlserver_top.specs.Spelling.{begins_with}
use Rattle.std.proofs.lemmas.Bool.{eqb-true, eq-eqb}
use Rattle.smlserver_top.specs.Reading.{after, ◌>>=◌}

-- which way a test went
pub chosen : {A : Type 0} (b : Bool) (x y z : A) → cond b x y ≡ z → ((b ≡ true) × (x ≡ z)) ⊎ ((b ≡ false) × (y ≡ z))
chosen true x y z e = inl (refl, e)
chosen false x y z e = inr (refl, e)

pub split_and : (a b : Bool) → (a && b) ≡ true → (a ≡ true) × (b ≡ true)
split_and true b e = (refl, e)
split_and false b e = absurd (cc)

pub bind_some : {A B : Type 0} (o : Option A) (f : A → Option B) (y : B) → (o >>= f) ≡ Some y → (x : A) × (o ≡ Some x) × (f x ≡ Some y)
bind_some None f y e = absurd (cc)
bind_some (Some x) f y e = (x, refl, e)

pub after-append : (token rest : List ℕ) → after token (token ++ rest) ≡ Some rest
after-append [] rest = refl
after-append (t ∷ token) rest = rw (eq-eqb t t refl) (after-append token rest)

pub after_is : (token text rest : List ℕ) → after token text ≡ Some rest → text ≡ token ++ rest
after_is [] text rest e = cc
after_is (t ∷ token) [] rest e = absurd (cc)
after_is (t ∷ token) (b ∷ text) rest e =
    elim (chosen (t == b) (after token text) None (Some rest) e) [
      | inl w ↦ let same = eqb-true t b w.0 in let more = after_is token text rest w.1 in cc
      | inr w ↦ absurd (cc)
    ]

pub then_some : {A B : Type 0} (o : Option A) (f : A → Option B) (x : A) (y : B) → o ≡ Some x → f x ≡ Some y → (o >>= f) ≡ Some y
then_some o f x y e g = ap (λ p. p >>= f) e ∙ g

pub not_true : (r : Bool) → not r ≡ true → r ≡ false
not_true true e = absurd (cc)
not_true false e = refl

pub same_found : {A B : Type 0} (a c : A) (b d : B) → ◌≡◌ {A = Option (A × B)} (Some (a, b)) (Some (c, d)) → (a ≡ c) × (b ≡ d)
same_found {A} {B} a c b d e = let p : ◌≡◌ {A = A × B} (a, b) (c, d) = cc in (ap (λ (q : A × B). q.0) p, ap (λ (q : A × B). q.1) p)

-- what doesn't follow isn't found
pub after_none : (token text : List ℕ) → ((rest : List ℕ) → text ≡ token ++ rest → ⊥) → after token text ≡ None
after_none token text none = elim (after token text) as (λ o. after token text ≡ o → o ≡ None) [
  | None ↦ λ e. refl
  | Some rest ↦ λ e. absurd (none rest (after_is token text rest e))
] refl

pub begins_after : (front text : List ℕ) → is_some (after front text) ≡ begins_with front text
begins_after [] text = refl
begins_after (f ∷ front) [] = refl
begins_after (f ∷ front) (b ∷ text) = elim (f == b) as (λ r. is_some (cond r (after front text) None) ≡ (r && begins_with front text)) [ true ↦ begins_after front text | false ↦ refl ]
