-- Tests, options and the front of a text.
use Rattle.std.proofs.Common.{◌≡◌, ◌⊎◌, ℕ, Bool, true, false, cond, List, [], ◌∷◌, ◌++◌, Some, None, refl, inl, inr}
use Rattle.std.specs.Prelude.{◌==◌, ◌&&◌, not}
use Rattle.std.proofs.lemmas.Bool.{eqb-true, eq-eqb}
use Rattle.project_lines.specs.Reading.{after}

-- which way a test went
pub chosen : {A : Type 0} (b : Bool) (x y z : A) → cond b x y ≡ z → ((b ≡ true) × (x ≡ z)) ⊎ ((b ≡ false) × (y ≡ z))
chosen true x y z e = inl (refl, e)
chosen false x y z e = inr (refl, e)

pub split_and : (a b : Bool) → (a && b) ≡ true → (a ≡ true) × (b ≡ true)
split_and true b e = (refl, e)
split_and false b e = absurd (cc)

pub after-append : (token rest : List ℕ) → after token (token ++ rest) ≡ Some rest
after-append [] rest = refl
after-append (t ∷ token) rest = rw (eq-eqb t t refl) (after-append token rest)

pub after_is : (token text rest : List ℕ) → after token text ≡ Some rest → text ≡ token ++ rest
after_is [] text rest e = cc
after_is (t ∷ token) [] rest e = absurd (cc)
after_is (t ∷ token) (b ∷ text) rest e =
    elim (chosen (t == b) (after token text) None (Some rest) e) [
      | inl w ↦ let same = eqb-true t b w.0 in let more = after_is token text rest w.1 in cc
      | inr w ↦ absurd (cc)
    ]

pub not_true : (r : Bool) → not r ≡ true → r ≡ false
not_true true e = absurd (cc)
not_true false e = refl

-- what doesn't follow isn't found
pub after_none : (token text : List ℕ) → ((rest : List ℕ) → text ≡ token ++ rest → ⊥) → after token text ≡ None
after_none token text none = elim (after token text) as (λ o. after token text ≡ o → o ≡ None) [
  | None ↦ λ e. refl
  | Some rest ↦ λ e. absurd (none rest (after_is token text rest e))
] refl
