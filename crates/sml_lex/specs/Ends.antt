-- The longest piece at a place, for a reading of which the first bytes may be taken already.
use Rattle.std.specs.Prelude.{◌≡◌, ℕ, ◌+◌, List, ◌∷◌, ◌++◌, length, Option, Some, None}
use Rattle.grammar_rules.specs.Spelling.{Reading, Refused, Refusal}

-- the bytes from n on begin with a piece that is read so, up to a place, and with none that is longer
pub record Ends (A : List ℕ → Option Reading) (n : ℕ) (bs : List ℕ) (r : Reading) (to : ℕ) : Type 0 where
  pub front : List ℕ
  pub back : List ℕ
  pub whole : bs ≡ front ++ back
  pub is : A front ≡ Some r
  pub most : (y : ℕ) (ys zs : List ℕ) → back ≡ y ∷ (ys ++ zs) → A (front ++ y ∷ ys) ≡ None
  pub place : to ≡ n + length front

-- the longest piece is refused
abbrev pub EndsBadly : (List ℕ → Option Reading) → ℕ → List ℕ → Refusal → Type 0
EndsBadly A n bs r = (to : ℕ) × Ends A n bs (Refused r) to
