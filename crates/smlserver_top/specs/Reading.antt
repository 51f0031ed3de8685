-- Reading by the front of a text.
use Rattle.std.specs.Prelude.{ℕ, ◌==◌, List, [], ◌∷◌, Option, Some, None, option_and_then, if◌then◌else◌}

infixl 10 ◌>>=◌
abbrev pub ◌>>=◌ : {A B : Type 0} → Option A → (A → Option B) → Option B
o >>= f = option_and_then f o

-- what follows these bytes, where the text begins with them
abbrev pub after : List ℕ → List ℕ → Option (List ℕ)
after [] text = Some text
after (t ∷ token) [] = None
after (t ∷ token) (b ∷ text) = if t == b then after token text else None
