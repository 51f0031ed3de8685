-- What an object of the outside tells of itself, and its counts of faults. `None` is an object that doesn't tell.
use Rattle.std.specs.Prelude.{◌≡◌, ℕ, ◌+◌, ◌-◌, ◌<◌, ◌≤◌, ◌^◌, min, List, [], ◌∷◌, ◌++◌, take, length, Option, Some, None}

-- a count of faults rose, or stands at the end of a `u64`
abbrev pub Rose : ℕ → ℕ → Type 0
Rose old new = min (old + 1) (2 ^ 64 - 1) ≤ new

-- what is told, and these bytes after it
abbrev pub grown : Option (List ℕ) → List ℕ → Option (List ℕ)
grown None more = None
grown (Some held) more = Some (held ++ more)

-- these bytes, and what is told after them
abbrev pub led : List ℕ → Option (List ℕ) → Option (List ℕ)
led front None = None
led front (Some rest) = Some (front ++ rest)

-- what is told grew by a front of the bytes, which may be none or all of them
abbrev pub GrewByFront : Option (List ℕ) → List ℕ → Option (List ℕ) → Type 0
GrewByFront old bytes new = (n : ℕ) × (n ≤ length bytes) × (new ≡ grown old (take n bytes))

-- nothing is left, where it is told
abbrev pub IsUsedUp : Option (List ℕ) → Type 0
IsUsedUp None = Unit {0}
IsUsedUp (Some left) = left ≡ []

-- the text under each name, where files tell it; a name without a file has none
abbrev pub Contents : Type 0
Contents = Option (List ℕ → Option (List ℕ))

-- the files hold this text under this name, where they tell it
abbrev pub HoldsFile : Contents → List ℕ → List ℕ → Type 0
HoldsFile None name text = Unit {0}
HoldsFile (Some text_at) name text = text_at name ≡ Some text

-- the files tell what they hold, and it is nothing under this name
abbrev pub LacksFile : Contents → List ℕ → Type 0
LacksFile None name = ⊥
LacksFile (Some text_at) name = text_at name ≡ None

-- the files hold more than this many bytes under this name, where they tell it
abbrev pub HoldsLongFile : Contents → List ℕ → ℕ → Type 0
HoldsLongFile None name most = Unit {0}
HoldsLongFile (Some text_at) name most = (text : List ℕ) × (text_at name ≡ Some text) × (most < length text)

-- a clock that tells its readings gives the first one and removes it, unless it is the only one
abbrev pub NextReading : Option (List ℕ) → ℕ → Option (List ℕ) → Type 0
NextReading None reading new = new ≡ None
NextReading (Some []) reading new = ⊥
NextReading (Some (r ∷ [])) reading new = (reading ≡ r) × (new ≡ Some (r ∷ []))
NextReading (Some (r ∷ s ∷ later)) reading new = (reading ≡ r) × (new ≡ Some (s ∷ later))
