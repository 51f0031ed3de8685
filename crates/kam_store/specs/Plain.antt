-- A store whose regions are lists.
use Rattle.std.specs.Prelude.{ℕ, List, [], ◌∷◌, None}
use Rattle.kam_store.specs.Store.{LiveRegion, StoreState}

-- how many regions were made, and the live ones
pub record PlainRegions : Type 0 where
  pub made : ℕ
  pub live : List LiveRegion

-- regions with these serials and these words
abbrev pub live_of : List ℕ → List (List ℕ) → List LiveRegion
live_of [] wss = []
live_of (n ∷ ns) [] = []
live_of (n ∷ ns) (ws ∷ wss) = record { serial = n; words = ws } ∷ live_of ns wss

-- a plain store has no pages
abbrev pub plain_state : PlainRegions → StoreState ℕ
plain_state s = record { made = s.made; live = s.live; mark = 0; base = 0; peak = 0; low = None; dries = 0; quota = None }
