-- What a taker of pages holds, and how each call changes it.
--     times n xs               how often n stands in xs
--     Holding M                the pages that are out, and what their taker met
--     TakesPage, FindsNone     a page came, or none
--     GivesPage                a page went back
use Rattle.std.specs.Prelude.{◌≡◌, ℕ, ◌+◌, ◌-◌, ◌^◌, min, max, List, [], ◌∷◌, length, Option, Some, None, if◌then◌else◌, ◌==◌}

-- how often a number stands in a list
abbrev pub times : ℕ → List ℕ → ℕ
times n [] = 0
times n (x ∷ xs) = (if x == n then 1 else 0) + times n xs

-- `more` has the numbers of `less` and n once more, in any order
pub record IsWith (less : List ℕ) (n : ℕ) (more : List ℕ) : Type 0 where
  pub each : (k : ℕ) → times k more ≡ times k (n ∷ less)
  pub one_longer : length more ≡ length less + 1

-- what a taker of pages holds, and what it met so far
pub record Holding (M : Type 0) : Type 0 where
  -- the numbers of the pages that are out
  pub out : List ℕ
  -- the most pages that were out at once
  pub peak : ℕ
  -- the fewest pages that were out when none was to be had, if that came
  pub low : Option ℕ
  -- how often none was to be had, up to the greatest count
  pub dries : ℕ
  -- what tells where the pages come from
  pub mark : M

-- one more, up to the greatest count
abbrev pub raised : ℕ → ℕ
raised n = min (n + 1) (2 ^ 64 - 1)

-- the lesser of a number that may be absent and one that is there
abbrev pub lesser : Option ℕ → ℕ → ℕ
lesser None n = n
lesser (Some m) n = min m n

-- page n came, which wasn't out
pub record TakesPage {M : Type 0} (old : Holding M) (n : ℕ) (new : Holding M) : Type 0 where
  pub fresh : times n old.out ≡ 0
  pub out : IsWith old.out n new.out
  pub peak : new.peak ≡ max old.peak (length new.out)
  pub low : new.low ≡ old.low
  pub dries : new.dries ≡ old.dries
  pub mark : new.mark ≡ old.mark

-- none was to be had
pub record FindsNone {M : Type 0} (old new : Holding M) : Type 0 where
  pub out : new.out ≡ old.out
  pub peak : new.peak ≡ old.peak
  pub low : new.low ≡ Some (lesser old.low (length old.out))
  pub dries : new.dries ≡ raised old.dries
  pub mark : new.mark ≡ old.mark

-- page n went back
pub record GivesPage {M : Type 0} (old : Holding M) (n : ℕ) (new : Holding M) : Type 0 where
  pub out : IsWith new.out n old.out
  pub peak : new.peak ≡ old.peak
  pub low : new.low ≡ old.low
  pub dries : new.dries ≡ old.dries
  pub mark : new.mark ≡ old.mark
