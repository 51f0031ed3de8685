-- What a store of regions means, and what a call makes of it.
--     StoreState M                           the whole meaning
--     words_at, length_at, word_at           what a serial and a pointer name
--     with_region, with_live, with_word      the meaning with one thing changed
--     pages_for, pages_of, load_of           what regions need of pages
use Rattle.std.specs.Prelude.{ℕ, ◌+◌, ◌/◌, ◌%◌, ◌^◌, ◌<◌, ◌≤◌, List, [], ◌∷◌, ◌++◌, length, map, Option, Some, None, if◌then◌else◌, ◌==◌, slice_get, slice_set}

-- a live region: its serial, and the words written to it
pub record LiveRegion : Type 0 where
  pub serial : ℕ
  pub words : List ℕ

-- all that a store means; its pages' mark, peak and low are those of `page_pool`
pub record StoreState (M : Type 0) : Type 0 where
  -- how many regions it made
  pub made : ℕ
  -- the live regions, the lowest first
  pub live : List LiveRegion
  -- what tells where its pages come from
  pub mark : M
  -- how many pages were out when it was made
  pub base : ℕ
  -- the most pages that were out at once
  pub peak : ℕ
  -- the fewest pages that were out when none was to be had, if that came
  pub low : Option ℕ
  -- how often none was to be had, up to the greatest count
  pub dries : ℕ
  -- the most pages that it may hold, if there is such a bound; nothing reads it yet
  pub quota : Option ℕ

-- numbers rise from above `low`, and none is above `high`
abbrev pub RisesTo : ℕ → ℕ → List ℕ → Type 0
RisesTo high low [] = low ≤ high
RisesTo high low (n ∷ ns) = (low < n) × RisesTo high n ns

-- the serials of some regions
abbrev pub serials_of : List LiveRegion → List ℕ
serials_of rs = map (λ r. r.serial) rs

-- the live regions' serials rise from 1 to the number made
abbrev pub AreSerials : {M : Type 0} → StoreState M → Type 0
AreSerials s = RisesTo s.made 0 (serials_of s.live)

-- the words of the region with a serial, if there is one
abbrev pub words_at : ℕ → List LiveRegion → Option (List ℕ)
words_at serial [] = None
words_at serial (r ∷ rs) = if r.serial == serial then Some r.words else words_at serial rs

-- how many there are, 0 if there is no such region
abbrev pub length_at : ℕ → List LiveRegion → ℕ
length_at serial [] = 0
length_at serial (r ∷ rs) = if r.serial == serial then length r.words else length_at serial rs

-- the regions with the words of one changed
abbrev pub changed : ℕ → (List ℕ → List ℕ) → List LiveRegion → List LiveRegion
changed serial f [] = []
changed serial f (r ∷ rs) = if r.serial == serial then record r { words = f r.words } ∷ rs else r ∷ changed serial f rs

-- the word at a place of some words, if there are such words and it is one of them
abbrev pub word_in : Option (List ℕ) → ℕ → Option ℕ
word_in None place = None
word_in (Some ws) place = slice_get ws place

-- the word so many words behind a pointer, if its region is live and the word is written
abbrev pub word_at : {M : Type 0} → StoreState M → ℕ → ℕ → Option ℕ
word_at s pointer field = word_in (words_at (pointer / 2 ^ 32) s.live) (pointer % 2 ^ 32 + field)

-- one region more, above the others and with no words
abbrev pub with_region : {M : Type 0} → StoreState M → StoreState M
with_region s = record s { made = s.made + 1; live = s.live ++ record { serial = s.made + 1; words = [] } ∷ [] }

-- other live regions
abbrev pub with_live : {M : Type 0} → StoreState M → List LiveRegion → StoreState M
with_live s live = record s { live = live }

-- another word behind a pointer
abbrev pub with_word : {M : Type 0} → StoreState M → ℕ → ℕ → ℕ → StoreState M
with_word s pointer field word = with_live s (changed (pointer / 2 ^ 32) (λ ws. slice_set ws (pointer % 2 ^ 32 + field) word) s.live)

-- more words at the end of a region
abbrev pub appended : ℕ → List ℕ → List LiveRegion → List LiveRegion
appended serial more live = changed serial (λ ws. ws ++ more) live

-- the pages of 128 words that so many words need
abbrev pub pages_for : ℕ → ℕ
pages_for n = (n + 127) / 128

-- the pages that regions need
abbrev pub pages_of : List LiveRegion → ℕ
pages_of [] = 0
pages_of (r ∷ rs) = pages_for (length r.words) + pages_of rs

-- the pages that were out at first and those that the live regions need
abbrev pub load_of : {M : Type 0} → StoreState M → ℕ
load_of s = s.base + pages_of s.live

-- how many words regions have
abbrev pub words_in : List LiveRegion → ℕ
words_in [] = 0
words_in (r ∷ rs) = length r.words + words_in rs
