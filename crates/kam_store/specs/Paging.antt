-- What one region in pages says.
use Rattle.std.specs.Prelude.{◌≡◌, ℕ, ◌+◌, ◌-◌, List, ◌++◌, length, take}
use Rattle.std.specs.List.{All}
use Rattle.kam_store.specs.Store.{pages_for}
use Rattle.kam_store.specs.Joined.{joined, numbers}
use Rattle.kam_store.specs.declared.page_region.PageRegion.{PageRegion}

-- its words
abbrev pub content_of : PageRegion → List ℕ
content_of r = take r.used (joined r.pages.items)

-- its pages' numbers
abbrev pub numbers_of : PageRegion → List ℕ
numbers_of r = numbers r.pages.items

-- how many pages it needs more for some words more
abbrev pub more_pages : PageRegion → List ℕ → ℕ
more_pages r words = pages_for (r.used + length words) - pages_for r.used

-- regions stay as they are, perhaps with some more that have no words
pub record KeepsRegions (old new : List PageRegion) : Type 0 where
  pub more : List PageRegion
  pub is : new ≡ old ++ more
  pub idle : All (λ r. r.used ≡ 0) more
