-- What a store in pages keeps true of its fields.
use Rattle.std.specs.Prelude.{◌≡◌, ℕ, ◌^◌, ◌<◌, ◌≤◌, List, map, length, drop}
use Rattle.std.specs.List.{All, flat_map}
use Rattle.page_pool.specs.Holding.{Holding}
use Rattle.kam_store.specs.Serials.{SerialList}
use Rattle.kam_store.specs.Moves.{AreOut}
use Rattle.kam_store.specs.Paging.{content_of, numbers_of}
use Rattle.kam_store.specs.declared.page_region.PageRegion.{PageRegion}

-- the words of each region
abbrev pub contents : List PageRegion → List (List ℕ)
contents rs = map content_of rs

-- the numbers of all pages
abbrev pub all_numbers : List PageRegion → List ℕ
all_numbers rs = flat_map numbers_of rs

-- each serial has its region, those above have no words, and each page is out
pub record IsPaged {M : Type 0} (serials : SerialList) (regions : List PageRegion) (held : ℕ) (h : Holding M) : Type 0 where
  pub paired : length serials.live ≤ length regions
  pub short : All (λ r. r.used < 2 ^ 32) regions
  pub idle : All (λ r. r.used ≡ 0) (drop (length serials.live) regions)
  pub count : held ≡ length (all_numbers regions)
  pub out : AreOut h (all_numbers regions)
