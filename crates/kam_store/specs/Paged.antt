-- A store whose regions are in pages.
use Rattle.std.specs.Prelude.{◌≡◌, ℕ, ◌-◌, List, [], length, None, refl}
use Rattle.std.specs.Coded.{Coded, code_by, coded×, coded_ℕ, coded_list}
use Rattle.page_pool.specs.Holding.{Holding}
use Rattle.kam_store.specs.Store.{LiveRegion, StoreState, pages_of}

-- how many regions were made, the live ones, and where the pages come from
pub record Paged (P : Type 0) : Type 0 where
  pub made : ℕ
  pub live : List LiveRegion
  pub pages : P

abbrev pub live_code : Coded LiveRegion
live_code = code_by (ℕ × List ℕ) (coded× coded_ℕ (coded_list coded_ℕ)) (λ r. (r.serial, r.words)) (λ p. record { serial = p.0; words = p.1 }) (λ _. refl)

-- such a store is kept as the triple of its fields
abbrev pub paged_code : {P : Type 0} → Coded P → Coded (Paged P)
paged_code {P} c = code_by (ℕ × (List LiveRegion × P)) (coded× coded_ℕ (coded× (coded_list live_code) c)) (λ s. (s.made, (s.live, s.pages))) (λ p. record { made = p.0; live = p.1.0; pages = p.1.1 }) (λ _. refl)

-- the base is what is out beside the pages that the live regions need
abbrev pub paged_state : {M : Type 0} → Holding M → ℕ → List LiveRegion → StoreState M
paged_state h made live = record {
  made = made;
  live = live;
  mark = h.mark;
  base = length h.out - pages_of live;
  peak = h.peak;
  low = h.low;
  dries = h.dries;
  quota = None;
}

-- a new store
pub record IsStarted {P : Type 0} (s : Paged P) (pages : P) : Type 0 where
  pub made : s.made ≡ 0
  pub live : s.live ≡ []
  pub source : s.pages ≡ pages

-- what a store leaves in the end: as many pages are out as there were at first
pub record IsFinished {M : Type 0} (s : StoreState M) (h : Holding M) : Type 0 where
  pub out : length h.out ≡ s.base
  pub mark : h.mark ≡ s.mark
  pub peak : h.peak ≡ s.peak
  pub low : h.low ≡ s.low
  pub dries : h.dries ≡ s.dries
