-- What a plain store keeps true of its fields.
use Rattle.std.specs.Prelude.{◌≡◌, ℕ, ◌^◌, ◌<◌, List, map, length, Vec}
use Rattle.std.specs.declared.alloc.Global.{Global}
use Rattle.std.specs.List.{All}
use Rattle.kam_store.specs.declared.plain_store.PlainStore.TheInside.{Inside}

-- the lists in some vectors
abbrev pub lists : List (Vec ℕ Global) → List (List ℕ)
lists vs = map (λ v. v.items) vs

-- each serial has its list, which is short enough for a place in it to stand in a pointer
pub record IsPlain (s : Inside) : Type 0 where
  pub paired : length s.regions.items ≡ length s.serials.live
  pub short : All (λ v. length v.items < 2 ^ 32) s.regions.items
