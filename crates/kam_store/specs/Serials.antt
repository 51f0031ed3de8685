-- The serials of a store.
use Rattle.std.specs.Prelude.{ℕ, List}

-- how many serials were given, and those of the live regions, the lowest first
pub record SerialList : Type 0 where
  pub made : ℕ
  pub live : List ℕ
