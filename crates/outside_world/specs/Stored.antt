-- What contracts see of the objects in memory.
use Rattle.std.specs.Prelude.{ℕ, ◌==◌, min, List, [], ◌∷◌, Option, Some, None, if◌then◌else◌}
use Rattle.std.specs.Str.{bytes_eq}
use Rattle.outside_world.specs.FaultPlan.{FaultPlan}

-- bytes of which a front was given
pub record PartlyRead : Type 0 where
  pub given : List ℕ
  pub left : List ℕ

-- a source in memory, and which of its reads fail
pub record SourceState : Type 0 where
  pub given : List ℕ
  pub left : List ℕ
  pub plan : FaultPlan

-- a sink in memory, and which of its writes fail
pub record SinkState : Type 0 where
  pub written : List ℕ
  pub plan : FaultPlan

-- files in memory: names with their texts, the newest first, and which reads fail
pub record FilesState : Type 0 where
  pub texts : List (List ℕ × List ℕ)
  pub plan : FaultPlan

-- the newest text under a name
abbrev pub text_under : List (List ℕ × List ℕ) → List ℕ → Option (List ℕ)
text_under [] name = None
text_under (entry ∷ entries) name = if bytes_eq entry.0 name then Some entry.1 else text_under entries name

-- a text, or the empty one where there is none
abbrev pub or_empty : Option (List ℕ) → Option (List ℕ)
or_empty None = Some []
or_empty (Some text) = Some text

-- the readings of a clock, which has at least the one reading 0
abbrev pub at_least_zero : List ℕ → List ℕ
at_least_zero [] = 0 ∷ []
at_least_zero (reading ∷ later) = reading ∷ later

-- a connection in memory, and which of its reads and writes fail
pub record ConnState : Type 0 where
  pub given : List ℕ
  pub left : List ℕ
  pub reads : FaultPlan
  pub written : List ℕ
  pub writes : FaultPlan

-- a connection in memory of which no call fails
pub record SureConnState : Type 0 where
  pub given : List ℕ
  pub left : List ℕ
  pub written : List ℕ

-- the size of the next piece where so many bytes fit: the first size that isn't 0, or all that fits
abbrev pub piece_size : List ℕ → ℕ → ℕ
piece_size [] room = room
piece_size (size ∷ sizes) room = if size == 0 then piece_size sizes room else min size room

-- the sizes after that one
abbrev pub sizes_after : List ℕ → List ℕ
sizes_after [] = []
sizes_after (size ∷ sizes) = if size == 0 then sizes_after sizes else sizes
