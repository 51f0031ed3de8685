-- How the code reads a statement: each of its parts as a run of what is left of the parts says.
use Rattle.std.specs.Prelude.{◌≡◌, ℕ, ◌≤◌, List, ◌∷◌, length, drop, ◌==◌, ◌&&◌, nat_lt, Bool, slice_index}
use Rattle.web_data.specs.Statements.{small}
use Rattle.web_data.specs.StatementReading.{Left, Spaces, Gap, Word, Name, Quoted, Stops, run}
use Rattle.db_text.specs.declared.parts.Part.{Part}
use Rattle.db_text.specs.declared.parts.Part.TheVariants as part
use Rattle.db_text.specs.declared.parts.End.{End}
use Rattle.db_text.specs.declared.parts.End.TheVariants as ends

-- a part that the code reads
abbrev pub left_of : Part → Left
left_of part.Spaces = Spaces
left_of part.Gap = Gap
left_of (part.Word w) = Word w.now
left_of part.Name = Name
left_of part.Quoted = Quoted

-- the part at a place was read up to its end, with the texts behind it, or stops
abbrev pub ReadsPart : List (List ℕ) → Left → List ℕ → ℕ → End → List (List ℕ) → Type 0
ReadsPart texts p bytes at (ends.At to) texts' =
    (to ≤ length bytes) × ((ps : List Left) → run texts (p ∷ ps) (drop at bytes) at ≡ run texts' ps (drop to bytes) to)
ReadsPart texts p bytes at (ends.Stops place) texts' = (ps : List Left) → run texts (p ∷ ps) (drop at bytes) at ≡ Stops place

abbrev pub is_quote : ℕ → Bool
is_quote b = b == 39

-- the byte is this one, if it is made small
abbrev pub is_small : ℕ → ℕ → Bool
is_small c b = small b == c

-- a byte that passes a test stands at a place
abbrev pub stands_at : (ℕ → Bool) → List ℕ → ℕ → Bool
stands_at test bytes at = nat_lt at (length bytes) && test (slice_index bytes at)
