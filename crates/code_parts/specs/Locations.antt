-- Where words lie while code runs, and the instructions that push them. Of this project.
use Rattle.std.specs.Prelude.{ℕ, zero, suc, pos, Bool, true, false, List, [], ◌∷◌}
use Rattle.kam_code.specs.declared.instr.Instr.{Instr}
use Rattle.kam_code.specs.declared.instr.Instr.TheVariants as i
use Rattle.code_parts.specs.declared.location.Location.{Location}
use Rattle.code_parts.specs.declared.location.Location.TheVariants as at
use Rattle.code_parts.specs.declared.location.Path.{Path}
use Rattle.code_parts.specs.declared.location.Path.TheVariants as path
use Rattle.code_parts.specs.declared.location.Seen.{Seen}

-- the instruction that pushes the word
abbrev pub load : Location → Instr
load (at.Frame k) = i.Local k
load (at.Closure k) = i.Env k
load at.Running = i.SelfPointer
load at.Global = i.Const (pos 1)
load at.Nowhere = i.Const (pos 0)

-- the fields on the way to a part
abbrev pub fields : Path → List Instr
fields path.Here = []
fields (path.Field k) = i.Field k ∷ []
fields (path.Fields k m) = i.Field k ∷ i.Field m ∷ []

-- a part is read
abbrev pub access : Seen → List Instr
access seen = load seen.location ∷ fields seen.path

-- so many words below the top one are dropped
abbrev pub slide : ℕ → List Instr
slide zero = []
slide (suc n) = i.Slide (suc n) ∷ []

-- in a tail position the word is returned
abbrev pub returned : Bool → List Instr
returned true = i.Return ∷ []
returned false = []

-- a jump that goes to an address
abbrev pub aimed : Instr → ℕ → Instr
aimed (i.Jump b) a = i.Jump a
aimed (i.JumpIf b) a = i.JumpIf a
aimed (i.JumpNot b k) a = i.JumpNot a k
aimed (i.Handler b) a = i.Handler a
aimed j a = j

-- the word at a location, and the part in a field of a part
abbrev pub seen_at : Location → Seen
seen_at l = record { location = l; path = path.Here }

abbrev pub deeper : Path → ℕ → Path
deeper path.Here k = path.Field k
deeper (path.Field j) k = path.Fields j k
deeper (path.Fields j m) k = path.Fields j m

abbrev pub part : Seen → ℕ → Seen
part seen k = record { location = seen.location; path = deeper seen.path k }

-- it is the value itself, and it lies two fields deep
abbrev pub is_whole : Path → Bool
is_whole path.Here = true
is_whole _ = false

abbrev pub is_deep : Path → Bool
is_deep (path.Fields j m) = true
is_deep _ = false
