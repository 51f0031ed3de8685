-- A script whose program isn't typed, whatever stands in others.
use Rattle.std.specs.Prelude.{◌≡◌, ℕ, List}
use Rattle.typing_rules.specs.Scope.{AllBound, IsFirstUnbound}
use Rattle.hm_infer.specs.Numbering.{IsItemPlace}
use Rattle.hm_infer.specs.declared.refusal.TypeRefusal.{TypeRefusal}
use Rattle.hm_infer.specs.declared.refusal.TypeRefusal.TheVariants as types
use Rattle.script_loader.specs.declared.placed.Placed.{Placed}
use Rattle.script_loader.specs.declared.refusal.LoadRefusal.{LoadRefusal}
use Rattle.script_loader.specs.declared.refusal.LoadRefusal.TheVariants as refusal
use Rattle.script_loader.specs.declared.scripts.ScriptProgram.{ScriptProgram}
use Rattle.script_loader.specs.Front.{unbound_at, ill_at}
use Rattle.script_loader.specs.Places.{place_in}

-- its first name without a binding, or an item without a typing
pub data IsUntyped (texts : List Placed) (script : ScriptProgram) (e : LoadRefusal) : Type 0 where
  is_unbound : (place : ℕ) → IsFirstUnbound script.program place → e ≡ unbound_at texts script place → IsUntyped texts script e
  is_ill : (place : ℕ) → AllBound script.program → IsItemPlace script.program place → e ≡ ill_at texts script place → IsUntyped texts script e

-- a refusal of types in a file, at a place there
abbrev pub typing_at : List ℕ → ℕ → TypeRefusal → LoadRefusal
typing_at file place (types.Unbound n) = refusal.Unbound file place
typing_at file place (types.Ill n) = refusal.Ill file place
typing_at file place types.NoMemory = refusal.NoMemory

-- a refusal of types at a place of the whole, in the file that holds it
abbrev pub typing : List Placed → List ℕ → TypeRefusal → LoadRefusal
typing texts last (types.Unbound n) = typing_at (place_in texts last n).0 (place_in texts last n).1 (types.Unbound n)
typing texts last (types.Ill n) = typing_at (place_in texts last n).0 (place_in texts last n).1 (types.Ill n)
typing texts last types.NoMemory = refusal.NoMemory
