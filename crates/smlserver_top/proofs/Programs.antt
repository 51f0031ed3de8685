-- The scripts of a front, without their types, are those of the project's trees.
use Rattle.std.proofs.Common.{◌≡◌, ℕ, Bool, true, false, cond, List, [], ◌∷◌, map, Some, refl}
use Rattle.std.specs.Option.{option_map}
use Rattle.std.specs.Str.{bytes_eq}
use Rattle.script_loader.specs.Seen.{Trees, Script}
use Rattle.script_loader.specs.declared.front.LoadedFront.{LoadedFront}
use Rattle.script_loader.specs.declared.front.FrontScript.{FrontScript}
use Rattle.script_loader.specs.Lists.{Each, none, one}
use Rattle.script_loader.specs.Scripts.{scripts_of}
use Rattle.script_loader.specs.Front.{IsTyped, IsFrontOf}
use Rattle.smlserver_top.specs.Script.{script_in}
use Rattle.smlserver_top.specs.Page.{program_of, programs_of, script_at}

same_program : (script : Script) (typed : FrontScript) → IsTyped script typed → program_of typed ≡ script
same_program script typed t = rw (t.path_is, t.file_is, t.program_is, t.prelude_is, t.before_is) refl

same_programs : (scripts : List Script) (typed : List FrontScript) → Each IsTyped scripts typed → map program_of typed ≡ scripts
same_programs scripts typed none = refl
same_programs (script ∷ scripts) (t ∷ typed) (one is rest) = rw (same_program script t is, same_programs scripts typed rest) refl

pub front_programs : (trees : Trees) (front : LoadedFront) → IsFrontOf trees front → programs_of front ≡ scripts_of trees
front_programs trees front is = same_programs (scripts_of trees) front.scripts is.scripts

-- which of them is found
found_step : (b : Bool) (script : FrontScript) (path : List ℕ) (scripts : List FrontScript) → script_at path (map program_of scripts) ≡ option_map program_of (script_in path scripts) → cond b (Some (program_of script)) (script_at path (map program_of scripts)) ≡ option_map program_of (cond b (Some script) (script_in path scripts))
found_step true script path scripts same = refl
found_step false script path scripts same = same

pub found_at : (path : List ℕ) (scripts : List FrontScript) → script_at path (map program_of scripts) ≡ option_map program_of (script_in path scripts)
found_at path [] = refl
found_at path (script ∷ scripts) = found_step (bytes_eq script.path path) script path scripts (found_at path scripts)
