-- The script under a path, among scripts with their types.
use Rattle.std.specs.Prelude.{ℕ, List, [], ◌∷◌, Option, Some, None, if◌then◌else◌}
use Rattle.std.specs.Str.{bytes_eq}
use Rattle.script_loader.specs.declared.front.FrontScript.{FrontScript}

abbrev pub script_in : List ℕ → List FrontScript → Option FrontScript
script_in path [] = None
script_in path (script ∷ scripts) = if bytes_eq script.path path then Some script else script_in path scripts
