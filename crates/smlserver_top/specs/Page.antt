-- The answers of the commands: of `page` by the scripts of a project, and of both where a project isn't loaded.
use Rattle.std.specs.Prelude.{◌≡◌, ◌⊎◌, ℕ, Bool, true, false, List, [], ◌∷◌, ◌++◌, drop, map, Option, Some, None, if◌then◌else◌, codes}
use Rattle.std.specs.Str.{bytes_eq}
use Rattle.outside_world.specs.Told.{Contents}
use Rattle.sml_syntax.specs.declared.tree.Dec.{Dec}
use Rattle.sml_evaluation.specs.Page.{PageOf, Finished, html_type}
use Rattle.script_loader.specs.declared.refusal.LoadRefusal.{LoadRefusal}
use Rattle.script_loader.specs.declared.refusal.LoadRefusal.TheVariants as refusal
use Rattle.script_loader.specs.Seen.{Trees, Script}
use Rattle.script_loader.specs.declared.front.LoadedFront.{LoadedFront}
use Rattle.script_loader.specs.declared.front.FrontScript.{FrontScript}
use Rattle.script_loader.specs.Scripts.{scripts_of}
use Rattle.script_loader.specs.Front.{HasFront, FrontCause, TypeCause, IsIllIn}
use Rattle.smlserver_top.specs.declared.part.Part.{Part}
use Rattle.smlserver_top.specs.Databases.{same_names}
use Rattle.smlserver_top.specs.Straight.{IsStraight}
use Rattle.smlserver_top.specs.Refusal.{line_of, not_built_line}

-- a script with its program, without its types
abbrev pub program_of : FrontScript → Script
program_of script = record { path = script.path; file = script.file; program = script.typed.program; prelude = script.prelude; before = script.before }

abbrev pub programs_of : LoadedFront → List Script
programs_of front = map program_of front.scripts

-- the script under a path
abbrev pub script_at : List ℕ → List Script → Option Script
script_at path [] = None
script_at path (script ∷ scripts) = if bytes_eq script.path path then Some script else script_at path scripts

-- the declarations of a script's own file
abbrev pub own_items : Script → List Dec
own_items script = drop script.before script.program.items

-- No library declares anything before the script, and its own declarations are of the form that is run. Evaluating them from
-- an empty store, without a form, databases or answers, makes no call and ends with this body.
pub record HasBody (script : Script) (body : List ℕ) : Type 0 where
  pub alone : script.before ≡ script.prelude
  pub parts : List Part
  pub form : IsStraight (own_items script) parts
  pub evaluated : PageOf (own_items script) [] [] [] [] (Finished 200 html_type body)

-- libraries declare something before the script, or it isn't of the form that is run
abbrev pub HasNoParts : Script → Type 0
HasNoParts script = script.before ≡ script.prelude → (parts : List Part) → IsStraight (own_items script) parts → ⊥

-- the body of the server's answer to a path without a script
abbrev pub no_script_body : List ℕ
no_script_body = codes "404 no script"

-- what `page` answers, by the script under its path: a status and a text
abbrev pub IsScriptAnswer : Option Script → ℕ → List ℕ → Type 0
IsScriptAnswer None status text = (status ≡ 1) × (text ≡ no_script_body)
IsScriptAnswer (Some script) status text = ((status ≡ 0) × HasBody script text) ⊎ ((status ≡ 3) × HasNoParts script × (text ≡ not_built_line script.file))

abbrev pub IsPathAnswer : List ℕ → List Script → ℕ → List ℕ → Type 0
IsPathAnswer path scripts status text = IsScriptAnswer (script_at path scripts) status text

-- a refusal, and no other
abbrev pub IsTheLine : LoadRefusal → ℕ → List ℕ → Type 0
IsTheLine e status text = (status ≡ 3) × (line_of e ≡ Some text)

-- the line of a refusal with a cause
abbrev pub IsLineOf : (LoadRefusal → Type 0) → List ℕ → Type 0
IsLineOf Cause line = (e : LoadRefusal) × Cause e × (line_of e ≡ Some line)

-- the line of a script that isn't typed, and of one with an item without a typing
abbrev pub IsTypeLine : Trees → List ℕ → Type 0
IsTypeLine trees line = IsLineOf (TypeCause trees) line

abbrev pub IsIllLine : Trees → List ℕ → Type 0
IsIllLine trees line = IsLineOf (IsIllIn trees) line

-- the line that a project isn't loaded
abbrev pub IsRefusedBy : Contents → ℕ → ℕ → List ℕ → List ℕ → Type 0
IsRefusedBy contents before after project line = IsLineOf (FrontCause contents before after project) line

-- what `page` answers of a project that is loaded, by whether the databases that are given are those that it names
abbrev pub IsLoadedAnswer : Bool → List ℕ → List ℕ → List Script → ℕ → List ℕ → Type 0
IsLoadedAnswer false project path scripts status text = IsTheLine (refusal.DatabaseNames project 0) status text
IsLoadedAnswer true project path scripts status text = IsPathAnswer path scripts status text

-- what `page` answers of a project and a path where databases of these names are given
abbrev pub IsPageAnswer : Contents → ℕ → ℕ → List (List ℕ) → List ℕ → List ℕ → ℕ → List ℕ → Type 0
IsPageAnswer contents before after given project path status text =
    ((front : LoadedFront) × HasFront contents project front × IsLoadedAnswer (same_names given front.project.databases) project path (programs_of front) status text)
    ⊎ ((status ≡ 3) × IsRefusedBy contents before after project text)

-- the line of a project without a mistake
abbrev pub ok_line : List ℕ
ok_line = codes "ok" ++ 10 ∷ []

-- the project is loaded
abbrev pub IsLoaded : Contents → List ℕ → Type 0
IsLoaded contents project = (front : LoadedFront) × HasFront contents project front

-- what `check` answers of a project
abbrev pub IsCheckAnswer : Contents → ℕ → ℕ → List ℕ → ℕ → List ℕ → Type 0
IsCheckAnswer contents before after project status text =
    ((status ≡ 0) × IsLoaded contents project × (text ≡ ok_line)) ⊎ ((status ≡ 3) × IsRefusedBy contents before after project text)

-- what they answer where the project has these trees
abbrev pub IsPageOfTrees : List (List ℕ) → Trees → List ℕ → List ℕ → ℕ → List ℕ → Type 0
IsPageOfTrees given trees project path status text =
    IsLoadedAnswer (same_names given trees.project.databases) project path (scripts_of trees) status text ⊎ ((status ≡ 3) × IsTypeLine trees text)

abbrev pub IsCheckOfTrees : Trees → ℕ → List ℕ → Type 0
IsCheckOfTrees trees status text = ((status ≡ 0) × (text ≡ ok_line)) ⊎ ((status ≡ 3) × IsTypeLine trees text)

-- what they answer where a name of the scripts has no binding: that, or an item of an earlier script without a typing
abbrev pub IsUnboundAnswer : Trees → LoadRefusal → ℕ → List ℕ → Type 0
IsUnboundAnswer trees e status text = (status ≡ 3) × ((line_of e ≡ Some text) ⊎ IsIllLine trees text)
