-- Places in a script's program: its texts stand one behind another, the prelude's first, then the libraries' in their
-- order, then the script's. Each of them starts where the one before ends, so each script behind all libraries.
use Rattle.std.specs.Prelude.{ℕ, ◌+◌, ◌-◌, List, [], ◌∷◌, map, length, nat_lt, if◌then◌else◌}
use Rattle.project_lines.specs.declared.project.ProjectFile.{ProjectFile}
use Rattle.project_lines.specs.declared.project.ProjectFile.TheVariants as file
use Rattle.sml_syntax.specs.declared.token.Token.{Token}
use Rattle.sml_evaluation.specs.PreludeText.{prelude_text}
use Rattle.script_loader.specs.declared.source.Source.{Source}
use Rattle.script_loader.specs.declared.placed.Placed.{Placed}
use Rattle.script_loader.specs.Sources.{bytes_of}

-- those of the list that go with libraries
abbrev pub of_libraries : {A : Type 0} → List ProjectFile → List A → List A
of_libraries (file.Library name ∷ files) (x ∷ xs) = x ∷ of_libraries files xs
of_libraries (file.Script path name ∷ files) (x ∷ xs) = of_libraries files xs
of_libraries _ _ = []

-- texts with their starts: that of the next library, and that of each script
abbrev pub placed_from : ℕ → ℕ → List ProjectFile → List Source → List Placed
placed_from library script (file.Library name ∷ files) (s ∷ sources) =
    record { name = s.name; text = s.text; start = library } ∷ placed_from (library + length s.text) script files sources
placed_from library script (file.Script path name ∷ files) (s ∷ sources) =
    record { name = s.name; text = s.text; start = script } ∷ placed_from library script files sources
placed_from library script _ _ = []

-- the prelude as a file, which has no name
unfoldable pub prelude_source : Placed
prelude_source = record { name = []; text = prelude_text; start = 0 }

-- the texts of a project's files with their starts
abbrev pub placed : List ProjectFile → List Source → List Placed
placed files sources = placed_from (length prelude_source.text) (length prelude_source.text + bytes_of (of_libraries files sources)) files sources

-- tokens of a text that starts here, at their places in the whole
abbrev pub moved_token : ℕ → Token → Token
moved_token start t = record { span = record { from = start + t.span.from; to = start + t.span.to }; form = t.form }

abbrev pub moved : ℕ → List Token → List Token
moved start tokens = map (moved_token start) tokens

-- The file that holds a place of a whole, and the place in that file: the first text that the place stands in, or else the
-- last file, which stands behind these texts.
abbrev pub place_in : List Placed → List ℕ → ℕ → List ℕ × ℕ
place_in [] last place = (last, place)
place_in (s ∷ texts) last place = if nat_lt place (length s.text) then (s.name, place) else place_in texts last (place - length s.text)
