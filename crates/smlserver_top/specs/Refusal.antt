-- The lines that tell why a project isn't loaded.
use Rattle.std.specs.Prelude.{ℕ, List, Option, Some, None, codes}
use Rattle.std.specs.Option.{option_map}
use Rattle.sml_syntax.specs.declared.token.Lack.{Lack}
use Rattle.sml_syntax.specs.declared.token.Lack.TheVariants as lack
use Rattle.script_loader.specs.declared.refusal.LoadRefusal.{LoadRefusal}
use Rattle.script_loader.specs.declared.refusal.LoadRefusal.TheVariants as refusal
use Rattle.smlserver_top.specs.RefusedLine.{refused_line, full_name}

-- the names
abbrev pub lack_name : Lack → List ℕ
lack_name lack.Module = codes "Module"
lack_name lack.Records = codes "Records"
lack_name lack.Layered = codes "Layered"
lack_name lack.Abstype = codes "Abstype"
lack_name lack.Fixity = codes "Fixity"
lack_name lack.While = codes "While"
lack_name lack.Reals = codes "Reals"
lack_name lack.Words = codes "Words"
lack_name lack.Hexadecimal = codes "Hexadecimal"
lack_name lack.Escape = codes "Escape"
lack_name lack.LocalType = codes "LocalType"
lack_name lack.Replication = codes "Replication"
lack_name lack.ConstraintVar = codes "ConstraintVar"
lack_name lack.NestedType = codes "NestedType"
lack_name lack.InfixClause = codes "InfixClause"

-- a file, a place, a name and a lack
abbrev pub Named : Type 0
Named = List ℕ × ℕ × List ℕ × Option Lack

abbrev pub without_lack : List ℕ → ℕ → List ℕ → Option Named
without_lack file place name = Some (file, place, name, None)

-- what a refusal names. Want of memory names nothing.
abbrev pub named_of : LoadRefusal → Option Named
named_of (refusal.ProjectLine file place) = Some (file, place, codes "ProjectLine", None)
named_of (refusal.TwoPaths file place) = Some (file, place, codes "TwoPaths", None)
named_of (refusal.DatabaseNames file place) = Some (file, place, codes "DatabaseNames", None)
named_of (refusal.TooLarge file place) = Some (file, place, codes "TooLarge", None)
named_of (refusal.FileFault file place) = Some (file, place, codes "FileFault", None)
named_of (refusal.BadByte file place) = Some (file, place, codes "BadByte", None)
named_of (refusal.OpenComment file place) = Some (file, place, codes "OpenComment", None)
named_of (refusal.OpenString file place) = Some (file, place, codes "OpenString", None)
named_of (refusal.OpenQuote file place) = Some (file, place, codes "OpenQuote", None)
named_of (refusal.WideNumber file place) = Some (file, place, codes "WideNumber", None)
named_of (refusal.Unsupported file place l) = Some (file, place, codes "Unsupported", Some l)
named_of (refusal.Unexpected file place) = Some (file, place, codes "Unexpected", None)
named_of (refusal.TooDeep file place) = Some (file, place, codes "TooDeep", None)
named_of (refusal.Unbound file place) = Some (file, place, codes "Unbound", None)
named_of (refusal.Ill file place) = Some (file, place, codes "Ill", None)
named_of (refusal.InstanceLimit file place) = Some (file, place, codes "InstanceLimit", None)
named_of (refusal.CodeFull file place) = Some (file, place, codes "CodeFull", None)
named_of refusal.NoMemory = None

abbrev pub line_of_named : Named → List ℕ
line_of_named n = refused_line n.0 n.1 (full_name n.2 (option_map lack_name n.3))

-- the line of a refusal
abbrev pub line_of : LoadRefusal → Option (List ℕ)
line_of e = option_map line_of_named (named_of e)

-- the line of a script that loads and isn't of the form that is run
abbrev pub not_built_line : List ℕ → List ℕ
not_built_line file = refused_line file 0 (codes "NotBuilt")
