-- The refusals of the steps as those of a load: the file that each names, and its place.
use Rattle.std.specs.Prelude.{◌≡◌, ◌⊎◌, ℕ, ◌-◌, List, Option, Some, None}
use Rattle.grammar_rules.specs.Spelling as spell
use Rattle.grammar_rules.specs.Spelling.{Refusal}
use Rattle.sml_parse.specs.declared.parser.ParseRefusal.{ParseRefusal}
use Rattle.sml_parse.specs.declared.parser.ParseRefusal.TheVariants as parse
use Rattle.project_lines.specs.declared.project.LineFault.{LineFault}
use Rattle.project_lines.specs.declared.project.LineFault.TheVariants as fault
use Rattle.project_lines.specs.declared.project.ProjectRefusal.{ProjectRefusal}
use Rattle.project_lines.specs.declared.project.ProjectRefusal.TheVariants as project
use Rattle.script_loader.specs.declared.refusal.LoadRefusal.{LoadRefusal}
use Rattle.script_loader.specs.declared.refusal.LoadRefusal.TheVariants as refusal

-- this refusal, or want of memory
abbrev pub Tells : LoadRefusal → LoadRefusal → Type 0
Tells e cause = (e ≡ cause) ⊎ (e ≡ refusal.NoMemory)

-- a refusal that has a cause, or want of memory
abbrev pub IsTold : (LoadRefusal → Type 0) → LoadRefusal → Type 0
IsTold Cause e = Cause e ⊎ (e ≡ refusal.NoMemory)

-- the refusal of a line of the project file
abbrev pub fault_refusal : List ℕ → ℕ → LineFault → LoadRefusal
fault_refusal file number fault.ProjectLine = refusal.ProjectLine file number
fault_refusal file number fault.TwoPaths = refusal.TwoPaths file number

abbrev pub line_refusal : List ℕ → ProjectRefusal → LoadRefusal
line_refusal file (project.Line number f) = fault_refusal file number f
line_refusal file project.NoMemory = refusal.NoMemory

-- the lexical refusal of a file
abbrev pub lexical : List ℕ → Refusal → LoadRefusal
lexical file (spell.BadByte n) = refusal.BadByte file n
lexical file (spell.OpenComment n) = refusal.OpenComment file n
lexical file (spell.OpenString n) = refusal.OpenString file n
lexical file (spell.OpenQuote n) = refusal.OpenQuote file n
lexical file (spell.WideNumber n) = refusal.WideNumber file n
lexical file (spell.Unsupported n lack) = refusal.Unsupported file n lack

abbrev pub lexical_answer : List ℕ → Option Refusal → LoadRefusal
lexical_answer file (Some r) = lexical file r
lexical_answer file None = refusal.NoMemory

-- the parser's refusal of a file whose text starts here in the whole, with its place in the file
abbrev pub grammatical : List ℕ → ℕ → ParseRefusal → LoadRefusal
grammatical file start (parse.Unexpected n) = refusal.Unexpected file (n - start)
grammatical file start (parse.Unsupported n lack) = refusal.Unsupported file (n - start) lack
grammatical file start (parse.TooDeep n) = refusal.TooDeep file (n - start)
grammatical file start parse.NoMemory = refusal.NoMemory
