-- What the parser answers: the machine's outcome, then the first lack, then the heights, then the tree.
use Rattle.std.specs.Prelude.{◌≡◌, ◌⊎◌, ℕ, List, [], Option, Some, None, Result, Ok, Err}
use Rattle.sml_syntax.specs.declared.token.Token.{Token}
use Rattle.sml_syntax.specs.declared.token.Lack.{Lack}
use Rattle.sml_syntax.specs.declared.tree.Program.{Program}
use Rattle.sml_grammar.specs.declared.act.Made.{Made}
use Rattle.sml_grammar.specs.Machine.{Outcome, Accepts, Stops, outcome_of, place_of}
use Rattle.sml_grammar.specs.declared.machine.ReadRefusal.{ReadRefusal}
use Rattle.sml_grammar.specs.declared.machine.ReadRefusal.TheVariants as read
use Rattle.sml_parse.specs.declared.parser.ParseRefusal.{ParseRefusal}
use Rattle.sml_parse.specs.declared.parser.ParseRefusal.TheVariants as refusal
use Rattle.parse_build.specs.Building.{program_of}
use Rattle.parse_limits.specs.Heights.{first_high}
use Rattle.parse_limits.specs.Lacks.{first_lack}
use Rattle.sml_syntax.specs.NestedTypes.{Found}

abbrev pub by_height : Option ℕ → List Made → Result Program ParseRefusal
by_height None acts = Ok (record { items = program_of acts })
by_height (Some place) acts = Err (refusal.TooDeep place)

abbrev pub by_lack : Option Found → List Made → Result Program ParseRefusal
by_lack None acts = by_height (first_high acts []) acts
by_lack (Some found) acts = Err (refusal.Unsupported found.0 found.1)

abbrev pub by_outcome : Outcome → Result Program ParseRefusal
by_outcome (Accepts acts) = by_lack (first_lack acts) acts
by_outcome (Stops left to) = Err (refusal.Unexpected (place_of left to))

-- the tree of tokens, or why there is none
unfoldable pub parsed : List Token → Result Program ParseRefusal
parsed tokens = by_outcome (outcome_of tokens)

-- the machine's refusal as the parser's
abbrev pub refused : ReadRefusal → ParseRefusal
refused (read.Unexpected place) = refusal.Unexpected place
refused read.NoMemory = refusal.NoMemory

-- a result is the answer, or memory ran out
abbrev pub Answers : Result Program ParseRefusal → Result Program ParseRefusal → Type 0
Answers (Ok program) answer = answer ≡ Ok program
Answers (Err refusal.NoMemory) answer = Unit {0}
Answers (Err (refusal.Unexpected place)) answer = answer ≡ Err (refusal.Unexpected place)
Answers (Err (refusal.Unsupported place lack)) answer = answer ≡ Err (refusal.Unsupported place lack)
Answers (Err (refusal.TooDeep place)) answer = answer ≡ Err (refusal.TooDeep place)
