-- What a list of declarations comes to from an empty store: the calls that it makes, and its end.
-- A page of a project is this on the prelude, the libraries and the script put together.
use Rattle.std.specs.Prelude.{◌≡◌, ℕ, List, [], ◌∷◌, ◌++◌, map, flat_map, slice_get, Some, codes}
use Rattle.sml_syntax.specs.declared.tree.Dec.{Dec}
use Rattle.sml_syntax.specs.declared.tree.DecForm.TheOpen.{DecForm-F}
use Rattle.sml_evaluation.specs.declared.value.Bound.TheOpen.{Value-F}
use Rattle.web_data.specs.declared.database.WebCall.{WebCall}
use Rattle.web_data.specs.declared.database.WebAns.{WebAns}
use Rattle.sml_syntax.specs.Layers.{DecLayer, form_of_dec}
use Rattle.sml_evaluation.specs.ValueLayers.{ValueLayer, form_of_value}
use Rattle.sml_evaluation.specs.Values.{Env}
use Rattle.sml_evaluation.specs.RunState.{EvalState, Ending, Done, Raised, BadStatement, Over, Waits, state_of}
use Rattle.sml_evaluation.specs.Outcome.{State, Outcome}
use Rattle.sml_syntax.specs.declared.token.Token.{Token}
use Rattle.sml_syntax.specs.declared.tree.Program.{Program}
use Rattle.basis_table.specs.BasisTable.{basis_exceptions}
use Rattle.grammar_rules.specs.Tokens.{HasTokens}
use Rattle.grammar_rules.specs.Programs.{IsProgram}
use Rattle.sml_evaluation.specs.PreludeText.{prelude_text}
use Rattle.sml_evaluation.specs.Evaluation.{eval_decs}

-- the end of a page
pub data PageEnd : Type 0 where
  -- its status, type and body
  Finished : ℕ → List ℕ → List ℕ → PageEnd
  -- a packet that nothing handles, with the exception's name
  Uncaught : List ℕ → PageEnd
  -- a statement outside the grammar, with the length of its longest prefix that begins one
  Refused : ℕ → PageEnd
  -- a call whose answer is wanting or doesn't fit, the last one that is made; or nothing is said of such values
  Waiting : PageEnd
  -- none at any height
  Endless : PageEnd

-- the type of a reply that sets none
abbrev pub html_type : List ℕ
html_type = codes "text/html; charset=utf-8"

-- an empty body, status 200 and the type of HTML, and no references
abbrev pub start_state : List (List ℕ × List ℕ) → List (List ℕ) → List WebAns → EvalState
start_state form databases answers = record {
  form = form;
  databases = databases;
  body = [];
  status = 200;
  content_type = html_type;
  answers = answers;
  calls = [];
}

abbrev pub start : List (List ℕ × List ℕ) → List (List ℕ) → List WebAns → State
start form databases answers = state_of (start_state form databases answers) [] 0

-- the names of the exceptions by their numbers: those of the basis, and those that are declared
abbrev pub declared_exceptions : DecLayer → List (List ℕ)
declared_exceptions (DecForm-F.ExnDef es) = map (λ e. e.0) es
declared_exceptions _ = []

abbrev pub exception_names : List Dec → List (List ℕ)
exception_names decs = map (λ row. row.0) basis_exceptions ++ flat_map (λ d. declared_exceptions (form_of_dec d)) decs

-- a packet of this name
abbrev pub IsPacketOf : List (List ℕ) → List ℕ → ValueLayer → Type 0
IsPacketOf names name (Value-F.Exn number argument) = slice_get names number ≡ Some name
IsPacketOf names name _ = ⊥

-- the outcome is this end, with these calls made, where the exceptions have these names
abbrev pub EndsAs : List (List ℕ) → Outcome Env → List WebCall → PageEnd → Type 0
EndsAs names (Done env s) calls (Finished status content_type body) =
    (s.shared.calls ≡ calls) × (s.shared.status ≡ status) × (s.shared.content_type ≡ content_type) × (s.shared.body ≡ body)
EndsAs names (Raised v s) calls (Uncaught name) = (s.shared.calls ≡ calls) × IsPacketOf names name (form_of_value v)
EndsAs names (BadStatement place s) calls (Refused n) = (s.shared.calls ≡ calls) × (place ≡ n)
EndsAs names (Waits s) calls Waiting = s.shared.calls ≡ calls
EndsAs names _ calls end = ⊥

-- the height ran out
abbrev pub IsOver : {N V H A : Type 0} → Ending N V H A → Type 0
IsOver (Over s) = Unit {0}
IsOver _ = ⊥

-- the declarations come to this end with these calls at some height; or the height runs out at each one, and no calls are told
abbrev pub PageOf : List Dec → List (List ℕ × List ℕ) → List (List ℕ) → List WebAns → List WebCall → PageEnd → Type 0
PageOf decs form databases answers calls Endless = (calls ≡ []) × ((n : ℕ) → IsOver (eval_decs n [] (start form databases answers) decs))
PageOf decs form databases answers calls end = (n : ℕ) × EndsAs (exception_names decs) (eval_decs n [] (start form databases answers) decs) calls end

-- the tree of the prelude
abbrev pub IsPrelude : Program → Type 0
IsPrelude prelude = (tokens : List Token) × HasTokens prelude_text tokens × IsProgram tokens prelude

-- the declarations of a page: the prelude's, the libraries' in their order, and the script's
abbrev pub all_decs : List Program → List Dec
all_decs [] = []
all_decs (program ∷ programs) = program.items ++ all_decs programs

abbrev pub page_decs : Program → List Program → Program → List Dec
page_decs prelude libraries script = prelude.items ++ (all_decs libraries ++ script.items)

-- the page of a project's script with its libraries
abbrev pub ProjectPage : List Program → Program → List (List ℕ × List ℕ) → List (List ℕ) → List WebAns → List WebCall → PageEnd → Type 0
ProjectPage libraries script form databases answers calls end =
    (prelude : Program) × IsPrelude prelude × PageOf (page_decs prelude libraries script) form databases answers calls end
