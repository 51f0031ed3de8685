-- What the parser answers, by what was found.
use Rattle.std.proofs.Common.{◌≡◌, ℕ, List, [], Option, Some, None, Result, Ok, Err, ap, sym, ◌∙◌}
use Rattle.sml_syntax.specs.declared.token.Token.{Token}
use Rattle.sml_syntax.specs.declared.token.Lack.{Lack}
use Rattle.sml_syntax.specs.declared.tree.Dec.{Dec}
use Rattle.sml_syntax.specs.NestedTypes.{Found}
use Rattle.sml_grammar.specs.declared.act.Made.{Made}
use Rattle.sml_grammar.specs.declared.machine.ReadRefusal.{ReadRefusal}
use Rattle.sml_grammar.specs.declared.machine.ReadRefusal.TheVariants as read
use Rattle.sml_grammar.specs.Machine.{Accepts, outcome_of}
use Rattle.sml_grammar.specs.Reads.{Reads}
use Rattle.sml_parse.specs.declared.parser.ParseRefusal.{ParseRefusal}
use Rattle.sml_parse.specs.declared.parser.ParseRefusal.TheVariants as refusal
use Rattle.parse_build.specs.Building.{program_of}
use Rattle.parse_limits.specs.Heights.{first_high}
use Rattle.parse_limits.specs.Lacks.{first_lack}
use Rattle.sml_parse.specs.Parsed.{Answers, refused, by_outcome, by_lack, by_height, parsed}

pub unexpected : (tokens : List Token) (r : ReadRefusal) → Reads (Err r) (outcome_of tokens) → Answers (Err (refused r)) (parsed tokens)
unfolding parsed
unexpected tokens (read.Unexpected place) (left, to, h, k) = ap by_outcome h ∙ ap (λ p. Err (refusal.Unexpected p)) (sym k)
unexpected tokens read.NoMemory h = tt

pub unsupported : (tokens : List Token) (acts : List Made) (found : Found) → outcome_of tokens ≡ Accepts acts → Some found ≡ first_lack acts → parsed tokens ≡ Err (refusal.Unsupported found.0 found.1)
unfolding parsed
unsupported tokens acts found h k = ap by_outcome h ∙ ap (λ o. by_lack o acts) (sym k)

pub too_deep : (tokens : List Token) (acts : List Made) (place : ℕ) → outcome_of tokens ≡ Accepts acts → None ≡ first_lack acts → Some place ≡ first_high acts [] → parsed tokens ≡ Err (refusal.TooDeep place)
unfolding parsed
too_deep tokens acts place h k l = ap by_outcome h ∙ ap (λ o. by_lack o acts) (sym k) ∙ ap (λ o. by_height o acts) (sym l)

pub built : (tokens : List Token) (acts : List Made) (items : List Dec) → outcome_of tokens ≡ Accepts acts → None ≡ first_lack acts → None ≡ first_high acts [] → items ≡ program_of acts → parsed tokens ≡ Ok (record { items = items })
unfolding parsed
built tokens acts items h k l e = ap by_outcome h ∙ ap (λ o. by_lack o acts) (sym k) ∙ ap (λ o. by_height o acts) (sym l) ∙ ap (λ ds. Ok (record { items = ds })) (sym e)
