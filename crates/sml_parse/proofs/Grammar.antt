-- The parser's answer, in the terms of the grammar.
use Rattle.std.proofs.Common.{◌≡◌, ◌≤◌, ◌<◌, ◌⊎◌, inl, inr, ℕ, List, length, Result, Ok, Err, refl, ap, sym, ◌∙◌, subst, arith}
use Rattle.sml_syntax.specs.declared.token.Token.{Token}
use Rattle.sml_syntax.specs.declared.tree.Program.{Program}
use Rattle.sml_parse.specs.declared.parser.ParseRefusal.{ParseRefusal}
use Rattle.sml_parse.specs.declared.parser.ParseRefusal.TheVariants as refusal
use Rattle.sml_parse.specs.Parsed.{Answers, by_outcome, parsed}
use Rattle.sml_parse.specs.Parses.{Parses, IsAnswer, Gives}
use Rattle.grammar_sound.specs.Exact.{exact_outcome}
use Rattle.grammar_sound.proofs.Sound.{same_outcome}
use Rattle.sml_parse.proofs.Meaning.{means, answered}

fits : (n : ℕ) → n < 18446744073709551616 → n ≤ 18446744073709551615
fits n h = omega arith

exactly : (tokens : List Token) → length tokens < 18446744073709551616 → parsed tokens ≡ by_outcome (exact_outcome tokens)
unfolding parsed
exactly tokens l = ap by_outcome (same_outcome tokens (fits (length tokens) l))

pub meets : (tokens : List Token) (answer : Result Program ParseRefusal) → length tokens < 18446744073709551616 → Answers answer (parsed tokens) → IsAnswer tokens answer
meets tokens answer l h = go answer h (λ a e. subst (Parses tokens) (sym (exactly tokens l) ∙ e) (means tokens))
  where
    go : (answer : Result Program ParseRefusal) → Answers answer (parsed tokens) → ((a : Result Program ParseRefusal) → parsed tokens ≡ a → Parses tokens a) → IsAnswer tokens answer
    go (Ok program) h f = f (Ok program) h
    go (Err (refusal.Unexpected place)) h f = f (Err (refusal.Unexpected place)) h
    go (Err (refusal.Unsupported place lack)) h f = f (Err (refusal.Unsupported place lack)) h
    go (Err (refusal.TooDeep place)) h f = f (Err (refusal.TooDeep place)) h
    go (Err refusal.NoMemory) h f = tt

pub gives : (tokens : List Token) (given answer : Result Program ParseRefusal) → length tokens < 18446744073709551616 → Answers given (parsed tokens) → Parses tokens answer → Gives given answer
gives tokens given answer l h p = go given h (exactly tokens l ∙ answered tokens answer p)
  where
    go : (given : Result Program ParseRefusal) → Answers given (parsed tokens) → parsed tokens ≡ answer → Gives given answer
    go (Ok program) h e = inl (sym h ∙ e)
    go (Err (refusal.Unexpected place)) h e = inl (sym h ∙ e)
    go (Err (refusal.Unsupported place lack)) h e = inl (sym h ∙ e)
    go (Err (refusal.TooDeep place)) h e = inl (sym h ∙ e)
    go (Err refusal.NoMemory) h e = inr refl
