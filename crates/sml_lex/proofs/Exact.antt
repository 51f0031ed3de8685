-- The answers of the lexer come wherever they may: there is one of them.
use Rattle.std.proofs.Common.{◌≡◌, ◌⊎◌, inl, inr, ℕ, List, Option, Some, None, Result, Ok, Err, IfOk, IfErr, refl, ap, sym, Global, Vec}
use Rattle.sml_syntax.specs.declared.token.Token.{Token}
use Rattle.grammar_rules.specs.Spelling.{Refusal}
use Rattle.grammar_rules.specs.Tokens.{HasTokens, IsRefused}
use Rattle.sml_lex.specs.declared.refusal.LexRefusal.{LexRefusal}
use Rattle.sml_lex.specs.Lexed.{refusal_of, IfRefused, GivesTokens, GivesRefusal}
use Rattle.sml_lex.proofs.Unique.{one-partition, one-refusal, not-both}

module _ (bs : List ℕ) where
  no_refusal : (ts : List Token) (o : Option Refusal) → HasTokens bs ts → IfRefused o (IsRefused bs) → o ≡ None
  no_refusal ts None d h = refl
  no_refusal ts (Some r) d h = absurd (not-both d h)

  pub gives_tokens : (x : Result (Vec Token Global) LexRefusal) → IfOk x (λ ts. HasTokens bs ts.items) → IfErr x (λ e. IfRefused (refusal_of e) (IsRefused bs)) → (ts : List Token) → HasTokens bs ts → GivesTokens x ts
  gives_tokens (Ok v) g h ts d = one-partition g d
  gives_tokens (Err e) g h ts d = no_refusal ts (refusal_of e) d h

  this_refusal : (r : Refusal) (o : Option Refusal) → IsRefused bs r → IfRefused o (IsRefused bs) → (o ≡ Some r) ⊎ (o ≡ None)
  this_refusal r None d h = inr refl
  this_refusal r (Some q) d h = inl (ap Some (one-refusal h d))

  pub gives_refusal : (x : Result (Vec Token Global) LexRefusal) → IfOk x (λ ts. HasTokens bs ts.items) → IfErr x (λ e. IfRefused (refusal_of e) (IsRefused bs)) → (r : Refusal) → IsRefused bs r → GivesRefusal x r
  gives_refusal (Ok v) g h r d = not-both g d
  gives_refusal (Err e) g h r d = this_refusal r (refusal_of e) d h
