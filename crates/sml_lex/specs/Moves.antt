-- What the lexer takes at a time.
use Rattle.std.specs.Prelude.{◌≡◌, ℕ, suc, ◌+◌, ◌<◌, ◌≤◌, List, [], ◌∷◌, ◌++◌, length, drop, Bool, true, false, ◌&&◌, ◌||◌, not, ◌==◌}
use Rattle.sml_syntax.specs.declared.token.Token.{Token}
use Rattle.sml_syntax.specs.declared.token.TokenForm.{TokenForm}
use Rattle.sml_syntax.specs.declared.token.TokenForm.TheVariants as form
use Rattle.grammar_rules.specs.Spelling.{Refusal, is, quoted}
use Rattle.sml_syntax.specs.ByteClasses.{is_letter}
use Rattle.grammar_rules.specs.Tokens.{Mode, Lexes, Refuses, token, behind_token}
use Rattle.sml_lex.specs.Ends.{Ends}

-- what stands behind the place `to` stands from `at` on too, with the tokens between
pub record Moves (bytes : List ℕ) (at : ℕ) (mode : Mode) (tokens : List Token) (to : ℕ) (mode' : Mode) (tokens' : List Token) : Type 0 where
  pub onward : at < to
  pub within : to ≤ length bytes
  pub whole : (ts : List Token) → Lexes mode' to (drop to bytes) ts → (us : List Token) × Lexes mode at (drop at bytes) us × (tokens ++ us ≡ tokens' ++ ts)
  pub refused : (r : Refusal) → Refuses mode' to (drop to bytes) r → Refuses mode at (drop at bytes) r

-- bytes of text, by what follows

abbrev pub begins_antiquotation : List ℕ → Bool
begins_antiquotation [] = false
begins_antiquotation (b ∷ bs) = b == 40 || is_letter b

abbrev pub is_text : ℕ → List ℕ → Bool
is_text b bs = not (b == 96) && (not (b == 94) || not (begins_antiquotation bs))

-- a run of text from a place to the next byte outside it
pub data TextTo : ℕ → List ℕ → ℕ → Type 0 where
  text_none : {n : ℕ} → TextTo n [] n
  text_stop : {n : ℕ} {b : ℕ} {bs : List ℕ} → is_text b bs ≡ false → TextTo n (b ∷ bs) n
  text_more : {n m : ℕ} {b : ℕ} {bs : List ℕ} → is_text b bs ≡ true → TextTo (suc n) bs m → TextTo n (b ∷ bs) m

-- a form that is no text
abbrev pub ends_text : TokenForm → Bool
ends_text form.QuoteTo = true
ends_text form.AntiFrom = true
ends_text (form.Anti name) = true
ends_text _ = false

-- the token that ends a run of text, up to its end
pub record IsStop (bytes : List ℕ) (at : ℕ) (f : TokenForm) (to : ℕ) : Type 0 where
  pub ends : Ends quoted at (drop at bytes) (is f) to
  pub stops : ends_text f ≡ true

-- the token of a stop is taken, in the text of a quotation
pub record MovesOver (bytes : List ℕ) (at : ℕ) (mode : Mode) (tokens : List Token) (to : ℕ) (mode' : Mode) (tokens' : List Token) : Type 0 where
  pub f : TokenForm
  pub stop : IsStop bytes at f to
  pub mode_is : mode' ≡ behind_token mode at f
  pub tokens_are : tokens' ≡ tokens ++ token at to f ∷ []
