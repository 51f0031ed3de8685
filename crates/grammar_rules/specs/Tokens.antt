-- The tokens of a script, and the refusal that is met first: a script is cut into pieces, each the longest spelling at its place.
use Rattle.std.specs.Prelude.{◌≡◌, ℕ, zero, suc, pred, ◌+◌, ◌<◌, List, [], ◌∷◌, ◌++◌, length, Bool, true, false, if◌then◌else◌, bytes_eq, Option, Some, None}
use Rattle.sml_syntax.specs.declared.token.Token.{Token}
use Rattle.sml_syntax.specs.declared.token.TokenForm.{TokenForm}
use Rattle.sml_syntax.specs.declared.token.TokenForm.TheVariants as form
use Rattle.grammar_rules.specs.Spelling.{Refusal, OpenQuote, Piece, Blank, Is, TextByte, Reading, Good, Refused, expression, quoted}

-- where bytes stand: outside all quotations, in the text of one, or in an expression of one with its open parentheses.
-- A quotation has the place of the outermost start, and the open parentheses of each expression around it, the innermost first.
pub data Mode : Type 0 where
  Program : Mode
  QuotedText : (start : ℕ) (around : List ℕ) → Mode
  Antiquoted : (start parens : ℕ) (around : List ℕ) → Mode

-- what whole bytes at n are
abbrev pub reading : Mode → ℕ → List ℕ → Option Reading
reading Program n p = expression false n p
reading (QuotedText start around) n p = quoted p
reading (Antiquoted start zero around) n p = expression true n p
reading (Antiquoted start (suc parens) around) n p = expression false n p

-- p at n is this before rest, and nothing longer is a piece there
pub record Longest (mode : Mode) (n : ℕ) (p rest : List ℕ) (r : Reading) : Type 0 where
  pub is : reading mode n p ≡ Some r
  pub most : (q behind : List ℕ) → p ++ rest ≡ q ++ behind → length p < length q → reading mode n q ≡ None

-- how many parentheses are open behind a mark
abbrev pub parens_behind : List ℕ → ℕ → ℕ
parens_behind mark parens =
    if bytes_eq (40 ∷ []) mark then suc parens
    else if bytes_eq (41 ∷ []) mark then pred parens
    else parens

abbrev pub around_quotation : ℕ → List ℕ → Mode
around_quotation start [] = Program
around_quotation start (parens ∷ around) = Antiquoted start parens around

-- the mode behind a token at n
abbrev pub behind_token : Mode → ℕ → TokenForm → Mode
behind_token Program n form.QuoteFrom = QuotedText n []
behind_token Program n _ = Program
behind_token (QuotedText start around) n form.QuoteTo = around_quotation start around
behind_token (QuotedText start around) n form.AntiFrom = Antiquoted start 0 around
behind_token (QuotedText start around) n _ = QuotedText start around
behind_token (Antiquoted start parens around) n form.QuoteFrom = QuotedText start (parens ∷ around)
behind_token (Antiquoted start parens around) n form.AntiTo = QuotedText start around
behind_token (Antiquoted start parens around) n (form.Mark mark) = Antiquoted start (parens_behind mark parens) around
behind_token (Antiquoted start parens around) n _ = Antiquoted start parens around

abbrev pub behind : Mode → ℕ → Piece → Mode
behind mode n Blank = mode
behind mode n (Is f) = behind_token mode n f
behind mode n (TextByte b) = mode

-- a token from n to m
abbrev pub token : ℕ → ℕ → TokenForm → Token
token n m f = record { span = record { from = n; to = m }; form = f }

-- a byte of text at n goes into the text that begins right behind it, or is one alone
abbrev pub text_at : ℕ → ℕ → ℕ → TokenForm → Token → List Token → List Token
text_at n b to (form.Plain text) t ts = token n to (form.Plain (b ∷ text)) ∷ ts
text_at n b to _ t ts = token n (suc n) (form.Plain (b ∷ [])) ∷ t ∷ ts

abbrev pub with_text : ℕ → ℕ → List Token → List Token
with_text n b [] = token n (suc n) (form.Plain (b ∷ [])) ∷ []
with_text n b (t ∷ ts) = text_at n b t.span.to t.form t ts

-- the tokens of a piece from n to m and of what follows
abbrev pub with_piece : ℕ → ℕ → Piece → List Token → List Token
with_piece n m Blank ts = ts
with_piece n m (Is f) ts = token n m f ∷ ts
with_piece n m (TextByte b) ts = with_text n b ts

-- the tokens of the bytes from n on
pub data Lexes : Mode → ℕ → List ℕ → List Token → Type 0 where
  ends : {n : ℕ} → Lexes Program n [] []
  piece : {mode : Mode} {n : ℕ} {x : Piece} {ts : List Token} (p rest : List ℕ) → Longest mode n p rest (Good x) →
      Lexes (behind mode n x) (n + length p) rest ts → Lexes mode n (p ++ rest) (with_piece n (n + length p) x ts)

-- the refusal that the bytes from n on meet first
pub data Refuses : Mode → ℕ → List ℕ → Refusal → Type 0 where
  -- a quotation is open at the end
  text_open : {n start : ℕ} {around : List ℕ} → Refuses (QuotedText start around) n [] (OpenQuote start)
  expression_open : {n start parens : ℕ} {around : List ℕ} → Refuses (Antiquoted start parens around) n [] (OpenQuote start)
  -- a refused form stands here, or behind a piece
  here : {mode : Mode} {n : ℕ} {r : Refusal} (p rest : List ℕ) → Longest mode n p rest (Refused r) → Refuses mode n (p ++ rest) r
  later : {mode : Mode} {n : ℕ} {x : Piece} {r : Refusal} (p rest : List ℕ) → Longest mode n p rest (Good x) →
      Refuses (behind mode n x) (n + length p) rest r → Refuses mode n (p ++ rest) r

-- the tokens of a script
abbrev pub HasTokens : List ℕ → List Token → Type 0
HasTokens script tokens = Lexes Program 0 script tokens

-- the refusal of a script
abbrev pub IsRefused : List ℕ → Refusal → Type 0
IsRefused script refusal = Refuses Program 0 script refusal

-- a script has at most one list of tokens
abbrev pub OnePartition : Type 0
OnePartition = (script : List ℕ) (ts us : List Token) → HasTokens script ts → HasTokens script us → ts ≡ us

-- a script has at most one refusal
abbrev pub OneRefusal : Type 0
OneRefusal = (script : List ℕ) (q r : Refusal) → IsRefused script q → IsRefused script r → q ≡ r

-- no script has both
abbrev pub NeverBoth : Type 0
NeverBoth = (script : List ℕ) (ts : List Token) (r : Refusal) → HasTokens script ts → IsRefused script r → ⊥
