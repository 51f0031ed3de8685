-- What the scanning functions answer.
use Rattle.std.specs.Prelude.{◌≡◌, ◌≢◌, ◌⊎◌, ℕ, suc, ◌+◌, ◌-◌, ◌<◌, ◌≤◌, List, [], ◌∷◌, ◌++◌, length, drop, Bool, true, false, ◌&&◌, ◌||◌, Option, Some, None, Result, Ok, Err, ◌==◌, slice_index, slice_range, if◌then◌else◌, bytes_eq, ℤ}
use Rattle.std.specs.List.{list_any, list_all}
use denote.Ref.{Bor}
use Rattle.sml_syntax.specs.declared.token.TokenForm.{TokenForm}
use Rattle.sml_syntax.specs.declared.token.Lack.{Lack}
use Rattle.sml_syntax.specs.declared.token.Lack.TheVariants as lack
use Rattle.grammar_rules.specs.Spelling as spell
use Rattle.grammar_rules.specs.Spelling.{Reading, Good, Refused, Refusal, Piece, Class, WordKind, Before, Literal, is_name_byte, is_symbol_byte, is_exponent, is_hexadecimal}
use Rattle.sml_syntax.specs.ByteClasses.{is_digit, is_letter}
use Rattle.sml_lex.specs.declared.bytes.Class.{Class as CodeClass}
use Rattle.sml_lex.specs.declared.bytes.Class.TheVariants as class
use Rattle.sml_lex.specs.declared.bytes.Run.{Run}
use Rattle.sml_lex.specs.declared.bytes.Run.TheVariants as run
use Rattle.sml_lex.specs.declared.bytes.Found.{Found}
use Rattle.sml_lex.specs.declared.words.WordKind.{WordKind as CodeWord}
use Rattle.sml_lex.specs.declared.words.WordKind.TheVariants as word
use Rattle.sml_lex.specs.declared.comments.Before.{Before as CodeBefore}
use Rattle.sml_lex.specs.declared.comments.Before.TheVariants as before
use Rattle.sml_lex.specs.declared.literals.Escaped.{Escaped}
use Rattle.sml_lex.specs.declared.literals.Escaped.TheVariants as escaped
use Rattle.sml_lex.specs.declared.literals.Turn.{Turn}
use Rattle.sml_lex.specs.declared.literals.Turn.TheVariants as turn
use Rattle.sml_syntax.specs.declared.token.TokenForm.TheVariants as form
use Rattle.sml_lex.specs.declared.refusal.LexRefusal.{LexRefusal}
use Rattle.sml_lex.specs.Ends.{Ends, EndsBadly}
pub use Rattle.sml_lex.specs.Lexed.{refusal_of, IfRefused}

abbrev pub class_as : CodeClass → Class
class_as class.Blanks = spell.Blanks
class_as class.Letter = spell.Letter
class_as class.Digit = spell.Digit
class_as class.Tilde = spell.Tilde
class_as class.Hash = spell.Hash
class_as class.Symbol = spell.Symbol
class_as class.Quote = spell.Quote
class_as class.Prime = spell.Prime
class_as class.Open = spell.Open
class_as class.Close = spell.Close
class_as class.Mark = spell.Mark
class_as class.Backquote = spell.Backquote
class_as class.Brace = spell.Brace
class_as class.Dot = spell.Dot
class_as class.Other = spell.Other

abbrev pub word_as : CodeWord → WordKind
word_as word.Plain = spell.Plain
word_as word.Reserved = spell.Reserved
word_as (word.Lacks l) = spell.Lacks l

abbrev pub is_among_texts : List (Bor (List ℕ)) → List ℕ → Bool
is_among_texts words word = list_any (λ w. bytes_eq w.now word) words

abbrev pub before_as : CodeBefore → Before
before_as before.Other = spell.Other_byte
before_as before.Paren = spell.Paren
before_as before.Star = spell.Star

abbrev pub comment_ends : Before → ℕ → ℕ → Bool
comment_ends w depth b = spell.shuts w b && depth == 0

abbrev pub in_run : Run → ℕ → Bool
in_run run.Names b = is_name_byte b
in_run run.Digits b = is_digit b
in_run run.Symbols b = is_symbol_byte b

-- a run from a place to the next byte outside it
pub data RunTo (test : ℕ → Bool) : ℕ → List ℕ → ℕ → Type 0 where
  run_none : {n : ℕ} → RunTo test n [] n
  run_stop : {n : ℕ} {b : ℕ} {bs : List ℕ} → test b ≡ false → RunTo test n (b ∷ bs) n
  run_more : {n m : ℕ} {b : ℕ} {bs : List ℕ} → test b ≡ true → RunTo test (suc n) bs m → RunTo test n (b ∷ bs) m

-- no digit stands at a place
abbrev pub NoDigitAt : List ℕ → ℕ → Type 0
NoDigitAt bs i = (length bs ≤ i) ⊎ ((i < length bs) × (is_digit (slice_index bs i) ≡ false))

abbrev pub IsDigitAt : List ℕ → ℕ → Option ℕ → Type 0
IsDigitAt bs i (Some d) = (i < length bs) × (is_digit (slice_index bs i) ≡ true) × (d ≡ slice_index bs i - 48) × (d < 10)
IsDigitAt bs i None = NoDigitAt bs i

abbrev pub piece_of : Option TokenForm → Piece
piece_of (Some f) = spell.Is f
piece_of None = spell.Blank

-- a piece that was found, up to its end, or the refusal
abbrev pub GivesPiece : (List ℕ → Option Reading) → ℕ → List ℕ → Result Found LexRefusal → Type 0
GivesPiece A n bs (Ok found) = Ends A n bs (Good (piece_of found.form)) found.to
GivesPiece A n bs (Err e) = IfRefused (refusal_of e) (EndsBadly A n bs)

-- the end of a comment, or the refusal
abbrev pub GivesEnd : (List ℕ → Option Reading) → ℕ → List ℕ → Result ℕ LexRefusal → Type 0
GivesEnd A n bs (Ok to) = Ends A n bs (Good spell.Blank) to
GivesEnd A n bs (Err e) = IfRefused (refusal_of e) (EndsBadly A n bs)

-- the bytes of a form of numbers that the language lacks, and whatever follows

abbrev pub first_is_digit : List ℕ → Bool
first_is_digit [] = false
first_is_digit (d ∷ ds) = is_digit d

abbrev pub begins_real : List ℕ → Bool
begins_real [] = false
begins_real (b ∷ []) = false
begins_real (b ∷ c ∷ bs) = ((b == 46 || is_exponent b) && is_digit c) || (is_exponent b && (c == 126 && first_is_digit bs))

abbrev pub begins_word : List ℕ → Bool
begins_word [] = false
begins_word (b ∷ []) = false
begins_word (b ∷ c ∷ bs) = b == 119 && (is_digit c || c == 120)

abbrev pub begins_hexadecimal : List ℕ → Bool
begins_hexadecimal [] = false
begins_hexadecimal (b ∷ []) = false
begins_hexadecimal (b ∷ c ∷ bs) = b == 120 && is_hexadecimal c

-- what the backslash at k begins, whatever literal it stands in
abbrev pub IsEscape : List ℕ → ℕ → Escaped → Type 0
IsEscape bytes k (escaped.Byte v to) =
    (k < to) × (to ≤ length bytes) ×
    ((n : ℕ) (h : Literal) (r : Reading) (m : ℕ) → Ends (spell.literal n (spell.with_byte h v) to) to (drop to bytes) r m → Ends (spell.escape n h k) (k + 1) (drop (k + 1) bytes) r m)
IsEscape bytes k escaped.Open = (n : ℕ) (h : Literal) → EndsBadly (spell.escape n h k) (k + 1) (drop (k + 1) bytes) (spell.cut_off n h)
IsEscape bytes k escaped.Bad = (n : ℕ) (h : Literal) → EndsBadly (spell.escape n h k) (k + 1) (drop (k + 1) bytes) (spell.BadByte k)
IsEscape bytes k escaped.Lacking = (n : ℕ) (h : Literal) → EndsBadly (spell.escape n h k) (k + 1) (drop (k + 1) bytes) (spell.Unsupported k lack.Escape)

-- what stands at k in a text that began at n, whatever its value so far
abbrev pub IsTurn : List ℕ → ℕ → ℕ → Turn → Type 0
IsTurn bytes n k (turn.Byte v to) =
    (k < to) × (to ≤ length bytes) ×
    ((w : List ℕ) (r : Reading) (m : ℕ) → Ends (spell.literal n (spell.TextOf (w ++ v ∷ [])) to) to (drop to bytes) r m → Ends (spell.literal n (spell.TextOf w) k) k (drop k bytes) r m)
IsTurn bytes n k turn.Shut = (w : List ℕ) → Ends (spell.literal n (spell.TextOf w) k) k (drop k bytes) (spell.is (form.Str w)) (k + 1)
IsTurn bytes n k (turn.Refused e) = (w : List ℕ) → IfRefused (refusal_of e) (EndsBadly (spell.literal n (spell.TextOf w) k) k (drop k bytes))

-- the lack that digits and the bytes behind them begin
abbrev pub lack_begun : List ℕ → List ℕ → Option Lack
lack_begun digits rest =
    if begins_real rest then Some lack.Reals
    else if spell.is_zero digits && begins_word rest then Some lack.Words
    else if spell.is_zero digits && begins_hexadecimal rest then Some lack.Hexadecimal
    else None

-- an integer of 64 bits
abbrev pub IsInteger : Bool → List ℕ → Option ℤ → Type 0
IsInteger negative digits (Some z) = (n : ℕ) → spell.integer n negative digits ≡ spell.is (form.Int z)
IsInteger negative digits None = (n : ℕ) → spell.integer n negative digits ≡ Refused (spell.WideNumber n)

-- behind a word a dot and a letter go on to a long name
abbrev pub goes_on : List ℕ → List ℕ → Bool
goes_on word [] = false
goes_on word (b ∷ []) = false
goes_on word (b ∷ c ∷ bs) = (b == 46 && is_letter c) && spell.is_plain word

-- a reading that was found, with its end, or its refusal
abbrev pub GivesReading : Reading → ℕ → Result Found LexRefusal → Type 0
GivesReading r to (Ok found) = (r ≡ Good (piece_of found.form)) × (found.to ≡ to)
GivesReading r to (Err e) = IfRefused (refusal_of e) (λ f. r ≡ Refused f)

-- behind a prime
abbrev pub variable : ℕ → List ℕ → Option Reading
variable b bs = spell.only (list_all is_name_byte bs) (spell.is (form.TyVar (b ∷ bs)))

-- this byte comes first
abbrev pub first_is : ℕ → List ℕ → Bool
first_is b [] = false
first_is b (c ∷ bs) = c == b

abbrev pub mark_of : ℕ → Reading
mark_of b = spell.is (form.Mark (b ∷ []))

abbrev pub has_two_dots : List ℕ → Bool
has_two_dots [] = false
has_two_dots (b ∷ []) = false
has_two_dots (b ∷ c ∷ bs) = b == 46 && c == 46
