-- The spellings of the language: what whole bytes are as a piece of a script, in an expression and in the text of a quotation.
-- A refused form is a spelling too, as far as it goes, so that the longest piece decides between it and a token.
use Rattle.std.specs.Prelude.{ℕ, zero, suc, ◌+◌, ◌-◌, ◌*◌, ◌^◌, ◌≤◌, ◌<◌, List, [], ◌∷◌, ◌++◌, length, Bool, true, false, ◌&&◌, ◌||◌, not, if◌then◌else◌, nat_lt, nat_le, ◌==◌, bytes_eq, codes, Option, Some, None, ℤ, pos, neg_ℤ}
use Rattle.std.specs.List.{list_all, list_any}
use Rattle.sml_syntax.specs.ByteClasses.{is_digit, is_letter}
use Rattle.sml_syntax.specs.declared.token.TokenForm.{TokenForm}
use Rattle.sml_syntax.specs.declared.token.TokenForm.TheVariants as form
use Rattle.sml_syntax.specs.declared.token.Lack.{Lack}
use Rattle.sml_syntax.specs.declared.token.Lack.TheVariants as lack

-- why a script has no tokens, with the place
pub data Refusal : Type 0 where
  -- a byte at which no piece begins, a wrong number behind a backslash, a wrong character
  BadByte : ℕ → Refusal
  -- the outermost start of a comment that meets the end
  OpenComment : ℕ → Refusal
  -- the start of a text that meets a line feed or the end
  OpenString : ℕ → Refusal
  -- the outermost start of a quotation that meets the end
  OpenQuote : ℕ → Refusal
  -- an integer outside 64 bits, its sign included
  WideNumber : ℕ → Refusal
  -- a form of Standard ML that the language leaves out
  Unsupported : ℕ → Lack → Refusal

-- what is taken from a script
pub data Piece : Type 0 where
  -- a blank or a comment
  Blank : Piece
  Is : TokenForm → Piece
  -- a byte of a quotation's text
  TextByte : ℕ → Piece

-- what whole bytes are
pub data Reading : Type 0 where
  Good : Piece → Reading
  Refused : Refusal → Reading

-- Bytes

-- space, tab, CR, LF, form feed
abbrev pub is_blank : ℕ → Bool
is_blank b = b == 32 || (b == 9 || (b == 13 || (b == 10 || b == 12)))

-- a letter, a digit, `_` or a prime
abbrev pub is_name_byte : ℕ → Bool
is_name_byte b = is_letter b || (is_digit b || (b == 95 || b == 39))

-- `! % & $ # + - / : < = > ? @ \ ~ ^ | *`
abbrev pub is_symbol_byte : ℕ → Bool
is_symbol_byte b =
    b == 33 || (b == 37 || (b == 38 || (b == 36 || (b == 35 || (b == 43 || (b == 45 || (b == 47 || (b == 58 || (b == 60 ||
    (b == 61 || (b == 62 || (b == 63 || (b == 64 || (b == 92 || (b == 126 || (b == 94 || (b == 124 || b == 42)))))))))))))))))

-- `[ ] , ; _`
abbrev pub is_mark : ℕ → Bool
is_mark b = b == 91 || (b == 93 || (b == 44 || (b == 59 || b == 95)))

abbrev pub is_hexadecimal : ℕ → Bool
is_hexadecimal b = is_digit b || ((nat_le 65 b && nat_le b 70) || (nat_le 97 b && nat_le b 102))

abbrev pub is_exponent : ℕ → Bool
is_exponent b = b == 101 || b == 69

-- what the first byte of a piece tells in an expression
pub data Class : Type 0 where
  Blanks Letter Digit Tilde Hash Symbol Quote Prime Open Close Mark Backquote Brace Dot Other : Class

unfoldable pub mark_class : ℕ → Class
mark_class b =
    if b == 34 then Quote
    else if b == 39 then Prime
    else if b == 40 then Open
    else if b == 41 then Close
    else if is_mark b then Mark
    else if b == 96 then Backquote
    else if b == 123 || b == 125 then Brace
    else if b == 46 then Dot
    else Other

unfoldable pub class : ℕ → Class
class b =
    if is_blank b then Blanks
    else if is_letter b then Letter
    else if is_digit b then Digit
    else if b == 126 then Tilde
    else if b == 35 then Hash
    else if is_symbol_byte b then Symbol
    else mark_class b

abbrev pub is_nil : List ℕ → Bool
is_nil [] = true
is_nil (b ∷ bs) = false

abbrev pub only : Bool → Reading → Option Reading
only true r = Some r
only false r = None

abbrev pub is : TokenForm → Reading
is f = Good (Is f)

-- Words

abbrev pub is_among : List (List ℕ) → List ℕ → Bool
is_among words word = list_any (λ w. bytes_eq w word) words

abbrev pub reserved_words : List (List ℕ)
reserved_words =
    codes "and" ∷ codes "andalso" ∷ codes "case" ∷ codes "datatype" ∷ codes "else" ∷ codes "end" ∷ codes "exception" ∷ codes "fn" ∷ codes "fun" ∷
    codes "handle" ∷ codes "if" ∷ codes "in" ∷ codes "let" ∷ codes "local" ∷ codes "of" ∷ codes "op" ∷ codes "orelse" ∷ codes "raise" ∷ codes "rec" ∷
    codes "then" ∷ codes "type" ∷ codes "val" ∷ []

abbrev pub module_words : List (List ℕ)
module_words =
    codes "structure" ∷ codes "struct" ∷ codes "signature" ∷ codes "sig" ∷ codes "functor" ∷ codes "open" ∷ codes "include" ∷ codes "sharing" ∷
    codes "where" ∷ codes "eqtype" ∷ []

abbrev pub layered_words : List (List ℕ)
layered_words = codes "as" ∷ []

abbrev pub abstype_words : List (List ℕ)
abstype_words = codes "abstype" ∷ codes "with" ∷ codes "withtype" ∷ []

abbrev pub fixity_words : List (List ℕ)
fixity_words = codes "infix" ∷ codes "infixr" ∷ codes "nonfix" ∷ []

abbrev pub while_words : List (List ℕ)
while_words = codes "while" ∷ codes "do" ∷ []

pub data WordKind : Type 0 where
  Plain : WordKind
  Reserved : WordKind
  Lacks : Lack → WordKind

-- what a word of letters is: a name, a reserved word, or a word of a form that the language lacks
unfoldable pub word_kind : List ℕ → WordKind
word_kind word =
    if is_among reserved_words word then Reserved
    else if is_among module_words word then Lacks lack.Module
    else if is_among layered_words word then Lacks lack.Layered
    else if is_among abstype_words word then Lacks lack.Abstype
    else if is_among fixity_words word then Lacks lack.Fixity
    else if is_among while_words word then Lacks lack.While
    else Plain

abbrev pub is_plain_kind : WordKind → Bool
is_plain_kind Plain = true
is_plain_kind Reserved = false
is_plain_kind (Lacks l) = false

abbrev pub is_plain : List ℕ → Bool
is_plain word = is_plain_kind (word_kind word)

-- a word or a run of symbols that stands alone
abbrev pub alone : ℕ → List ℕ → WordKind → Reading
alone n word Plain = is (form.Name word)
alone n word Reserved = is (form.Mark word)
alone n word (Lacks l) = Refused (Unsupported n l)

-- the last word of a name at n, behind the earlier words with their dots: behind a dot only a plain word may stand, else the dot is refused
abbrev pub named : ℕ → List ℕ → List ℕ → Reading
named n [] word = alone n word (word_kind word)
named n (d ∷ before) word = if is_plain word then is (form.Long ((d ∷ before) ++ word)) else Refused (BadByte (n + length before))

-- a name at n, or a long name: the earlier words with their dots, the word at hand so far, and the bytes that go on
unfoldable mutual
  pub names : ℕ → List ℕ → List ℕ → List ℕ → Option Reading
  names n before word [] = Some (named n before word)
  names n before word (b ∷ bs) =
      if is_name_byte b then names n before (word ++ b ∷ []) bs
      else if b == 46 && is_plain word then next_word n (before ++ word ++ 46 ∷ []) bs
      else None

  pub next_word : ℕ → List ℕ → List ℕ → Option Reading
  next_word n before [] = None
  next_word n before (b ∷ bs) = if is_letter b then names n before (b ∷ []) bs else None

-- Symbols

abbrev pub reserved_symbols : List (List ℕ)
reserved_symbols = codes ":" ∷ codes "|" ∷ codes "=" ∷ codes "=>" ∷ codes "->" ∷ []

-- what a run of symbol bytes is
unfoldable pub symbol_kind : List ℕ → WordKind
symbol_kind run =
    if is_among reserved_symbols run then Reserved
    else if is_among (codes ":>" ∷ []) run then Lacks lack.Module
    else if is_among (codes "#" ∷ []) run then Lacks lack.Records
    else Plain

-- symbols at n, by the first byte and the others
abbrev pub symbols : ℕ → ℕ → List ℕ → Option Reading
symbols n b bs = only (list_all is_symbol_byte bs) (alone n (b ∷ bs) (symbol_kind (b ∷ bs)))

-- Numbers

-- the number of decimal digits, behind the number n
abbrev pub decimal_from : ℕ → List ℕ → ℕ
decimal_from n [] = n
decimal_from n (d ∷ ds) = decimal_from (10 * n + (d - 48)) ds

-- an integer at n, in 64 bits
abbrev pub integer : ℕ → Bool → List ℕ → Reading
integer n false digits = if nat_lt (decimal_from 0 digits) (2 ^ 63) then is (form.Int (pos (decimal_from 0 digits))) else Refused (WideNumber n)
integer n true digits = if nat_le (decimal_from 0 digits) (2 ^ 63) then is (form.Int (neg_ℤ (pos (decimal_from 0 digits)))) else Refused (WideNumber n)

-- behind digits: `.` and a digit, `e` and a digit, `e~` and a digit
abbrev pub is_real : List ℕ → Bool
is_real (b ∷ c ∷ []) = (b == 46 || is_exponent b) && is_digit c
is_real (b ∷ c ∷ d ∷ []) = is_exponent b && (c == 126 && is_digit d)
is_real _ = false

-- behind `0`: `w` and a digit or `x`
abbrev pub is_word : List ℕ → Bool
is_word (b ∷ c ∷ []) = b == 119 && (is_digit c || c == 120)
is_word _ = false

-- behind `0`: `x` and a hexadecimal digit
abbrev pub is_hexadecimal_form : List ℕ → Bool
is_hexadecimal_form (b ∷ c ∷ []) = b == 120 && is_hexadecimal c
is_hexadecimal_form _ = false

abbrev pub is_zero : List ℕ → Bool
is_zero (d ∷ []) = d == 48
is_zero _ = false

-- the lack that digits with these bytes behind them spell, at the first digit
abbrev pub number_lack : ℕ → List ℕ → List ℕ → Option Reading
number_lack k digits behind =
    if is_real behind then Some (Refused (Unsupported k lack.Reals))
    else if is_zero digits && is_word behind then Some (Refused (Unsupported k lack.Words))
    else if is_zero digits && is_hexadecimal_form behind then Some (Refused (Unsupported k lack.Hexadecimal))
    else None

-- a number at n with its first digit at k: whether it has a sign, the digits so far, and the bytes that go on
unfoldable pub numbers : ℕ → ℕ → Bool → List ℕ → List ℕ → Option Reading
numbers n k negative digits [] = Some (integer n negative digits)
numbers n k negative digits (b ∷ bs) = if is_digit b then numbers n k negative (digits ++ b ∷ []) bs else number_lack k digits (b ∷ bs)

-- Texts and characters

-- a text with its value so far, a character of which nothing is read, and one whose value is read
pub data Literal : Type 0 where
  TextOf : List ℕ → Literal
  Char : Literal
  CharOf : ℕ → Literal

-- with one byte more
abbrev pub with_byte : Literal → ℕ → Literal
with_byte (TextOf v) b = TextOf (v ++ b ∷ [])
with_byte Char b = CharOf b
with_byte (CharOf v) b = CharOf v

-- what is missing where nothing follows: a text is open, a character is wrong at its `#`
abbrev pub cut_off : ℕ → Literal → Refusal
cut_off n (TextOf v) = OpenString n
cut_off n Char = BadByte n
cut_off n (CharOf v) = BadByte n

-- what a literal at n is at its closing mark
abbrev pub closed : ℕ → Literal → Reading
closed n (TextOf v) = is (form.Str v)
closed n Char = Refused (BadByte n)
closed n (CharOf v) = is (form.Char v)

-- behind the one byte or escape of a character only the closing mark may stand
abbrev pub takes : Literal → Bool
takes (TextOf v) = true
takes Char = true
takes (CharOf v) = false

-- bytes that may stand for themselves
abbrev pub is_fit : Literal → ℕ → Bool
is_fit (TextOf v) b = nat_le 32 b
is_fit Char b = nat_le 32 b && nat_lt b 128
is_fit (CharOf v) b = false

-- the refusal of a byte at k that may not: a line feed leaves a text open, another byte below 32 is bad in it;
-- a byte from 128 up is bad in a character, and else the character is wrong at its `#`
abbrev pub unfit : ℕ → Literal → ℕ → ℕ → Refusal
unfit n (TextOf v) k b = if b == 10 then OpenString n else BadByte k
unfit n Char k b = if nat_lt b 128 then BadByte n else BadByte k
unfit n (CharOf v) k b = BadByte n

-- `\n`, `\t`, `\\` and `\"`
abbrev pub is_short_escape : ℕ → Bool
is_short_escape c = c == 110 || (c == 116 || (c == 92 || c == 34))

abbrev pub short_escape : ℕ → ℕ
short_escape c = if c == 110 then 10 else if c == 116 then 9 else c

-- a text or a character at n: what is read, the place k, and the bytes that go on from there
unfoldable mutual
  pub literal : ℕ → Literal → ℕ → List ℕ → Option Reading
  literal n h k [] = Some (Refused (cut_off n h))
  literal n h k (b ∷ bs) =
      if b == 34 then only (is_nil bs) (closed n h)
      else if b == 92 && takes h then escape n h k bs
      else if is_fit h b then literal n (with_byte h b) (k + 1) bs
      else only (is_nil bs) (Refused (unfit n h k b))

  -- behind a backslash at k
  pub escape : ℕ → Literal → ℕ → List ℕ → Option Reading
  escape n h k [] = Some (Refused (cut_off n h))
  escape n h k (c ∷ bs) =
      if is_short_escape c then literal n (with_byte h (short_escape c)) (k + 2) bs
      else if is_digit c then second_digit n h k (c - 48) bs
      else only (is_nil bs) (Refused (Unsupported k lack.Escape))

  pub second_digit : ℕ → Literal → ℕ → ℕ → List ℕ → Option Reading
  second_digit n h k v [] = Some (Refused (BadByte k))
  second_digit n h k v (c ∷ bs) = if is_digit c then third_digit n h k (10 * v + (c - 48)) bs else None

  pub third_digit : ℕ → Literal → ℕ → ℕ → List ℕ → Option Reading
  third_digit n h k v [] = Some (Refused (BadByte k))
  third_digit n h k v (c ∷ bs) =
      if is_digit c then (if nat_lt (10 * v + (c - 48)) 256 then literal n (with_byte h (10 * v + (c - 48))) (k + 4) bs else only (is_nil bs) (Refused (BadByte k)))
      else None

-- Comments

-- the byte before, in a comment
pub data Before : Type 0 where
  Other_byte Paren Star : Before

abbrev pub before_of : ℕ → Before
before_of b = if b == 40 then Paren else if b == 42 then Star else Other_byte

-- `(*` and `*)`, by the byte before and the next one
abbrev pub opens : Before → ℕ → Bool
opens Paren b = b == 42
opens _ b = false

abbrev pub shuts : Before → ℕ → Bool
shuts Star b = b == 41
shuts _ b = false

-- behind a byte
abbrev pub before_behind : Before → ℕ → Before
before_behind w b = if opens w b || shuts w b then Other_byte else before_of b

abbrev pub depth_behind : Before → ℕ → ℕ → ℕ
depth_behind w depth b = if opens w b then depth + 1 else if shuts w b then depth - 1 else depth

-- a comment at n: the byte before, how many comments are open in it, and the bytes that go on
unfoldable pub comment : ℕ → Before → ℕ → List ℕ → Option Reading
comment n w depth [] = Some (Refused (OpenComment n))
comment n w depth (b ∷ bs) =
    if shuts w b && depth == 0 then only (is_nil bs) (Good Blank)
    else comment n (before_behind w b) (depth_behind w depth b) bs

-- Pieces of an expression at n, by the first byte, of a class, and the others

-- `(`, or a comment
abbrev pub behind_open : ℕ → ℕ → List ℕ → Option Reading
behind_open n b [] = Some (is (form.Mark (b ∷ [])))
behind_open n b (c ∷ bs) = if c == 42 then comment n Other_byte 0 bs else None

-- a character, or symbols
abbrev pub behind_hash : ℕ → ℕ → List ℕ → Option Reading
behind_hash n b [] = symbols n b []
behind_hash n b (c ∷ bs) = if c == 34 then literal n Char (n + 2) bs else symbols n b (c ∷ bs)

-- an integer with its sign, or symbols
abbrev pub behind_tilde : ℕ → ℕ → List ℕ → Option Reading
behind_tilde n b [] = symbols n b []
behind_tilde n b (c ∷ bs) = if is_digit c then numbers n (n + 1) true (c ∷ []) bs else symbols n b (c ∷ bs)

-- `...`, and a dot alone
abbrev pub behind_dot : ℕ → List ℕ → Option Reading
behind_dot n [] = Some (Refused (BadByte n))
behind_dot n (b ∷ c ∷ []) = if b == 46 && c == 46 then Some (Refused (Unsupported n lack.Records)) else None
behind_dot n _ = None

-- `)`, which ends an antiquotation whose other parentheses are closed
abbrev pub close_form : Bool → ℕ → TokenForm
close_form true b = form.AntiTo
close_form false b = form.Mark (b ∷ [])

-- a piece at n of an expression that the next `)` ends or not, by its first byte and the others
abbrev pub expression_by : Bool → ℕ → Class → ℕ → List ℕ → Option Reading
expression_by ends n Blanks b bs = only (is_nil bs) (Good Blank)
expression_by ends n Letter b bs = names n [] (b ∷ []) bs
expression_by ends n Digit b bs = numbers n n false (b ∷ []) bs
expression_by ends n Tilde b bs = behind_tilde n b bs
expression_by ends n Hash b bs = behind_hash n b bs
expression_by ends n Symbol b bs = symbols n b bs
expression_by ends n Quote b bs = literal n (TextOf []) (n + 1) bs
expression_by ends n Prime b bs = only (list_all is_name_byte bs) (is (form.TyVar (b ∷ bs)))
expression_by ends n Open b bs = behind_open n b bs
expression_by ends n Close b bs = only (is_nil bs) (is (close_form ends b))
expression_by ends n Mark b bs = only (is_nil bs) (is (form.Mark (b ∷ [])))
expression_by ends n Backquote b bs = only (is_nil bs) (is form.QuoteFrom)
expression_by ends n Brace b bs = only (is_nil bs) (Refused (Unsupported n lack.Records))
expression_by ends n Dot b bs = behind_dot n bs
expression_by ends n Other b bs = only (is_nil bs) (Refused (BadByte n))

abbrev pub expression : Bool → ℕ → List ℕ → Option Reading
expression ends n [] = None
expression ends n (b ∷ bs) = expression_by ends n (class b) b bs

-- The text of a quotation

-- `^` before a name, `^(`, and a `^` that is text
abbrev pub behind_caret : List ℕ → Option Reading
behind_caret [] = Some (Good (TextByte 94))
behind_caret (b ∷ bs) =
    if b == 40 then only (is_nil bs) (is form.AntiFrom)
    else only (is_letter b && list_all is_name_byte bs) (is (form.Anti (b ∷ bs)))

abbrev pub quoted : List ℕ → Option Reading
quoted [] = None
quoted (b ∷ bs) =
    if b == 96 then only (is_nil bs) (is form.QuoteTo)
    else if b == 94 then behind_caret bs
    else only (is_nil bs) (Good (TextByte b))
