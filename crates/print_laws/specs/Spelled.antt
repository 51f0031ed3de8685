-- How tokens are spelled, each with a blank behind it but where the text of a quotation goes on.
use Rattle.std.specs.Prelude.{ℕ, suc, ◌+◌, ◌/◌, ◌%◌, ◌==◌, List, [], ◌∷◌, ◌++◌, flat_map, codes, cond, nat_lt, decimal, ◌||◌, Bool}
use denote.Ref.{Bor}
use Rattle.std.specs.List.{list_any}
use Rattle.std.specs.Str.{bytes_eq}
use lib.IntN.{ℤ, pos, negsuc}
use Rattle.sml_syntax.specs.declared.token.TokenForm.{TokenForm}
use Rattle.sml_syntax.specs.declared.token.TokenForm.TheVariants as f

abbrev pub int_spelling : ℤ → List ℕ
int_spelling (pos n) = decimal n
int_spelling (negsuc n) = 126 ∷ decimal (suc n)

-- a byte by its number, in three digits
abbrev pub number_escape : ℕ → List ℕ
number_escape b = 92 ∷ (48 + b / 100) ∷ (48 + b / 10 % 10) ∷ (48 + b % 10) ∷ []

-- a byte in a text: a line feed, a tab, `\` and `"` by their escapes, other bytes below 32 by their numbers
unfoldable pub text_byte : ℕ → List ℕ
text_byte b =
    cond (b == 10) (92 ∷ 110 ∷ [])
    (cond (b == 9) (92 ∷ 116 ∷ [])
    (cond (b == 92 || b == 34) (92 ∷ b ∷ [])
    (cond (nat_lt b 32) (number_escape b) (b ∷ []))))

-- a byte as a character: those from 128 up by their numbers too
unfoldable pub char_byte : ℕ → List ℕ
char_byte b = cond (nat_lt b 128) (text_byte b) (number_escape b)

unfoldable pub spelling : TokenForm → List ℕ
spelling (f.Int n) = int_spelling n
spelling (f.Char b) = 35 ∷ 34 ∷ char_byte b ++ 34 ∷ []
spelling (f.Str text) = 34 ∷ flat_map text_byte text ++ 34 ∷ []
spelling (f.Name name) = name
spelling (f.Long name) = name
spelling (f.TyVar name) = name
spelling (f.Mark text) = text
spelling f.QuoteFrom = codes "`"
spelling (f.Plain text) = text
spelling (f.Anti name) = 94 ∷ name
spelling f.AntiFrom = codes "^("
spelling f.AntiTo = codes ")"
spelling f.QuoteTo = codes "`"

-- what parts a token from the next one: nothing where the text of a quotation follows, else a blank
unfoldable pub gap : TokenForm → List ℕ
gap f.QuoteFrom = []
gap (f.Plain text) = []
gap (f.Anti name) = []
gap f.AntiTo = []
gap _ = 32 ∷ []

abbrev pub spelled_token : TokenForm → List ℕ
spelled_token form = spelling form ++ gap form

-- the text of tokens
abbrev pub spelled : List TokenForm → List ℕ
spelled forms = flat_map spelled_token forms

-- among these texts
abbrev pub is_among_texts : List (Bor (List ℕ)) → List ℕ → Bool
is_among_texts words word = list_any (λ w. bytes_eq w.now word) words
