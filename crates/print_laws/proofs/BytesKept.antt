-- What is kept of each token of an expression.
use Rattle.std.proofs.Common.{◌≡◌, inl, ℕ, zero, suc, ◌+◌, ◌-◌, ◌*◌, ◌^◌, ◌<◌, ◌≤◌, List, [], ◌∷◌, ◌++◌, length, Bool, true, false, ◌&&◌, ◌||◌, cond, Option, Some, None, refl, ap, sym, ◌∙◌, subst, arith, ◌==◌, nat_lt, nat_le}
use Rattle.std.specs.Prelude.{pos, neg_ℤ}
use Rattle.std.proofs.lemmas.Bool.Decides.{nat_tests}
use Rattle.std.specs.List.{list_all}
use Rattle.sml_syntax.specs.declared.token.TokenForm.{TokenForm}
use Rattle.sml_syntax.specs.declared.token.TokenForm.TheVariants as f
use Rattle.sml_syntax.specs.declared.token.Lack.TheVariants as lack
use Rattle.grammar_rules.specs.Spelling.{Reading, Good, Refused, Unsupported, BadByte, WideNumber, Piece, Blank, Is, TextByte, is, only, is_nil, is_name_byte, is_symbol_byte, is_plain, WordKind, Plain, Reserved, Lacks, word_kind, symbol_kind, alone, names, next_word, named, symbols, decimal_from, integer, numbers, number_lack, is_real, is_word, is_zero, is_hexadecimal_form, Literal, TextOf, Char, CharOf, with_byte, takes, is_fit, unfit, closed, literal, escape, second_digit, third_digit, is_short_escape, short_escape, Class, Blanks, Letter, Digit, Tilde, Hash, Symbol, Quote, Prime, Open, Close, Mark, Backquote, Brace, Dot, Other, class, mark_class, expression, expression_by, comment, shuts, before_behind, depth_behind, Before, behind_hash, behind_tilde, behind_dot, close_form}
use Rattle.sml_syntax.specs.ByteClasses.{is_letter, is_digit}
use Rattle.print_laws.specs.Printing.{has_dot, begins_number}
use Rattle.print_laws.specs.Bytes.{InRange, Kept}
use Rattle.print_laws.proofs.BytesNames.{Said, said_name, said_long, said_mark, names_said, alone_said}
use Rattle.print_laws.proofs.BytesValues.{digit_class}

-- an expression has no text and no `^` with its name
abbrev pub KeptWord : TokenForm → Type 0
KeptWord (f.Plain text) = ⊥
KeptWord (f.Anti name) = ⊥
KeptWord (f.Int n) = Kept (f.Int n)
KeptWord (f.Char b) = Kept (f.Char b)
KeptWord (f.Str text) = Unit {0}
KeptWord (f.Name name) = Kept (f.Name name)
KeptWord (f.Long name) = Kept (f.Long name)
KeptWord (f.TyVar name) = Kept (f.TyVar name)
KeptWord (f.Mark text) = Unit {0}
KeptWord f.QuoteFrom = Unit {0}
KeptWord f.AntiFrom = Unit {0}
KeptWord f.AntiTo = Unit {0}
KeptWord f.QuoteTo = Unit {0}

abbrev pub KeptPiece : Piece → Type 0
KeptPiece Blank = Unit {0}
KeptPiece (Is form) = KeptWord form
KeptPiece (TextByte b) = ⊥

abbrev pub KeptReading : Reading → Type 0
KeptReading (Good x) = KeptPiece x
KeptReading (Refused r) = Unit {0}

abbrev NoByte : Reading → Type 0
NoByte (Good Blank) = Unit {0}
NoByte (Good (Is form)) = Unit {0}
NoByte (Good (TextByte b)) = ⊥
NoByte (Refused r) = Unit {0}

-- what a test gives
pub by_test : (P : Reading → Type 0) (t : Bool) {a b : Option Reading} {r : Reading} → (t ≡ true → a ≡ Some r → P r) → (t ≡ false → b ≡ Some r → P r) → cond t a b ≡ Some r → P r
by_test P true k l h = k refl h
by_test P false k l h = l refl h

some_is : {q r : Reading} → Some q ≡ Some r → q ≡ r
some_is h = cc

none_not : {r : Reading} → None ≡ Some r → ⊥
none_not h = cc

gives : (P : Reading → Type 0) (q : Reading) {r : Reading} → P q → Some q ≡ Some r → P r
gives P q p h = subst P (some_is h) p

pub only_gives : (P : Reading → Type 0) (t : Bool) (q : Reading) {r : Reading} → P q → only t q ≡ Some r → P r
only_gives P true q p h = gives P q p h
only_gives P false q p h = absurd (none_not h)

-- names
alone_no_byte : (n : ℕ) (word : List ℕ) (k : WordKind) → NoByte (alone n word k)
alone_no_byte n word Plain = tt
alone_no_byte n word Reserved = tt
alone_no_byte n word (Lacks l) = tt

named_no_byte : (n : ℕ) (before word : List ℕ) → NoByte (named n before word)
named_no_byte n [] word = alone_no_byte n word (word_kind word)
named_no_byte n (d ∷ before) word = go (is_plain word)
  where
    go : (t : Bool) → NoByte (cond t (is (f.Long ((d ∷ before) ++ word))) (Refused (BadByte (n + length before))))
    go true = tt
    go false = tt

mutual
  unfolding names

  names_no_byte : (n : ℕ) (before word bs : List ℕ) {r : Reading} → names n before word bs ≡ Some r → NoByte r
  names_no_byte n before word [] h = gives NoByte (named n before word) (named_no_byte n before word) h
  names_no_byte n before word (b ∷ bs) h =
      by_test NoByte (is_name_byte b) (λ t g. names_no_byte n before (word ++ b ∷ []) bs g) (λ t g. by_test NoByte (b == 46 && is_plain word) (λ u k. next_no_byte n (before ++ word ++ 46 ∷ []) bs k) (λ u k. absurd (none_not k)) g) h

  next_no_byte : (n : ℕ) (before bs : List ℕ) {r : Reading} → next_word n before bs ≡ Some r → NoByte r
  next_no_byte n before [] h = absurd (none_not h)
  next_no_byte n before (b ∷ bs) h = by_test NoByte (is_letter b) (λ t g. names_no_byte n before (b ∷ []) bs g) (λ t g. absurd (none_not g)) h

said_kept : {reads : ℕ → Option Reading} {whole : List ℕ} {form : TokenForm} → Said reads whole form → begins_number whole ≡ false → ((ends : Bool) (n : ℕ) → expression ends n whole ≡ reads n) → KeptWord form
said_kept (said_name h r) g k = record { has_dots = h; first = g; reads = λ ends n. k ends n ∙ r n }
said_kept (said_long h r) g k = record { has_dots = h; first = g; reads = λ ends n. k ends n ∙ r n }
said_kept said_mark g k = tt

-- a reading of which tokens are kept
kept_by : (r : Reading) → NoByte r → ((form : TokenForm) → r ≡ is form → KeptWord form) → KeptReading r
kept_by (Good Blank) h k = tt
kept_by (Good (Is form)) h k = k form refl
kept_by (Good (TextByte b)) h k = h
kept_by (Refused r) h k = tt

not_digit : (b : ℕ) (c : Class) → class b ≡ c → (c ≡ Digit → ⊥) → is_digit b ≡ false
not_digit b c h k = go (is_digit b) refl
  where
    go : (t : Bool) → is_digit b ≡ t → t ≡ false
    go true e = absurd (k (sym h ∙ digit_class b e))
    go false e = refl

is_byte : (b c : ℕ) → (b == c) ≡ true → b ≡ c
is_byte b c h = grind (arith, nat_tests)

dot_class : class 46 ≡ Dot
unfolding class mark_class
dot_class = refl

not_dot : (b : ℕ) (c : Class) → class b ≡ c → (c ≡ Dot → ⊥) → has_dot (b ∷ []) ≡ false
not_dot b c h k = go (b == 46) refl
  where
    go : (t : Bool) → (b == 46) ≡ t → (t || false) ≡ false
    go true e = absurd (k (sym h ∙ (ap class (is_byte b 46 e) ∙ dot_class)))
    go false e = refl

letter_kept : (n b : ℕ) (bs : List ℕ) (r : Reading) → class b ≡ Letter → names n [] (b ∷ []) bs ≡ Some r → KeptReading r
letter_kept n b bs r c h =
    kept_by r (names_no_byte n [] (b ∷ []) bs h)
    (λ form e. said_kept (names_said n [] (b ∷ []) bs (inl refl) (not_dot b Letter c (λ k. cc)) (h ∙ ap Some e)) (not_digit b Letter c (λ k. cc)) (λ ends m. ap (λ z. expression_by ends m z b bs) c))

-- symbols
and_false : (x : Bool) → (x && false) ≡ true → ⊥
and_false true h = cc
and_false false h = cc

symbol_no_dot : (b : ℕ) → is_symbol_byte b ≡ true → (b == 46) ≡ false
symbol_no_dot b h = grind (arith, nat_tests)

split_and : (x y : Bool) → (x && y) ≡ true → (x ≡ true) × (y ≡ true)
split_and true y h = (refl, h)
split_and false y h = absurd (cc)

no_dots : (bs : List ℕ) → list_all is_symbol_byte bs ≡ true → has_dot bs ≡ false
no_dots [] h = refl
no_dots (b ∷ bs) h =
    let s : (is_symbol_byte b ≡ true) × (list_all is_symbol_byte bs ≡ true) = split_and (is_symbol_byte b) (list_all is_symbol_byte bs) h in
    ap (λ t. t || has_dot bs) (symbol_no_dot b s.0) ∙ no_dots bs s.1

first_no_dot : (b : ℕ) (bs : List ℕ) → has_dot (b ∷ []) ≡ false → has_dot bs ≡ false → has_dot (b ∷ bs) ≡ false
first_no_dot b bs h g = go (b == 46) h
  where
    go : (t : Bool) → (t || false) ≡ false → (t || has_dot bs) ≡ false
    go true k = absurd (cc)
    go false k = g

symbols_kept : (n b : ℕ) (bs : List ℕ) (r : Reading) → has_dot (b ∷ []) ≡ false → begins_number (b ∷ bs) ≡ false → ((ends : Bool) (m : ℕ) → expression ends m (b ∷ bs) ≡ symbols m b bs) → symbols n b bs ≡ Some r → KeptReading r
symbols_kept n b bs r d g k h = go (list_all is_symbol_byte bs) refl h
  where
    go : (t : Bool) → list_all is_symbol_byte bs ≡ t → only t (alone n (b ∷ bs) (symbol_kind (b ∷ bs))) ≡ Some r → KeptReading r
    go false e h = absurd (none_not h)
    go true e h =
        kept_by r (gives NoByte (alone n (b ∷ bs) (symbol_kind (b ∷ bs))) (alone_no_byte n (b ∷ bs) (symbol_kind (b ∷ bs))) h)
        (λ form i. said_kept (alone_said n (b ∷ bs) (symbol_kind (b ∷ bs)) (first_no_dot b bs d (no_dots bs e)) (h ∙ ap Some i)) g
        (λ ends m. k ends m ∙ ap (λ t. only t (alone m (b ∷ bs) (symbol_kind (b ∷ bs)))) e))

-- numbers
below_is : (a b : ℕ) → nat_lt a b ≡ true → a < b
below_is a b h = grind (arith, nat_tests)

within_is : (a b : ℕ) → nat_le a b ≡ true → a ≤ b
within_is a b h = grind (arith, nat_tests)

neg_range : (v : ℕ) → v ≤ 2 ^ 63 → InRange (neg_ℤ (pos v))
neg_range zero h = omega arith
neg_range (suc v) h = h

integer_kept : (n : ℕ) (negative : Bool) (ds : List ℕ) → KeptReading (integer n negative ds)
integer_kept n false ds = go (nat_lt (decimal_from 0 ds) (2 ^ 63)) refl
  where
    go : (t : Bool) → nat_lt (decimal_from 0 ds) (2 ^ 63) ≡ t → KeptReading (cond t (is (f.Int (pos (decimal_from 0 ds)))) (Refused (WideNumber n)))
    go true e = below_is (decimal_from 0 ds) (2 ^ 63) e
    go false e = tt
integer_kept n true ds = go (nat_le (decimal_from 0 ds) (2 ^ 63)) refl
  where
    go : (t : Bool) → nat_le (decimal_from 0 ds) (2 ^ 63) ≡ t → KeptReading (cond t (is (f.Int (neg_ℤ (pos (decimal_from 0 ds))))) (Refused (WideNumber n)))
    go true e = neg_range (decimal_from 0 ds) (within_is (decimal_from 0 ds) (2 ^ 63) e)
    go false e = tt

lack_kept : (k : ℕ) (digits bs : List ℕ) {r : Reading} → number_lack k digits bs ≡ Some r → KeptReading r
lack_kept k digits bs h =
    by_test KeptReading (is_real bs) (λ t g. gives KeptReading (Refused (Unsupported k lack.Reals)) tt g)
    (λ t g. by_test KeptReading (is_zero digits && is_word bs) (λ u i. gives KeptReading (Refused (Unsupported k lack.Words)) tt i)
    (λ u i. by_test KeptReading (is_zero digits && is_hexadecimal_form bs) (λ v j. gives KeptReading (Refused (Unsupported k lack.Hexadecimal)) tt j) (λ v j. absurd (none_not j)) i) g) h

numbers_kept : (n k : ℕ) (negative : Bool) (digits bs : List ℕ) {r : Reading} → numbers n k negative digits bs ≡ Some r → KeptReading r
unfolding numbers
numbers_kept n k negative digits [] h = gives KeptReading (integer n negative digits) (integer_kept n negative digits) h
numbers_kept n k negative digits (b ∷ bs) h = by_test KeptReading (is_digit b) (λ t g. numbers_kept n k negative (digits ++ b ∷ []) bs g) (λ t g. lack_kept k digits (b ∷ bs) g) h

-- texts and characters
abbrev Small : Literal → Type 0
Small (TextOf v) = Unit {0}
Small Char = Unit {0}
Small (CharOf b) = b < 256

small_byte : (h : Literal) (b : ℕ) → Small h → b < 256 → Small (with_byte h b)
small_byte (TextOf v) b s l = tt
small_byte Char b s l = l
small_byte (CharOf c) b s l = s

fit_byte : (h : Literal) (b : ℕ) → Small h → is_fit h b ≡ true → Small (with_byte h b)
fit_byte (TextOf v) b s l = tt
fit_byte Char b s l = let w : b < 128 = below_is b 128 (split_and (nat_le 32 b) (nat_lt b 128) l).1 in omega arith
fit_byte (CharOf c) b s l = s

closed_kept : (n : ℕ) (h : Literal) → Small h → KeptReading (closed n h)
closed_kept n (TextOf v) s = tt
closed_kept n Char s = tt
closed_kept n (CharOf b) s = s

short_small : (c : ℕ) → is_short_escape c ≡ true → short_escape c < 256
short_small c h = grind (arith, nat_tests)

mutual
  unfolding literal

  literal_kept : (n : ℕ) (h : Literal) (k : ℕ) (bs : List ℕ) {r : Reading} → Small h → literal n h k bs ≡ Some r → KeptReading r
  literal_kept n h k [] s e = subst KeptReading (some_is e) tt
  literal_kept n h k (b ∷ bs) s e =
      by_test KeptReading (b == 34) (λ t g. only_gives KeptReading (is_nil bs) (closed n h) (closed_kept n h s) g)
      (λ t g. by_test KeptReading (b == 92 && takes h) (λ u i. escape_kept n h k bs s i)
      (λ u i. by_test KeptReading (is_fit h b) (λ v j. literal_kept n (with_byte h b) (k + 1) bs (fit_byte h b s v) j) (λ v j. only_gives KeptReading (is_nil bs) (Refused (unfit n h k b)) tt j) i) g) e

  escape_kept : (n : ℕ) (h : Literal) (k : ℕ) (bs : List ℕ) {r : Reading} → Small h → escape n h k bs ≡ Some r → KeptReading r
  escape_kept n h k [] s e = subst KeptReading (some_is e) tt
  escape_kept n h k (c ∷ bs) s e =
      by_test KeptReading (is_short_escape c) (λ t g. literal_kept n (with_byte h (short_escape c)) (k + 2) bs (small_byte h (short_escape c) s (short_small c t)) g)
      (λ t g. by_test KeptReading (is_digit c) (λ u i. second_kept n h k (c - 48) bs s i) (λ u i. only_gives KeptReading (is_nil bs) (Refused (Unsupported k lack.Escape)) tt i) g) e

  second_kept : (n : ℕ) (h : Literal) (k v : ℕ) (bs : List ℕ) {r : Reading} → Small h → second_digit n h k v bs ≡ Some r → KeptReading r
  second_kept n h k v [] s e = subst KeptReading (some_is e) tt
  second_kept n h k v (c ∷ bs) s e = by_test KeptReading (is_digit c) (λ t g. third_kept n h k (10 * v + (c - 48)) bs s g) (λ t g. absurd (none_not g)) e

  third_kept : (n : ℕ) (h : Literal) (k v : ℕ) (bs : List ℕ) {r : Reading} → Small h → third_digit n h k v bs ≡ Some r → KeptReading r
  third_kept n h k v [] s e = subst KeptReading (some_is e) tt
  third_kept n h k v (c ∷ bs) s e =
      by_test KeptReading (is_digit c)
      (λ t g. by_test KeptReading (nat_lt (10 * v + (c - 48)) 256) (λ u i. literal_kept n (with_byte h (10 * v + (c - 48))) (k + 4) bs (small_byte h (10 * v + (c - 48)) s (below_is (10 * v + (c - 48)) 256 u)) i)
      (λ u i. only_gives KeptReading (is_nil bs) (Refused (BadByte k)) tt i) g)
      (λ t g. absurd (none_not g)) e

comment_kept : (n : ℕ) (w : Before) (depth : ℕ) (bs : List ℕ) {r : Reading} → comment n w depth bs ≡ Some r → KeptReading r
unfolding comment
comment_kept n w depth [] e = subst KeptReading (some_is e) tt
comment_kept n w depth (b ∷ bs) e =
    by_test KeptReading (shuts w b && depth == 0) (λ t g. only_gives KeptReading (is_nil bs) (Good Blank) tt g) (λ t g. comment_kept n (before_behind w b) (depth_behind w depth b) bs g) e

dot_kept : (n : ℕ) (bs : List ℕ) {r : Reading} → behind_dot n bs ≡ Some r → KeptReading r
dot_kept n [] e = subst KeptReading (some_is e) tt
dot_kept n (b ∷ []) e = absurd (none_not e)
dot_kept n (b ∷ c ∷ []) e = by_test KeptReading (b == 46 && c == 46) (λ t g. gives KeptReading (Refused (Unsupported n lack.Records)) tt g) (λ t g. absurd (none_not g)) e
dot_kept n (b ∷ c ∷ d ∷ bs) e = absurd (none_not e)

-- a type variable
variable_kept : (b : ℕ) (bs : List ℕ) (r : Reading) → class b ≡ Prime → only (list_all is_name_byte bs) (is (f.TyVar (b ∷ bs))) ≡ Some r → KeptReading r
variable_kept b bs r c h = go (list_all is_name_byte bs) refl h
  where
    go : (t : Bool) → list_all is_name_byte bs ≡ t → only t (is (f.TyVar (b ∷ bs))) ≡ Some r → KeptReading r
    go false e h = absurd (none_not h)
    go true e h = gives KeptReading (is (f.TyVar (b ∷ bs))) (λ ends n. ap (λ z. expression_by ends n z b bs) c ∙ ap (λ t. only t (is (f.TyVar (b ∷ bs)))) e) h

close_kept : (ends : Bool) (b : ℕ) → KeptWord (close_form ends b)
close_kept true b = tt
close_kept false b = tt

hash_kept : (n b : ℕ) (bs : List ℕ) (r : Reading) → class b ≡ Hash → behind_hash n b bs ≡ Some r → KeptReading r
hash_kept n b [] r c h = symbols_kept n b [] r (not_dot b Hash c (λ k. cc)) (not_digit b Hash c (λ k. cc)) (λ ends m. ap (λ z. expression_by ends m z b []) c) h
hash_kept n b (d ∷ bs) r c h = by_test KeptReading (d == 34) (λ t g. literal_kept n Char (n + 2) bs tt g)
    (λ t g. symbols_kept n b (d ∷ bs) r (not_dot b Hash c (λ k. cc)) (not_digit b Hash c (λ k. cc)) (λ ends m. ap (λ z. expression_by ends m z b (d ∷ bs)) c ∙ ap (λ w. cond w (literal m Char (m + 2) bs) (symbols m b (d ∷ bs))) t) g) h

tilde_kept : (n b : ℕ) (bs : List ℕ) (r : Reading) → class b ≡ Tilde → behind_tilde n b bs ≡ Some r → KeptReading r
tilde_kept n b [] r c h = symbols_kept n b [] r (not_dot b Tilde c (λ k. cc)) (not_digit b Tilde c (λ k. cc)) (λ ends m. ap (λ z. expression_by ends m z b []) c) h
tilde_kept n b (d ∷ bs) r c h = by_test KeptReading (is_digit d) (λ t g. numbers_kept n (n + 1) true (d ∷ []) bs g)
    (λ t g. symbols_kept n b (d ∷ bs) r (not_dot b Tilde c (λ k. cc)) (not_digit b Tilde c (λ k. cc)) (λ ends m. ap (λ z. expression_by ends m z b (d ∷ bs)) c ∙ ap (λ w. cond w (numbers m (m + 1) true (d ∷ []) bs) (symbols m b (d ∷ bs))) t) g) h

by_class : (ends : Bool) (n : ℕ) (c : Class) (b : ℕ) (bs : List ℕ) (r : Reading) → class b ≡ c → expression_by ends n c b bs ≡ Some r → KeptReading r
by_class ends n Blanks b bs r c h = only_gives KeptReading (is_nil bs) (Good Blank) tt h
by_class ends n Letter b bs r c h = letter_kept n b bs r c h
by_class ends n Digit b bs r c h = numbers_kept n n false (b ∷ []) bs h
by_class ends n Tilde b bs r c h = tilde_kept n b bs r c h
by_class ends n Hash b bs r c h = hash_kept n b bs r c h
by_class ends n Symbol b bs r c h = symbols_kept n b bs r (not_dot b Symbol c (λ k. cc)) (not_digit b Symbol c (λ k. cc)) (λ ends m. ap (λ z. expression_by ends m z b bs) c) h
by_class ends n Quote b bs r c h = literal_kept n (TextOf []) (n + 1) bs tt h
by_class ends n Prime b bs r c h = variable_kept b bs r c h
by_class ends n Open b [] r c h = gives KeptReading (is (f.Mark (b ∷ []))) tt h
by_class ends n Open b (d ∷ bs) r c h = by_test KeptReading (d == 42) (λ t g. comment_kept n Before.Other_byte 0 bs g) (λ t g. absurd (none_not g)) h
by_class ends n Close b bs r c h = only_gives KeptReading (is_nil bs) (is (close_form ends b)) (close_kept ends b) h
by_class ends n Mark b bs r c h = only_gives KeptReading (is_nil bs) (is (f.Mark (b ∷ []))) tt h
by_class ends n Backquote b bs r c h = only_gives KeptReading (is_nil bs) (is f.QuoteFrom) tt h
by_class ends n Brace b bs r c h = only_gives KeptReading (is_nil bs) (Refused (Unsupported n lack.Records)) tt h
by_class ends n Dot b bs r c h = dot_kept n bs h
by_class ends n Other b bs r c h = only_gives KeptReading (is_nil bs) (Refused (BadByte n)) tt h

-- a piece of an expression
pub piece_kept : (ends : Bool) (n : ℕ) (p : List ℕ) (r : Reading) → expression ends n p ≡ Some r → KeptReading r
piece_kept ends n [] r h = absurd (none_not h)
piece_kept ends n (b ∷ bs) r h = by_class ends n (class b) b bs r refl h
