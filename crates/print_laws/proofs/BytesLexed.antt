-- The text of forms that fit has tokens of these forms: a piece is put in front of whatever has tokens, one lemma a kind of piece.
use Rattle.std.proofs.Common.{◌≡◌, ℕ, zero, suc, ◌+◌, ◌<◌, List, [], ◌∷◌, ◌++◌, length, Bool, true, false, ◌&&◌, ◌||◌, not, cond, Some, None, refl, ap, sym, ◌∙◌, subst, arith, append_assoc, length-append, add-one, ◌==◌}
use Rattle.std.proofs.lemmas.Bool.Decides.{nat_tests}
use Rattle.std.specs.List.{list_all}
use Rattle.sml_syntax.specs.declared.token.Token.{Token}
use Rattle.sml_syntax.specs.declared.token.TokenForm.{TokenForm}
use Rattle.sml_syntax.specs.declared.token.TokenForm.TheVariants as f
use Rattle.grammar_rules.specs.Spelling.{Reading, Good, Blank, TextByte, is, only, is_nil, is_name_byte, class, mark_class, expression, quoted, behind_caret}
use Rattle.sml_syntax.specs.ByteClasses.{is_letter}
use Rattle.grammar_rules.specs.Tokens.{Mode, Program, QuotedText, Antiquoted, reading, Longest, around_quotation, behind_token, token, with_text, Lexes, piece}
use Rattle.print_laws.specs.Spelled.{spelling, gap, spelled_token, spelled}
use Rattle.print_laws.specs.Bytes.{Before, Fresh, Behind_text, Behind_name, Shape, Outside, Quoted, Inside, mode_at, shape_around, ends_at, parens_after, Stands, is_calm, is_text, MayFollow, is_anti, Fits, fits_none, fits_outside, fits_inside, fits_quote, fits_inner_quote, fits_anti_to, fits_text, fits_anti, fits_anti_from, fits_quote_to, placed}
use Rattle.print_laws.proofs.BytesStops.{blank_stops, all_stops}

-- what is longer goes on with the first byte behind
record Longer (p rest q behind : List ℕ) : Type 0 where
  first : ℕ
  more : List ℕ
  is : q ≡ p ++ first ∷ more
  rest_is : rest ≡ first ∷ (more ++ behind)

longer : (p rest q behind : List ℕ) → p ++ rest ≡ q ++ behind → length p < length q → Longer p rest q behind
longer [] rest [] behind e l = absurd (omega arith)
longer [] rest (y ∷ q) behind e l = record { first = y; more = q; is = refl; rest_is = e }
longer (x ∷ p) rest [] behind e l = absurd (omega arith)
longer (x ∷ p) rest (y ∷ q) behind e l =
    let tails : p ++ rest ≡ q ++ behind = cc in
    let heads : y ≡ x = cc in
    let r = longer p rest q behind tails (omega arith) in
    record { first = r.first; more = r.more; is = ap (λ w. y ∷ w) r.is ∙ ap (λ z. z ∷ p ++ r.first ∷ r.more) heads; rest_is = r.rest_is }

longest : (mode : Mode) (n : ℕ) (p rest : List ℕ) (r : Reading) → reading mode n p ≡ Some r → ((c : ℕ) (more zs : List ℕ) → rest ≡ c ∷ (more ++ zs) → reading mode n (p ++ c ∷ more) ≡ None) → Longest mode n p rest r
longest mode n p rest r h k = record {
  is = h;
  most = λ q behind e l. let w = longer p rest q behind e l in ap (reading mode n) w.is ∙ k w.first w.more behind w.rest_is;
}

-- a piece of one byte
pub longest_single : (mode : Mode) (n c : ℕ) (rest : List ℕ) (r : Reading) → ((q : List ℕ) → reading mode n (c ∷ q) ≡ only (is_nil q) r) → Longest mode n (c ∷ []) rest r
longest_single mode n c rest r law = longest mode n (c ∷ []) rest r (law []) (λ b more zs e. law (b ∷ more))

-- modes of an expression
abbrev IsExpression : Mode → Bool → Type 0
IsExpression mode ends = (n : ℕ) (q : List ℕ) → reading mode n q ≡ expression ends n q

inside : (start parens : ℕ) (around : List ℕ) → IsExpression (Antiquoted start parens around) (ends_at parens)
inside start zero around n q = refl
inside start (suc parens) around n q = refl

head_is : {a b : ℕ} {xs ys : List ℕ} → a ∷ xs ≡ b ∷ ys → a ≡ b
head_is h = cc

longest_word : (mode : Mode) (ends : Bool) → IsExpression mode ends → (n : ℕ) (p rest : List ℕ) (form : TokenForm) → expression ends n p ≡ Some (is form) → Longest mode n p (32 ∷ rest) (is form)
longest_word mode ends law n p rest form h =
    longest mode n p (32 ∷ rest) (is form) (law n p ∙ h)
    (λ c more zs e. law n (p ++ c ∷ more) ∙ (ap (λ z. expression ends n (p ++ z ∷ more)) (sym (head_is e)) ∙ blank_stops ends n p more h))

blank_reads : (ends : Bool) (n : ℕ) (q : List ℕ) → expression ends n (32 ∷ q) ≡ only (is_nil q) (Good Blank)
unfolding class
blank_reads ends n q = refl

put_blank : (mode : Mode) (ends : Bool) → IsExpression mode ends → (n : ℕ) (bytes : List ℕ) (ts : List Token) → Lexes mode (n + 1) bytes ts → Lexes mode n (32 ∷ bytes) ts
put_blank mode ends law n bytes ts d = piece (32 ∷ []) bytes (longest_single mode n 32 bytes (Good Blank) (λ q. law n (32 ∷ q) ∙ blank_reads ends n q)) d

width : (n : ℕ) (p : List ℕ) → n + length (p ++ 32 ∷ []) ≡ n + length p + 1
width n p = ap (λ m. n + m) (length-append p (32 ∷ [])) ∙ assoc n (length p)
  where
    assoc : (n m : ℕ) → n + (m + 1) ≡ n + m + 1
    assoc n m = omega arith

-- a word with its blank
put_word : (mode after : Mode) (ends ends2 : Bool) → IsExpression mode ends → IsExpression after ends2 → (n : ℕ) (form : TokenForm) (bytes : List ℕ) (ts : List Token) → Stands ends form →
    behind_token mode n form ≡ after → Lexes after (n + length (spelled_token form)) bytes ts → Lexes mode n (spelled_token form ++ bytes) (token n (n + length (spelling form)) form ∷ ts)
put_word mode after ends ends2 law law2 n form bytes ts s h d =
    subst (λ g. Lexes mode n ((spelling form ++ g) ++ bytes) (token n (n + length (spelling form)) form ∷ ts)) (sym s.blank)
    (subst (λ w. Lexes mode n w (token n (n + length (spelling form)) form ∷ ts)) (sym (append_assoc (spelling form) (32 ∷ []) bytes))
    (piece (spelling form) (32 ∷ bytes) (longest_word mode ends law n (spelling form) bytes form (s.reads n))
    (subst (λ m. Lexes m (n + length (spelling form)) (32 ∷ bytes) ts) (sym h)
    (put_blank after ends2 law2 (n + length (spelling form)) bytes ts
    (subst (λ m. Lexes after m bytes ts) (width n (spelling form))
    (subst (λ g. Lexes after (n + length (spelling form ++ g)) bytes ts) s.blank d))))))

nil_not : {c : ℕ} {bs : List ℕ} → [] ≡ c ∷ bs → ⊥
nil_not h = cc

stays_outside : (n : ℕ) (form : TokenForm) → gap form ≡ 32 ∷ [] → behind_token Program n form ≡ Program
unfolding gap
stays_outside n (f.Int z) h = refl
stays_outside n (f.Char b) h = refl
stays_outside n (f.Str text) h = refl
stays_outside n (f.Name name) h = refl
stays_outside n (f.Long name) h = refl
stays_outside n (f.TyVar name) h = refl
stays_outside n (f.Mark text) h = refl
stays_outside n f.QuoteFrom h = absurd (nil_not h)
stays_outside n (f.Plain text) h = refl
stays_outside n (f.Anti name) h = refl
stays_outside n f.AntiFrom h = refl
stays_outside n f.AntiTo h = refl
stays_outside n f.QuoteTo h = refl

stays_inside : (start parens : ℕ) (around : List ℕ) (n : ℕ) (form : TokenForm) → gap form ≡ 32 ∷ [] → behind_token (Antiquoted start parens around) n form ≡ Antiquoted start (parens_after form parens) around
unfolding gap
stays_inside start parens around n (f.Int z) h = refl
stays_inside start parens around n (f.Char b) h = refl
stays_inside start parens around n (f.Str text) h = refl
stays_inside start parens around n (f.Name name) h = refl
stays_inside start parens around n (f.Long name) h = refl
stays_inside start parens around n (f.TyVar name) h = refl
stays_inside start parens around n (f.Mark text) h = refl
stays_inside start parens around n f.QuoteFrom h = absurd (nil_not h)
stays_inside start parens around n (f.Plain text) h = refl
stays_inside start parens around n (f.Anti name) h = refl
stays_inside start parens around n f.AntiFrom h = refl
stays_inside start parens around n f.AntiTo h = absurd (nil_not h)
stays_inside start parens around n f.QuoteTo h = refl

-- the marks of a quotation in an expression, which have no blank
quote_reads : (ends : Bool) (n : ℕ) (q : List ℕ) → expression ends n (96 ∷ q) ≡ only (is_nil q) (is f.QuoteFrom)
unfolding class mark_class
quote_reads ends n q = refl

anti_to_reads : (n : ℕ) (q : List ℕ) → expression true n (41 ∷ q) ≡ only (is_nil q) (is f.AntiTo)
unfolding class mark_class
anti_to_reads n q = refl

put_quote : (mode after : Mode) (ends : Bool) → IsExpression mode ends → (n : ℕ) (bytes : List ℕ) (ts : List Token) → behind_token mode n f.QuoteFrom ≡ after →
    Lexes after (n + length (spelled_token f.QuoteFrom)) bytes ts → Lexes mode n (spelled_token f.QuoteFrom ++ bytes) (token n (n + length (spelling f.QuoteFrom)) f.QuoteFrom ∷ ts)
unfolding spelling gap
put_quote mode after ends law n bytes ts h d =
    piece (96 ∷ []) bytes (longest_single mode n 96 bytes (is f.QuoteFrom) (λ q. law n (96 ∷ q) ∙ quote_reads ends n q)) (subst (λ m. Lexes m (n + 1) bytes ts) (sym h) d)

put_anti_to : (start : ℕ) (around : List ℕ) (n : ℕ) (bytes : List ℕ) (ts : List Token) → Lexes (QuotedText start around) (n + length (spelled_token f.AntiTo)) bytes ts →
    Lexes (Antiquoted start zero around) n (spelled_token f.AntiTo ++ bytes) (token n (n + length (spelling f.AntiTo)) f.AntiTo ∷ ts)
unfolding spelling gap
put_anti_to start around n bytes ts d = piece (41 ∷ []) bytes (longest_single (Antiquoted start zero around) n 41 bytes (is f.AntiTo) (λ q. anti_to_reads n q)) d

-- in the text of a quotation
put_quote_to : (start : ℕ) (around : List ℕ) (n : ℕ) (bytes : List ℕ) (ts : List Token) → Lexes (mode_at start (shape_around around)) (n + length (spelled_token f.QuoteTo)) bytes ts →
    Lexes (QuotedText start around) n (spelled_token f.QuoteTo ++ bytes) (token n (n + length (spelling f.QuoteTo)) f.QuoteTo ∷ ts)
unfolding spelling gap
put_quote_to start around n bytes ts d =
    piece (96 ∷ []) (32 ∷ bytes) (longest_single (QuotedText start around) n 96 (32 ∷ bytes) (is f.QuoteTo) (λ q. refl)) (go around (subst (λ m. Lexes (mode_at start (shape_around around)) m bytes ts) (two n) d))
  where
    two : (n : ℕ) → n + 2 ≡ n + 1 + 1
    two n = omega arith

    go : (around : List ℕ) → Lexes (mode_at start (shape_around around)) (n + 1 + 1) bytes ts → Lexes (around_quotation start around) (n + 1) (32 ∷ bytes) ts
    go [] d = put_blank Program false (λ k q. refl) (n + 1) bytes ts d
    go (parens ∷ around) d = put_blank (Antiquoted start parens around) (ends_at parens) (inside start parens around) (n + 1) bytes ts d

put_anti_from : (start : ℕ) (around : List ℕ) (n : ℕ) (bytes : List ℕ) (ts : List Token) → Lexes (Antiquoted start zero around) (n + length (spelled_token f.AntiFrom)) bytes ts →
    Lexes (QuotedText start around) n (spelled_token f.AntiFrom ++ bytes) (token n (n + length (spelling f.AntiFrom)) f.AntiFrom ∷ ts)
unfolding spelling gap
put_anti_from start around n bytes ts d =
    piece (94 ∷ 40 ∷ []) (32 ∷ bytes) (longest (QuotedText start around) n (94 ∷ 40 ∷ []) (32 ∷ bytes) (is f.AntiFrom) refl (λ c more zs e. refl))
    (put_blank (Antiquoted start zero around) true (inside start zero around) (n + 2) bytes ts (subst (λ m. Lexes (Antiquoted start zero around) m bytes ts) (three n) d))
  where
    three : (n : ℕ) → n + 3 ≡ n + 2 + 1
    three n = omega arith

letter_no_paren : (b : ℕ) → is_letter b ≡ true → (b == 40) ≡ false
letter_no_paren b h = grind (arith, nat_tests)

and_left : (x y : Bool) → (x && y) ≡ true → x ≡ true
and_left true y h = refl
and_left false y h = h

and_right : (x y : Bool) → (x && y) ≡ true → y ≡ true
and_right true y h = h
and_right false y h = absurd (cc)

and_none : (x : Bool) → (x && false) ≡ false
and_none true = refl
and_none false = refl

anti_reads : (n : ℕ) (name : List ℕ) → is_anti name ≡ true → quoted (94 ∷ name) ≡ Some (is (f.Anti name))
anti_reads n [] h = absurd (cc)
anti_reads n (b ∷ bs) h =
    ap (λ t. cond t (only (is_nil bs) (is f.AntiFrom)) (only (is_letter b && list_all is_name_byte bs) (is (f.Anti (b ∷ bs))))) (letter_no_paren b (and_left (is_letter b) (list_all is_name_byte bs) h))
    ∙ ap (λ t. only t (is (f.Anti (b ∷ bs)))) h

anti_stops : (name : List ℕ) (c : ℕ) (more : List ℕ) → is_anti name ≡ true → is_name_byte c ≡ false → quoted (94 ∷ name ++ c ∷ more) ≡ None
anti_stops [] c more h g = absurd (cc)
anti_stops (b ∷ bs) c more h g =
    ap (λ t. cond t (only (is_nil (bs ++ c ∷ more)) (is f.AntiFrom)) (only (is_letter b && list_all is_name_byte (bs ++ c ∷ more)) (is (f.Anti (b ∷ bs ++ c ∷ more))))) (letter_no_paren b (and_left (is_letter b) (list_all is_name_byte bs) h))
    ∙ ap (λ t. only t (is (f.Anti (b ∷ bs ++ c ∷ more)))) (ap (λ t. is_letter b && t) (all_stops is_name_byte bs c more g) ∙ and_none (is_letter b))

none_behind : (p : List ℕ) → p ++ [] ≡ p
none_behind [] = refl
none_behind (x ∷ p) = ap (λ w. x ∷ w) (none_behind p)

-- `^` and a name, before a byte that makes it no longer
put_anti : (start : ℕ) (around : List ℕ) (n : ℕ) (name : List ℕ) (c : ℕ) (bytes more : List ℕ) (ts : List Token) → is_anti name ≡ true → bytes ≡ c ∷ more → is_name_byte c ≡ false →
    Lexes (QuotedText start around) (n + length (spelled_token (f.Anti name))) bytes ts → Lexes (QuotedText start around) n (spelled_token (f.Anti name) ++ bytes) (token n (n + length (spelling (f.Anti name))) (f.Anti name) ∷ ts)
unfolding spelling gap
put_anti start around n name c bytes more ts h e g d =
    subst (λ w. Lexes (QuotedText start around) n (w ++ bytes) (token n (n + length (94 ∷ name)) (f.Anti name) ∷ ts)) (sym (none_behind (94 ∷ name)))
    (piece (94 ∷ name) bytes
    (longest (QuotedText start around) n (94 ∷ name) bytes (is (f.Anti name)) (anti_reads n name h) (λ b q zs k. anti_stops name b q h (subst (λ z. is_name_byte z ≡ false) (head_is (sym e ∙ k)) g)))
    (subst (λ w. Lexes (QuotedText start around) (n + length w) bytes ts) (none_behind (94 ∷ name)) d))

-- a byte of text
calm_caret : (q : List ℕ) (c : ℕ) → is_calm (c ∷ []) ≡ true → behind_caret (c ∷ q) ≡ None
calm_caret q c h = go (c == 40) (is_letter c) h
  where
    go : (s t : Bool) → (not s && not t) ≡ true → cond s (only (is_nil q) (is f.AntiFrom)) (only (t && list_all is_name_byte q) (is (f.Anti (c ∷ q)))) ≡ None
    go true t g = absurd (cc)
    go false true g = absurd (cc)
    go false false g = refl

is_byte : (b c : ℕ) → (b == c) ≡ true → b ≡ c
is_byte b c h = grind (arith, nat_tests)

longest_text : (start : ℕ) (around : List ℕ) (n b : ℕ) (rest : List ℕ) → (b == 96) ≡ false → (not (b == 94) || is_calm rest) ≡ true → Longest (QuotedText start around) n (b ∷ []) rest (Good (TextByte b))
longest_text start around n b rest h g = go (b == 94) refl
  where
    first : (q : List ℕ) (t : Bool) → (b == 94) ≡ t → quoted (b ∷ q) ≡ cond t (behind_caret q) (only (is_nil q) (Good (TextByte b)))
    first q t e = ap (λ s. cond s (only (is_nil q) (is f.QuoteTo)) (cond (b == 94) (behind_caret q) (only (is_nil q) (Good (TextByte b))))) h ∙ ap (λ s. cond s (behind_caret q) (only (is_nil q) (Good (TextByte b)))) e

    calm : (b == 94) ≡ true → is_calm rest ≡ true
    calm e = sym (ap (λ s. not s || is_calm rest) e) ∙ g

    go : (t : Bool) → (b == 94) ≡ t → Longest (QuotedText start around) n (b ∷ []) rest (Good (TextByte b))
    go true e = longest (QuotedText start around) n (b ∷ []) rest (Good (TextByte b)) (first [] true e ∙ ap (λ z. Some (Good (TextByte z))) (sym (is_byte b 94 e)))
        (λ c more zs k. first (c ∷ more) true e ∙ calm_caret more c (subst (λ w. is_calm w ≡ true) k (calm e)))
    go false e = longest (QuotedText start around) n (b ∷ []) rest (Good (TextByte b)) (first [] false e) (λ c more zs k. first (c ∷ more) false e)

-- tokens that no text begins
abbrev NoText : List Token → Type 0
NoText ts = (n b : ℕ) → with_text n b ts ≡ token n (suc n) (f.Plain (b ∷ [])) ∷ ts

calm_more : (bs rest : List ℕ) → is_calm rest ≡ true → is_calm bs ≡ true → is_calm (bs ++ rest) ≡ true
calm_more [] rest h g = h
calm_more (b ∷ bs) rest h g = g

or_more : (s x y : Bool) → (x ≡ true → y ≡ true) → (s || x) ≡ true → (s || y) ≡ true
or_more true x y k h = refl
or_more false x y k h = k h

not_true : (x : Bool) → not x ≡ true → x ≡ false
not_true true h = absurd (cc)
not_true false h = refl

shift : (n m : ℕ) → n + suc m ≡ suc n + m
shift n m = omega arith

put_text : (start : ℕ) (around : List ℕ) (n b : ℕ) (bs bytes : List ℕ) (ts : List Token) → is_text (b ∷ bs) ≡ true → is_calm bytes ≡ true → NoText ts →
    Lexes (QuotedText start around) (n + length (b ∷ bs)) bytes ts → Lexes (QuotedText start around) n ((b ∷ bs) ++ bytes) (token n (n + length (b ∷ bs)) (f.Plain (b ∷ bs)) ∷ ts)
put_text start around n b [] bytes ts h calm lone d =
    let here : (not (b == 96) && (not (b == 94) || true)) ≡ true = and_left (not (b == 96) && (not (b == 94) || true)) true h in
    let l : Longest (QuotedText start around) n (b ∷ []) bytes (Good (TextByte b)) =
    longest_text start around n b bytes (not_true (b == 96) (and_left (not (b == 96)) (not (b == 94) || true) here)) (or_more (not (b == 94)) true (is_calm bytes) (λ k. calm) (and_right (not (b == 96)) (not (b == 94) || true) here)) in
    subst (λ us. Lexes (QuotedText start around) n (b ∷ bytes) us) (lone n b ∙ ap (λ m. token n m (f.Plain (b ∷ [])) ∷ ts) (sym (add-one n))) (piece (b ∷ []) bytes l d)
put_text start around n b (c ∷ cs) bytes ts h calm lone d =
    let here : (not (b == 96) && (not (b == 94) || is_calm (c ∷ cs))) ≡ true = and_left (not (b == 96) && (not (b == 94) || is_calm (c ∷ cs))) (is_text (c ∷ cs)) h in
    let there : is_text (c ∷ cs) ≡ true = and_right (not (b == 96) && (not (b == 94) || is_calm (c ∷ cs))) (is_text (c ∷ cs)) h in
    let l : Longest (QuotedText start around) n (b ∷ []) ((c ∷ cs) ++ bytes) (Good (TextByte b)) =
    longest_text start around n b ((c ∷ cs) ++ bytes) (not_true (b == 96) (and_left (not (b == 96)) (not (b == 94) || is_calm (c ∷ cs)) here)) (and_right (not (b == 96)) (not (b == 94) || is_calm (c ∷ cs)) here) in
    let d1 : Lexes (QuotedText start around) (suc n + length (c ∷ cs)) bytes ts = subst (λ m. Lexes (QuotedText start around) m bytes ts) (shift n (length (c ∷ cs))) d in
    let r : Lexes (QuotedText start around) (suc n) ((c ∷ cs) ++ bytes) (token (suc n) (suc n + length (c ∷ cs)) (f.Plain (c ∷ cs)) ∷ ts) = put_text start around (suc n) c cs bytes ts there calm lone d1 in
    let r1 : Lexes (QuotedText start around) (n + 1) ((c ∷ cs) ++ bytes) (token (suc n) (suc n + length (c ∷ cs)) (f.Plain (c ∷ cs)) ∷ ts) =
    subst (λ m. Lexes (QuotedText start around) m ((c ∷ cs) ++ bytes) (token (suc n) (suc n + length (c ∷ cs)) (f.Plain (c ∷ cs)) ∷ ts)) (sym (add-one n)) r in
    subst (λ m. Lexes (QuotedText start around) n ((b ∷ c ∷ cs) ++ bytes) (token n m (f.Plain (b ∷ c ∷ cs)) ∷ ts)) (sym (shift n (length (c ∷ cs)))) (piece (b ∷ []) ((c ∷ cs) ++ bytes) l r1)

put_plain : (start : ℕ) (around : List ℕ) (n b : ℕ) (bs bytes : List ℕ) (ts : List Token) → is_text (b ∷ bs) ≡ true → is_calm bytes ≡ true → NoText ts →
    Lexes (QuotedText start around) (n + length (spelled_token (f.Plain (b ∷ bs)))) bytes ts →
    Lexes (QuotedText start around) n (spelled_token (f.Plain (b ∷ bs)) ++ bytes) (token n (n + length (spelling (f.Plain (b ∷ bs)))) (f.Plain (b ∷ bs)) ∷ ts)
unfolding spelling gap
put_plain start around n b bs bytes ts h calm lone d =
    subst (λ w. Lexes (QuotedText start around) n (w ++ bytes) (token n (n + length (b ∷ bs)) (f.Plain (b ∷ bs)) ∷ ts)) (sym (none_behind (b ∷ bs)))
    (put_text start around n b bs bytes ts h calm lone (subst (λ w. Lexes (QuotedText start around) (n + length w) bytes ts) (none_behind (b ∷ bs)) d))

-- what stands behind text, and behind `^` and a name
record BehindText (fs : List TokenForm) : Type 0 where
  calm : (rest : List ℕ) → is_calm (spelled fs ++ rest) ≡ true
  alone : (n : ℕ) (ts : List Token) → NoText (placed n fs ++ ts)

record BehindName (fs : List TokenForm) : Type 0 where
  first : ℕ
  more : List ℕ
  is : spelled fs ≡ first ∷ more
  parts : is_name_byte first ≡ false

abbrev Heads : Shape → List TokenForm → Type 0
Heads (Quoted Behind_text around) fs = BehindText fs
Heads (Quoted Behind_name around) fs = BehindName fs
Heads (Quoted Fresh around) fs = Unit {0}
Heads Outside fs = Unit {0}
Heads (Inside parens around) fs = Unit {0}

heads : {shape : Shape} {fs : List TokenForm} → Fits shape fs → Heads shape fs
unfolding spelling gap
heads fits_none = tt
heads (fits_outside form s d) = tt
heads (fits_inside parens form s d) = tt
heads (fits_quote d) = tt
heads (fits_inner_quote d) = tt
heads (fits_anti_to d) = tt
heads (fits_text {fs = fs} {before = before} {around = around} b bs m t d) = go before m
  where
    go : (before : Before) → MayFollow before b → Heads (Quoted before around) (f.Plain (b ∷ bs) ∷ fs)
    go Fresh m = tt
    go Behind_text m = absurd m
    go Behind_name m = record { first = b; more = (bs ++ []) ++ spelled fs; is = refl; parts = m }
heads (fits_anti {fs = fs} {before = before} {around = around} name t d) = go before
  where
    go : (before : Before) → Heads (Quoted before around) (f.Anti name ∷ fs)
    go Fresh = tt
    go Behind_text = record { calm = λ rest. refl; alone = λ n ts k b. refl }
    go Behind_name = record { first = 94; more = (name ++ []) ++ spelled fs; is = refl; parts = refl }
heads (fits_anti_from {fs = fs} {before = before} {around = around} d) = go before
  where
    go : (before : Before) → Heads (Quoted before around) (f.AntiFrom ∷ fs)
    go Fresh = tt
    go Behind_text = record { calm = λ rest. refl; alone = λ n ts k b. refl }
    go Behind_name = record { first = 94; more = 40 ∷ 32 ∷ spelled fs; is = refl; parts = refl }
heads (fits_quote_to {fs = fs} {before = before} {around = around} d) = go before
  where
    go : (before : Before) → Heads (Quoted before around) (f.QuoteTo ∷ fs)
    go Fresh = tt
    go Behind_text = record { calm = λ rest. refl; alone = λ n ts k b. refl }
    go Behind_name = record { first = 96; more = 32 ∷ spelled fs; is = refl; parts = refl }

-- a piece in front of the tokens of what follows
in_front : (mode after : Mode) (n : ℕ) (w : List ℕ) (t : Token) (fs : List TokenForm) (rest : List ℕ) (ts : List Token) →
    (Lexes after (n + length w) (spelled fs ++ rest) (placed (n + length w) fs ++ ts) → Lexes mode n (w ++ (spelled fs ++ rest)) (t ∷ placed (n + length w) fs ++ ts)) →
    (Lexes Program (n + length w + length (spelled fs)) rest ts → Lexes after (n + length w) (spelled fs ++ rest) (placed (n + length w) fs ++ ts)) →
    Lexes Program (n + length (w ++ spelled fs)) rest ts → Lexes mode n ((w ++ spelled fs) ++ rest) (t ∷ placed (n + length w) fs ++ ts)
in_front mode after n w t fs rest ts put ih d =
    subst (λ z. Lexes mode n z (t ∷ placed (n + length w) fs ++ ts)) (sym (append_assoc w (spelled fs) rest))
    (put (ih (subst (λ m. Lexes Program m rest ts) (ap (λ m. n + m) (length-append w (spelled fs)) ∙ assoc n (length w) (length (spelled fs))) d)))
  where
    assoc : (a b c : ℕ) → a + (b + c) ≡ a + b + c
    assoc a b c = omega arith

no_bytes : (n : ℕ) → n + 0 ≡ n
no_bytes n = omega arith

-- forms that fit, in front of what has tokens
pub lexes : {shape : Shape} {fs : List TokenForm} → Fits shape fs → (start n : ℕ) (rest : List ℕ) (ts : List Token) →
    Lexes Program (n + length (spelled fs)) rest ts → Lexes (mode_at start shape) n (spelled fs ++ rest) (placed n fs ++ ts)
lexes fits_none start n rest ts d = subst (λ m. Lexes Program m rest ts) (no_bytes n) d
lexes (fits_outside {fs = fs} form s g) start n rest ts d =
    in_front Program Program n (spelled_token form) (token n (n + length (spelling form)) form) fs rest ts
    (put_word Program Program false false (λ k q. refl) (λ k q. refl) n form (spelled fs ++ rest) (placed (n + length (spelled_token form)) fs ++ ts) s (stays_outside n form s.blank))
    (lexes g start (n + length (spelled_token form)) rest ts) d
lexes (fits_inside {fs = fs} {around = around} parens form s g) start n rest ts d =
    in_front (Antiquoted start parens around) (Antiquoted start (parens_after form parens) around) n (spelled_token form) (token n (n + length (spelling form)) form) fs rest ts
    (put_word (Antiquoted start parens around) (Antiquoted start (parens_after form parens) around) (ends_at parens) (ends_at (parens_after form parens)) (inside start parens around) (inside start (parens_after form parens) around) n form (spelled fs ++ rest) (placed (n + length (spelled_token form)) fs ++ ts) s (stays_inside start parens around n form s.blank))
    (lexes g start (n + length (spelled_token form)) rest ts) d
lexes (fits_quote {fs = fs} g) start n rest ts d =
    in_front Program (QuotedText n []) n (spelled_token f.QuoteFrom) (token n (n + length (spelling f.QuoteFrom)) f.QuoteFrom) fs rest ts
    (put_quote Program (QuotedText n []) false (λ k q. refl) n (spelled fs ++ rest) (placed (n + length (spelled_token f.QuoteFrom)) fs ++ ts) refl)
    (lexes g n (n + length (spelled_token f.QuoteFrom)) rest ts) d
lexes (fits_inner_quote {fs = fs} {parens = parens} {around = around} g) start n rest ts d =
    in_front (Antiquoted start parens around) (QuotedText start (parens ∷ around)) n (spelled_token f.QuoteFrom) (token n (n + length (spelling f.QuoteFrom)) f.QuoteFrom) fs rest ts
    (put_quote (Antiquoted start parens around) (QuotedText start (parens ∷ around)) (ends_at parens) (inside start parens around) n (spelled fs ++ rest) (placed (n + length (spelled_token f.QuoteFrom)) fs ++ ts) refl)
    (lexes g start (n + length (spelled_token f.QuoteFrom)) rest ts) d
lexes (fits_anti_to {fs = fs} {around = around} g) start n rest ts d =
    in_front (Antiquoted start zero around) (QuotedText start around) n (spelled_token f.AntiTo) (token n (n + length (spelling f.AntiTo)) f.AntiTo) fs rest ts
    (put_anti_to start around n (spelled fs ++ rest) (placed (n + length (spelled_token f.AntiTo)) fs ++ ts))
    (lexes g start (n + length (spelled_token f.AntiTo)) rest ts) d
lexes (fits_text {fs = fs} {around = around} b bs m t g) start n rest ts d =
    let h : BehindText fs = heads g in
    in_front (QuotedText start around) (QuotedText start around) n (spelled_token (f.Plain (b ∷ bs))) (token n (n + length (spelling (f.Plain (b ∷ bs)))) (f.Plain (b ∷ bs))) fs rest ts
    (put_plain start around n b bs (spelled fs ++ rest) (placed (n + length (spelled_token (f.Plain (b ∷ bs)))) fs ++ ts) t (h.calm rest) (h.alone (n + length (spelled_token (f.Plain (b ∷ bs)))) ts))
    (lexes g start (n + length (spelled_token (f.Plain (b ∷ bs)))) rest ts) d
lexes (fits_anti {fs = fs} {around = around} name t g) start n rest ts d =
    let h : BehindName fs = heads g in
    in_front (QuotedText start around) (QuotedText start around) n (spelled_token (f.Anti name)) (token n (n + length (spelling (f.Anti name))) (f.Anti name)) fs rest ts
    (put_anti start around n name h.first (spelled fs ++ rest) (h.more ++ rest) (placed (n + length (spelled_token (f.Anti name))) fs ++ ts) t (ap (λ w. w ++ rest) h.is) h.parts)
    (lexes g start (n + length (spelled_token (f.Anti name))) rest ts) d
lexes (fits_anti_from {fs = fs} {around = around} g) start n rest ts d =
    in_front (QuotedText start around) (Antiquoted start zero around) n (spelled_token f.AntiFrom) (token n (n + length (spelling f.AntiFrom)) f.AntiFrom) fs rest ts
    (put_anti_from start around n (spelled fs ++ rest) (placed (n + length (spelled_token f.AntiFrom)) fs ++ ts))
    (lexes g start (n + length (spelled_token f.AntiFrom)) rest ts) d
lexes (fits_quote_to {fs = fs} {around = around} g) start n rest ts d =
    in_front (QuotedText start around) (mode_at start (shape_around around)) n (spelled_token f.QuoteTo) (token n (n + length (spelling f.QuoteTo)) f.QuoteTo) fs rest ts
    (put_quote_to start around n (spelled fs ++ rest) (placed (n + length (spelled_token f.QuoteTo)) fs ++ ts))
    (lexes g start (n + length (spelled_token f.QuoteTo)) rest ts) d
