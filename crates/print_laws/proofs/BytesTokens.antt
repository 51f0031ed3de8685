-- What is kept of the tokens of a script.
use Rattle.std.proofs.Common.{◌≡◌, inl, inr, ℕ, zero, suc, ◌+◌, ◌<◌, List, [], ◌∷◌, ◌++◌, length, Bool, true, false, ◌&&◌, ◌||◌, not, cond, Some, None, refl, ap, sym, ◌∙◌, subst, arith, append_assoc, length-append, ◌==◌}
use Rattle.std.proofs.lemmas.Bool.Decides.{nat_tests}
use Rattle.std.specs.List.{list_all}
use Rattle.sml_syntax.specs.declared.token.Token.{Token}
use Rattle.sml_syntax.specs.declared.token.TokenForm.{TokenForm}
use Rattle.sml_syntax.specs.declared.token.TokenForm.TheVariants as f
use Rattle.grammar_rules.specs.Spelling.{Reading, Good, Piece, Blank, Is, TextByte, is, only, is_nil, is_name_byte, quoted, behind_caret}
use Rattle.sml_syntax.specs.ByteClasses.{is_letter}
use Rattle.grammar_rules.specs.Tokens.{Mode, Program, QuotedText, Antiquoted, Longest, behind, token, text_at, with_text, with_piece, Lexes, ends, piece, HasTokens}
use Rattle.grammar_rules.specs.Programs.{Each}
use Rattle.print_laws.specs.ReadBack.{IsFine}
use Rattle.print_laws.specs.Bytes.{Kept, KeptName, PartsFrom, Parts, AllKept, is_text, is_calm, is_anti}
use Rattle.print_laws.proofs.BytesKept.{KeptWord, KeptPiece, piece_kept}

none_not : {r : Reading} → None ≡ Some r → ⊥
none_not h = cc

some_piece : {x y : Piece} → Some (Good x) ≡ Some (Good y) → x ≡ y
some_piece h = cc

-- pieces of the text of a quotation
data QuotedPiece : List ℕ → Piece → Type 0 where
  q_to : {p : List ℕ} → QuotedPiece p (Is f.QuoteTo)
  q_from : {p : List ℕ} → QuotedPiece p (Is f.AntiFrom)
  q_anti : (name : List ℕ) → is_anti name ≡ true → QuotedPiece (94 ∷ name) (Is (f.Anti name))
  q_text : (b : ℕ) → (b == 96) ≡ false → QuotedPiece (b ∷ []) (TextByte b)

is_byte : (b c : ℕ) → (b == c) ≡ true → b ≡ c
is_byte b c h = grind (arith, nat_tests)

only_to : (bs : List ℕ) {p : List ℕ} {x : Piece} → only (is_nil bs) (is f.QuoteTo) ≡ Some (Good x) → QuotedPiece p x
only_to [] {p = p} h = subst (QuotedPiece p) (some_piece h) q_to
only_to (b ∷ bs) h = absurd (none_not h)

only_from : (bs : List ℕ) {p : List ℕ} {x : Piece} → only (is_nil bs) (is f.AntiFrom) ≡ Some (Good x) → QuotedPiece p x
only_from [] {p = p} h = subst (QuotedPiece p) (some_piece h) q_from
only_from (b ∷ bs) h = absurd (none_not h)

only_text : (b : ℕ) (bs : List ℕ) {x : Piece} → (b == 96) ≡ false → only (is_nil bs) (Good (TextByte b)) ≡ Some (Good x) → QuotedPiece (b ∷ bs) x
only_text b [] e h = subst (QuotedPiece (b ∷ [])) (some_piece h) (q_text b e)
only_text b (c ∷ bs) e h = absurd (none_not h)

only_anti : (name : List ℕ) (t : Bool) {x : Piece} → is_anti name ≡ t → only t (is (f.Anti name)) ≡ Some (Good x) → QuotedPiece (94 ∷ name) x
only_anti name true e h = subst (QuotedPiece (94 ∷ name)) (some_piece h) (q_anti name e)
only_anti name false e h = absurd (none_not h)

caret_piece : (bs : List ℕ) {x : Piece} → behind_caret bs ≡ Some (Good x) → QuotedPiece (94 ∷ bs) x
caret_piece [] h = subst (QuotedPiece (94 ∷ [])) (some_piece h) (q_text 94 refl)
caret_piece (c ∷ cs) {x = x} h = go (c == 40) h
  where
    go : (t : Bool) → cond t (only (is_nil cs) (is f.AntiFrom)) (only (is_letter c && list_all is_name_byte cs) (is (f.Anti (c ∷ cs)))) ≡ Some (Good x) → QuotedPiece (94 ∷ c ∷ cs) x
    go true h = only_from cs h
    go false h = only_anti (c ∷ cs) (is_letter c && list_all is_name_byte cs) refl h

quoted_piece : (p : List ℕ) {x : Piece} → quoted p ≡ Some (Good x) → QuotedPiece p x
quoted_piece [] h = absurd (none_not h)
quoted_piece (b ∷ bs) {x = x} h = go (b == 96) (b == 94) refl refl h
  where
    go : (s t : Bool) → (b == 96) ≡ s → (b == 94) ≡ t → cond s (only (is_nil bs) (is f.QuoteTo)) (cond t (behind_caret bs) (only (is_nil bs) (Good (TextByte b)))) ≡ Some (Good x) → QuotedPiece (b ∷ bs) x
    go true t e g h = only_to bs h
    go false true e g h = subst (λ z. QuotedPiece (z ∷ bs) x) (sym (is_byte b 94 g)) (caret_piece bs h)
    go false false e g h = only_text b bs e h

-- the first token where text of a quotation stands
abbrev Begins : Mode → List ℕ → List Token → Type 0
Begins (QuotedText start around) bytes ts = (c : ℕ) (text : List ℕ) (t : Token) (us : List Token) → ts ≡ t ∷ us → t.form ≡ f.Plain (c ∷ text) → (more : List ℕ) × (bytes ≡ c ∷ more)
Begins Program bytes ts = Unit {0}
Begins (Antiquoted start parens around) bytes ts = Unit {0}

record Run (mode : Mode) (bytes : List ℕ) (ts : List Token) : Type 0 where
  all : AllKept ts
  first : Begins mode bytes ts

form_of : {t u : Token} {ts us : List Token} → t ∷ ts ≡ u ∷ us → t ≡ u
form_of h = cc

-- a first token that is no text
first_is : (start : ℕ) (around : List ℕ) (bytes : List ℕ) (t : Token) (ts : List Token) → ((c : ℕ) (text : List ℕ) → t.form ≡ f.Plain (c ∷ text) → ⊥) → Begins (QuotedText start around) bytes (t ∷ ts)
first_is start around bytes t ts k = λ c text u us e h. absurd (k c text (ap (λ (z : Token). z.form) (form_of e) ∙ h))

word_kept : (form : TokenForm) → KeptWord form → Kept form
word_kept (f.Plain text) h = absurd h
word_kept (f.Anti name) h = absurd h
word_kept (f.Int n) h = h
word_kept (f.Char b) h = h
word_kept (f.Str text) h = tt
word_kept (f.Name name) h = h
word_kept (f.Long name) h = h
word_kept (f.TyVar name) h = h
word_kept (f.Mark text) h = tt
word_kept f.QuoteFrom h = tt
word_kept f.AntiFrom h = tt
word_kept f.AntiTo h = tt
word_kept f.QuoteTo h = tt

free : (form : TokenForm) (ts : List Token) → ((next : TokenForm) → PartsFrom form next) → Parts form ts
free form [] k = tt
free form (t ∷ ts) k = k t.form

word_parts : (form : TokenForm) (ts : List Token) → KeptWord form → Parts form ts
word_parts (f.Plain text) ts h = absurd h
word_parts (f.Anti name) ts h = absurd h
word_parts (f.Int n) ts h = free (f.Int n) ts (λ g. tt)
word_parts (f.Char b) ts h = free (f.Char b) ts (λ g. tt)
word_parts (f.Str text) ts h = free (f.Str text) ts (λ g. tt)
word_parts (f.Name name) ts h = free (f.Name name) ts (λ g. tt)
word_parts (f.Long name) ts h = free (f.Long name) ts (λ g. tt)
word_parts (f.TyVar name) ts h = free (f.TyVar name) ts (λ g. tt)
word_parts (f.Mark text) ts h = free (f.Mark text) ts (λ g. tt)
word_parts f.QuoteFrom ts h = free f.QuoteFrom ts (λ g. tt)
word_parts f.AntiFrom ts h = free f.AntiFrom ts (λ g. tt)
word_parts f.AntiTo ts h = free f.AntiTo ts (λ g. tt)
word_parts f.QuoteTo ts h = free f.QuoteTo ts (λ g. tt)

-- in an expression
in_expression : (n m : ℕ) (x : Piece) (ts : List Token) → KeptPiece x → AllKept ts → AllKept (with_piece n m x ts)
in_expression n m Blank ts h g = g
in_expression n m (Is form) ts h g = (word_kept form h, word_parts form ts h, g)
in_expression n m (TextByte b) ts h g = absurd h

-- a byte of text
caret_stops : (c : ℕ) → behind_caret (c ∷ []) ≡ None → is_calm (c ∷ []) ≡ true
caret_stops c h = go (c == 40) (is_letter c) h
  where
    go : (s t : Bool) → cond s (Some (is f.AntiFrom)) (only (t && true) (is (f.Anti (c ∷ [])))) ≡ None → (not s && not t) ≡ true
    go true t h = cc
    go false true h = cc
    go false false h = refl

one_longer : (a b : ℕ) (more : List ℕ) → length (a ∷ []) < length (a ∷ b ∷ [])
one_longer a b more = omega arith

text_is : (b : ℕ) (text : List ℕ) → (b == 96) ≡ false → ((b == 94) ≡ true → is_calm text ≡ true) → is_text text ≡ true → is_text (b ∷ text) ≡ true
text_is b text h k g = go (b == 96) (b == 94) h k
  where
    go : (s t : Bool) → s ≡ false → (t ≡ true → is_calm text ≡ true) → ((not s && (not t || is_calm text)) && is_text text) ≡ true
    go true t h k = absurd (cc)
    go false true h k = ap (λ w. w && is_text text) (k refl) ∙ g
    go false false h k = g

calm_behind : (start n : ℕ) (around : List ℕ) (b : ℕ) (rest : List ℕ) → Longest (QuotedText start around) n (b ∷ []) rest (Good (TextByte b)) → (text : List ℕ) → ((c : ℕ) (cs : List ℕ) → text ≡ c ∷ cs → (more : List ℕ) × (rest ≡ c ∷ more)) → (b == 94) ≡ true → is_calm text ≡ true
calm_behind start n around b rest l [] k e = refl
calm_behind start n around b rest l (c ∷ cs) k e =
    let w : (more : List ℕ) × (rest ≡ c ∷ more) = k c cs refl in
    let stop : quoted (b ∷ c ∷ []) ≡ None = l.most (b ∷ c ∷ []) w.0 (ap (λ z. b ∷ z) w.1) (one_longer b c []) in
    caret_stops c (subst (λ z. quoted (z ∷ c ∷ []) ≡ None) (is_byte b 94 e) stop)

text_first : {b c : ℕ} {bs cs : List ℕ} → f.Plain (b ∷ bs) ≡ f.Plain (c ∷ cs) → b ≡ c
text_first h = cc

text_more : {bs cs : List ℕ} → f.Plain bs ≡ f.Plain cs → bs ≡ cs
text_more h = cc

begins_here : (start : ℕ) (around : List ℕ) (b : ℕ) (rest : List ℕ) (t : Token) (ts : List Token) (text : List ℕ) → t.form ≡ f.Plain (b ∷ text) → Begins (QuotedText start around) (b ∷ rest) (t ∷ ts)
begins_here start around b rest t ts text i = λ c more u us e h.
    (rest, ap (λ z. z ∷ rest) (text_first (sym i ∙ (ap (λ (z : Token). z.form) (form_of e) ∙ h))))

-- a byte goes into the text behind it, or is one alone
text_run : (start n : ℕ) (around : List ℕ) (b : ℕ) (rest : List ℕ) (ts : List Token) → (b == 96) ≡ false → Longest (QuotedText start around) n (b ∷ []) rest (Good (TextByte b)) → Run (QuotedText start around) rest ts → Run (QuotedText start around) (b ∷ rest) (with_text n b ts)
text_run start n around b rest [] h l r = record { all = (text_is b [] h (λ e. refl) refl, tt, tt); first = begins_here start around b rest (token n (suc n) (f.Plain (b ∷ []))) [] [] refl }
text_run start n around b rest (t ∷ ts) h l r = go t.form refl
  where
    alone : Run (QuotedText start around) (b ∷ rest) (token n (suc n) (f.Plain (b ∷ [])) ∷ t ∷ ts)
    alone = record { all = (text_is b [] h (λ e. refl) refl, tt, r.all); first = begins_here start around b rest (token n (suc n) (f.Plain (b ∷ []))) (t ∷ ts) [] refl }

    go : (form : TokenForm) → t.form ≡ form → Run (QuotedText start around) (b ∷ rest) (text_at n b t.span.to form t ts)
    go (f.Plain text) e = record {
      all = (text_is b text h (calm_behind start n around b rest l text (λ c cs i. r.first c cs t ts refl (e ∙ ap f.Plain i))) (subst Kept e r.all.0), free (f.Plain (b ∷ text)) ts (λ g. tt), r.all.2);
      first = begins_here start around b rest (token n t.span.to (f.Plain (b ∷ text))) ts text refl;
    }
    go form e = alone

-- `^` and a name
split_and : (x y : Bool) → (x && y) ≡ true → (x ≡ true) × (y ≡ true)
split_and true y h = (refl, h)
split_and false y h = absurd (cc)

letter_no_paren : (b : ℕ) → is_letter b ≡ true → (b == 40) ≡ false
letter_no_paren b h = grind (arith, nat_tests)

all_one_more : (bs : List ℕ) (c : ℕ) → list_all is_name_byte bs ≡ true → is_name_byte c ≡ true → list_all is_name_byte (bs ++ c ∷ []) ≡ true
all_one_more [] c h g = ap (λ t. t && true) g
all_one_more (b ∷ bs) c h g =
    let s : (is_name_byte b ≡ true) × (list_all is_name_byte bs ≡ true) = split_and (is_name_byte b) (list_all is_name_byte bs) h in
    ap (λ t. t && list_all is_name_byte (bs ++ c ∷ [])) s.0 ∙ all_one_more bs c s.1 g

anti_goes : (name : List ℕ) (c : ℕ) → is_anti name ≡ true → is_name_byte c ≡ true → quoted (94 ∷ name ++ c ∷ []) ≡ Some (is (f.Anti (name ++ c ∷ [])))
anti_goes [] c h g = absurd (cc)
anti_goes (b ∷ bs) c h g =
    let s : (is_letter b ≡ true) × (list_all is_name_byte bs ≡ true) = split_and (is_letter b) (list_all is_name_byte bs) h in
    ap (λ t. cond t (only (is_nil (bs ++ c ∷ [])) (is f.AntiFrom)) (only (is_letter b && list_all is_name_byte (bs ++ c ∷ [])) (is (f.Anti (b ∷ bs ++ c ∷ []))))) (letter_no_paren b s.0)
    ∙ (ap (λ t. only (t && list_all is_name_byte (bs ++ c ∷ [])) (is (f.Anti (b ∷ bs ++ c ∷ [])))) s.0 ∙ ap (λ t. only t (is (f.Anti (b ∷ bs ++ c ∷ [])))) (all_one_more bs c s.1 g))

name_longer : (name : List ℕ) (c : ℕ) → length (94 ∷ name) < length (94 ∷ name ++ c ∷ [])
name_longer name c = omega (arith, length-append name (c ∷ []))

anti_parts : (start n : ℕ) (around : List ℕ) (name rest : List ℕ) (ts : List Token) → is_anti name ≡ true → Longest (QuotedText start around) n (94 ∷ name) rest (is (f.Anti name)) → Run (QuotedText start around) rest ts → Parts (f.Anti name) ts
anti_parts start n around name rest [] h l r = tt
anti_parts start n around name rest (t ∷ ts) h l r = go t.form refl
  where
    stop : (c : ℕ) (more : List ℕ) → rest ≡ c ∷ more → (b : Bool) → is_name_byte c ≡ b → b ≡ false
    stop c more e false g = refl
    stop c more e true g = absurd (none_not (sym (l.most (94 ∷ name ++ c ∷ []) more (ap (λ z. 94 ∷ name ++ z) e ∙ sym (append_assoc (94 ∷ name) (c ∷ []) more)) (name_longer name c)) ∙ anti_goes name c h g))

    go : (form : TokenForm) → t.form ≡ form → PartsFrom (f.Anti name) form
    go (f.Plain []) e = tt
    go (f.Plain (c ∷ cs)) e = let w : (more : List ℕ) × (rest ≡ c ∷ more) = r.first c cs t ts refl e in stop c w.0 w.1 (is_name_byte c) refl
    go form e = tt

not_plain : {g : TokenForm} → (c : ℕ) (text : List ℕ) → g ≡ f.Plain (c ∷ text) → (P : TokenForm → Type 0) → P g → (P (f.Plain (c ∷ text)) → ⊥) → ⊥
not_plain c text h P p k = k (subst P h p)

in_text : (start n : ℕ) (around p rest : List ℕ) (x : Piece) (ts : List Token) → QuotedPiece p x → Longest (QuotedText start around) n p rest (Good x) → Run (behind (QuotedText start around) n x) rest ts → Run (QuotedText start around) (p ++ rest) (with_piece n (n + length p) x ts)
in_text start n around p rest _ ts q_to l r = record { all = (tt, free f.QuoteTo ts (λ g. tt), r.all); first = first_is start around (p ++ rest) (token n (n + length p) f.QuoteTo) ts (λ c text e. cc) }
in_text start n around p rest _ ts q_from l r = record { all = (tt, free f.AntiFrom ts (λ g. tt), r.all); first = first_is start around (p ++ rest) (token n (n + length p) f.AntiFrom) ts (λ c text e. cc) }
in_text start n around _ rest _ ts (q_anti name h) l r = record { all = (h, anti_parts start n around name rest ts h l r, r.all); first = first_is start around (94 ∷ name ++ rest) (token n (n + length (94 ∷ name)) (f.Anti name)) ts (λ c text e. cc) }
in_text start n around _ rest _ ts (q_text b h) l r = text_run start n around b rest ts h l r

runs : {mode : Mode} {n : ℕ} {bytes : List ℕ} {ts : List Token} → Lexes mode n bytes ts → Run mode bytes ts
runs ends = record { all = tt; first = tt }
runs (piece {mode = mode} {n = n} {x = x} {ts = ts} p rest l d) = go mode l (runs d)
  where
    go : (mode : Mode) → Longest mode n p rest (Good x) → Run (behind mode n x) rest ts → Run mode (p ++ rest) (with_piece n (n + length p) x ts)
    go Program l r = record { all = in_expression n (n + length p) x ts (piece_kept false n p (Good x) l.is) r.all; first = tt }
    go (QuotedText start around) l r = in_text start n around p rest x ts (quoted_piece p l.is) l r
    go (Antiquoted start zero around) l r = record { all = in_expression n (n + length p) x ts (piece_kept true n p (Good x) l.is) r.all; first = tt }
    go (Antiquoted start (suc parens) around) l r = record { all = in_expression n (n + length p) x ts (piece_kept false n p (Good x) l.is) r.all; first = tt }

-- the tokens of a script are kept
pub all_kept : {script : List ℕ} {ts : List Token} → HasTokens script ts → AllKept ts
all_kept d = (runs d).all

fine : (t : Token) → Kept t.form → IsFine t
fine t h name (inl e) = let k : KeptName false f.Name name = subst Kept e h in k.first
fine t h name (inr e) = let k : KeptName true f.Long name = subst Kept e h in k.first

pub all_fine : (ts : List Token) → AllKept ts → Each IsFine ts
all_fine [] h = tt
all_fine (t ∷ ts) h = (fine t h.0, all_fine ts h.2)
