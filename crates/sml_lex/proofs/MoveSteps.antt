-- The lexer's moves: a piece of an expression, and the text of a quotation with the token behind it.
use Rattle.std.proofs.Common.{◌≡◌, ◌≢◌, ◌⊎◌, inl, inr, ℕ, zero, suc, ◌+◌, ◌-◌, ◌<◌, ◌≤◌, List, [], ◌∷◌, ◌++◌, length, drop, get_or, Bool, true, false, ◌&&◌, ◌||◌, not, cond, Option, Some, None, Result, Ok, Err, IfOk, refl, ap, sym, ◌∙◌, subst, append_assoc, length-append, length-drop, add-one, arith, ◌==◌}
use Rattle.std.proofs.lemmas.Bool.Decides.{nat_tests, leb_tells}
use Rattle.std.proofs.Math.Seq.{drop-cons, drop-append_seam}
use Rattle.std.proofs.lemmas.List.{drop_all, drop-drop}
use Rattle.std.specs.List.{list_all, slice_range}
use Rattle.sml_syntax.specs.declared.token.Token.{Token}
use Rattle.sml_syntax.specs.declared.token.TokenForm.{TokenForm}
use Rattle.sml_syntax.specs.declared.token.TokenForm.TheVariants as form
use Rattle.grammar_rules.specs.Spelling.{Reading, Good, Refused, Refusal, OpenQuote, Piece, Blank, Is, TextByte, is, is_name_byte, is_nil, only, expression, quoted, behind_caret}
use Rattle.sml_syntax.specs.ByteClasses.{is_letter}
use Rattle.grammar_rules.specs.Tokens.{Mode, Program, QuotedText, Antiquoted, reading, Longest, behind, behind_token, token, with_text, with_piece, Lexes, ends, piece, Refuses, text_open, expression_open, here, later}
use Rattle.sml_lex.specs.declared.refusal.LexRefusal.{LexRefusal}
use Rattle.sml_lex.specs.Ends.{Ends, EndsBadly}
use Rattle.sml_lex.specs.Coded.{IfRefused, RunTo}
use Rattle.sml_lex.specs.Modes.{is_in_text, ends_at_close, outermost_of}
use Rattle.sml_lex.specs.Moves.{Moves, MovesOver, IsStop, TextTo, text_none, text_stop, text_more, is_text, begins_antiquotation, ends_text}
use Rattle.sml_lex.proofs.Steps.{if_refused, slice-front, last_at, step_to, slice_first}
use Rattle.sml_lex.proofs.Runs.{run_ends_at}
use Rattle.sml_lex.proofs.Unique.{no_text_end}

head-is : {a b : ℕ} {xs ys : List ℕ} → a ∷ xs ≡ b ∷ ys → a ≡ b
head-is h = cc

tail-is : {a b : ℕ} {xs ys : List ℕ} → a ∷ xs ≡ b ∷ ys → xs ≡ ys
tail-is h = cc

-- a longer prefix goes past the piece
data Beyond (p rest q r : List ℕ) : Type 0 where
  beyond : (y : ℕ) (ys : List ℕ) → q ≡ p ++ y ∷ ys → rest ≡ y ∷ (ys ++ r) → Beyond p rest q r

longer : (p rest q r : List ℕ) → p ++ rest ≡ q ++ r → length p < length q → Beyond p rest q r
longer [] rest [] r h l = absurd (omega arith)
longer [] rest (y ∷ ys) r h l = beyond y ys refl h
longer (x ∷ p) rest [] r h l = absurd (omega arith)
longer (x ∷ p) rest (y ∷ q) r h l = go (longer p rest q r (tail-is h) (omega arith))
  where
    go : Beyond p rest q r → Beyond (x ∷ p) rest (y ∷ q) r
    go (beyond z zs e f) = beyond z zs (ap (λ w. w ∷ q) (sym (head-is h)) ∙ ap (λ w. x ∷ w) e) f

-- what ends a reading is the longest piece of a mode that reads so
longest : (mode : Mode) (A : List ℕ → Option Reading) (n : ℕ) (bs : List ℕ) (r : Reading) (to : ℕ) → ((q : List ℕ) → reading mode n q ≡ A q) → (e : Ends A n bs r to) → Longest mode n e.front e.back r
longest mode A n bs r to law e = record {
  is = law e.front ∙ e.is;
  most = λ q rest h l. past q rest (longer e.front e.back q rest h l);
}
  where
    past : (q rest : List ℕ) → Beyond e.front e.back q rest → reading mode n q ≡ None
    past q rest (beyond y ys f g) = ap (reading mode n) f ∙ (law (e.front ++ y ∷ ys) ∙ e.most y ys rest g)

reads_expression : (mode : Mode) (n : ℕ) → is_in_text mode ≡ false → (q : List ℕ) → reading mode n q ≡ expression (ends_at_close mode) n q
reads_expression Program n h q = refl
reads_expression (QuotedText start around) n h q = absurd (cc)
reads_expression (Antiquoted start zero around) n h q = refl
reads_expression (Antiquoted start (suc parens) around) n h q = refl

behind-piece : (bs p rest : List ℕ) (i m : ℕ) → drop i bs ≡ p ++ rest → m ≡ i + length p → drop m bs ≡ rest
behind-piece bs p rest i m e h = ap (λ k. drop k bs) h ∙ (sym (drop-drop (length p) i bs) ∙ (ap (drop (length p)) e ∙ drop-append_seam p rest))

-- a piece of a mode, taken at a place
module _ (mode : Mode) (A : List ℕ → Option Reading) (bs : List ℕ) (n to : ℕ) (law : (q : List ℕ) → reading mode n q ≡ A q) where
  pub lexes_piece : (x : Piece) → Ends A n (drop n bs) (Good x) to → (ts : List Token) → Lexes (behind mode n x) to (drop to bs) ts → Lexes mode n (drop n bs) (with_piece n to x ts)
  lexes_piece x e ts d =
      let d1 : Lexes (behind mode n x) to e.back ts = subst (λ w. Lexes (behind mode n x) to w ts) (behind-piece bs e.front e.back n to e.whole e.place) d in
      let d2 : Lexes (behind mode n x) (n + length e.front) e.back ts = subst (λ m. Lexes (behind mode n x) m e.back ts) e.place d1 in
      let d3 : Lexes mode n (e.front ++ e.back) (with_piece n (n + length e.front) x ts) = piece e.front e.back (longest mode A n (drop n bs) (Good x) to law e) d2 in
      let d4 : Lexes mode n (drop n bs) (with_piece n (n + length e.front) x ts) = subst (λ w. Lexes mode n w (with_piece n (n + length e.front) x ts)) (sym e.whole) d3 in
      subst (λ m. Lexes mode n (drop n bs) (with_piece n m x ts)) (sym e.place) d4

  pub refuses_later : (x : Piece) → Ends A n (drop n bs) (Good x) to → (r : Refusal) → Refuses (behind mode n x) to (drop to bs) r → Refuses mode n (drop n bs) r
  refuses_later x e r d =
      let d1 : Refuses (behind mode n x) to e.back r = subst (λ w. Refuses (behind mode n x) to w r) (behind-piece bs e.front e.back n to e.whole e.place) d in
      let d2 : Refuses (behind mode n x) (n + length e.front) e.back r = subst (λ m. Refuses (behind mode n x) m e.back r) e.place d1 in
      subst (λ w. Refuses mode n w r) (sym e.whole) (later e.front e.back (longest mode A n (drop n bs) (Good x) to law e) d2)

  pub refuses_here : (r : Refusal) → Ends A n (drop n bs) (Refused r) to → Refuses mode n (drop n bs) r
  refuses_here r e = subst (λ w. Refuses mode n w r) (sym e.whole) (here e.front e.back (longest mode A n (drop n bs) (Refused r) to law e))

some-none : {r : Reading} (o : Option Reading) → o ≡ None → o ≡ Some r → ⊥
some-none o h g = cc

-- a piece has bytes
ends_grow : (A : List ℕ → Option Reading) (bs : List ℕ) (n : ℕ) (r : Reading) (to : ℕ) → A [] ≡ None → n < length bs → Ends A n (drop n bs) r to → (n < to) × (to ≤ length bs)
ends_grow A bs n r to none l e =
    let s : length (drop n bs) ≡ length e.front + length e.back = ap length e.whole ∙ length-append e.front e.back in
    let f : 0 < length e.front = fact e.front e.is in
    let p : to ≡ n + length e.front = e.place in
    (omega arith, omega (arith, length-drop n bs))
  where
    fact : (p : List ℕ) → A p ≡ Some r → 0 < length p
    fact [] h = absurd (some-none {r = r} (A []) none h)
    fact (x ∷ p) h = omega arith

-- a blank or a comment, and a token, of an expression
module _ (mode : Mode) (bs : List ℕ) (n to : ℕ) (tokens : List Token) (out : is_in_text mode ≡ false) (l : n < length bs) where
  pub blank_moves : Ends (expression (ends_at_close mode) n) n (drop n bs) (Good Blank) to → Moves bs n mode tokens to mode tokens
  blank_moves e =
      let g : (n < to) × (to ≤ length bs) = ends_grow (expression (ends_at_close mode) n) bs n (Good Blank) to refl l e in
      record {
        onward = g.0;
        within = g.1;
        whole = λ ts d. (ts, lexes_piece mode (expression (ends_at_close mode) n) bs n to (reads_expression mode n out) Blank e ts d, refl);
        refused = λ r d. refuses_later mode (expression (ends_at_close mode) n) bs n to (reads_expression mode n out) Blank e r d;
      }

  pub token_moves : (f : TokenForm) (mode' : Mode) (tokens' : List Token) → Ends (expression (ends_at_close mode) n) n (drop n bs) (is f) to → mode' ≡ behind_token mode n f →
      tokens' ≡ tokens ++ token n to f ∷ [] → Moves bs n mode tokens to mode' tokens'
  token_moves f mode' tokens' e m t =
      let g : (n < to) × (to ≤ length bs) = ends_grow (expression (ends_at_close mode) n) bs n (is f) to refl l e in
      record {
        onward = g.0;
        within = g.1;
        whole = λ ts d. (
          token n to f ∷ ts,
          lexes_piece mode (expression (ends_at_close mode) n) bs n to (reads_expression mode n out) (Is f) e ts (subst (λ z. Lexes z to (drop to bs) ts) m d),
          sym (append_assoc tokens (token n to f ∷ []) ts) ∙ ap (λ w. w ++ ts) (sym t),
        );
        refused = λ r d. refuses_later mode (expression (ends_at_close mode) n) bs n to (reads_expression mode n out) (Is f) e r (subst (λ z. Refuses z to (drop to bs) r) m d);
      }

  pub refused_moves : (o : Option Refusal) → IfRefused o (EndsBadly (expression (ends_at_close mode) n) n (drop n bs)) → IfRefused o (Refuses mode n (drop n bs))
  refused_moves o h = if_refused o (EndsBadly (expression (ends_at_close mode) n) n (drop n bs)) (Refuses mode n (drop n bs))
      (λ r d. refuses_here mode (expression (ends_at_close mode) n) bs n d.0 (reads_expression mode n out) r d.1) h

-- Text

pub text_goes : (bs : List ℕ) (i m : ℕ) → i < length bs → is_text (get_or bs i 0) (drop (i + 1) bs) ≡ true → TextTo (i + 1) (drop (i + 1) bs) m → TextTo i (drop i bs) m
text_goes bs i m h t r =
    let t2 : is_text (get_or bs i 0) (drop (suc i) bs) ≡ true = ap (λ k. is_text (get_or bs i 0) (drop k bs)) (sym (add-one i)) ∙ t in
    subst (λ w. TextTo i w m) (sym (drop-cons bs i 0 h)) (text_more t2 (subst (λ n. TextTo n (drop n bs) m) (add-one i) r))

pub text_halts : (bs : List ℕ) (i : ℕ) → i < length bs → is_text (get_or bs i 0) (drop (i + 1) bs) ≡ false → TextTo i (drop i bs) i
text_halts bs i h t =
    let t2 : is_text (get_or bs i 0) (drop (suc i) bs) ≡ false = ap (λ k. is_text (get_or bs i 0) (drop k bs)) (sym (add-one i)) ∙ t in
    subst (λ w. TextTo i w i) (sym (drop-cons bs i 0 h)) (text_stop t2)

pub text_over : (bs : List ℕ) (i : ℕ) → length bs ≤ i → TextTo i (drop i bs) i
text_over bs i h = subst (λ w. TextTo i w i) (sym (drop_all i bs h)) text_none

-- bytes of text, before what follows them
data Texts : List ℕ → List ℕ → Type 0 where
  no_text : {ys : List ℕ} → Texts [] ys
  a_byte : {b : ℕ} {xs ys : List ℕ} → is_text b (xs ++ ys) ≡ true → Texts xs ys → Texts (b ∷ xs) ys

-- a run of text, as a list
record IsTexts (n m : ℕ) (bs : List ℕ) : Type 0 where
  xs : List ℕ
  ys : List ℕ
  whole : bs ≡ xs ++ ys
  all : Texts xs ys
  stops : (y : ℕ) (zs : List ℕ) → ys ≡ y ∷ zs → is_text y zs ≡ false
  place : m ≡ n + length xs

none-behind : (n : ℕ) → n ≡ n + 0
none-behind n = omega arith

shift : (n l : ℕ) → suc n + l ≡ n + suc l
shift n l = omega arith

nil-cons : {y : ℕ} {ys : List ℕ} → [] ≡ y ∷ ys → ⊥
nil-cons h = cc

text-split : {n m : ℕ} {bs : List ℕ} → TextTo n bs m → IsTexts n m bs
text-split (text_none {n = n}) = record { xs = []; ys = []; whole = refl; all = no_text; stops = λ y zs h. absurd (nil-cons h); place = none-behind n }
text-split (text_stop {n = n} {b = b} {bs = bs} h) =
    record { xs = []; ys = b ∷ bs; whole = refl; all = no_text; stops = λ y zs e. subst (λ w. is_text w zs ≡ false) (head-is e) (subst (λ w. is_text b w ≡ false) (tail-is e) h); place = none-behind n }
text-split (text_more {n = n} {m = m} {b = b} {bs = bs} h r) =
    let w : IsTexts (suc n) m bs = text-split r in
    record { xs = b ∷ w.xs; ys = w.ys; whole = ap (λ z. b ∷ z) w.whole; all = a_byte (subst (λ z. is_text b z ≡ true) w.whole h) w.all; stops = w.stops; place = w.place ∙ shift n (length w.xs) }

and_left : (x y : Bool) → (x && y) ≡ true → x ≡ true
and_left true y h = refl
and_left false y h = h

and_right : (x y : Bool) → (x && y) ≡ true → y ≡ true
and_right true y h = h
and_right false y h = absurd (cc)

not-true : (x : Bool) → not x ≡ true → x ≡ false
not-true true h = absurd (cc)
not-true false h = refl

is-94 : (b : ℕ) → (b == 94) ≡ true → b ≡ 94
is-94 b h = grind (arith, nat_tests)

or_false_left : (x y : Bool) → (x || y) ≡ false → x ≡ false
or_false_left true y h = h
or_false_left false y h = refl

or_false_right : (x y : Bool) → (x || y) ≡ false → y ≡ false
or_false_right true y h = absurd (cc)
or_false_right false y h = h

-- a byte of text is a piece, and none is longer there
byte_longest : (start n b : ℕ) (around rest : List ℕ) → is_text b rest ≡ true → Longest (QuotedText start around) n (b ∷ []) rest (Good (TextByte b))
byte_longest start n b around rest h = record {
  is = one (b == 94) refl;
  most = λ q more e l. past q more (longer (b ∷ []) rest q more e l);
}
  where
    no-quote : (b == 96) ≡ false
    no-quote = not-true (b == 96) (and_left (not (b == 96)) (not (b == 94) || not (begins_antiquotation rest)) h)

    one : (t : Bool) → (b == 94) ≡ t → quoted (b ∷ []) ≡ Some (Good (TextByte b))
    one true e = ap (λ w. cond w (only true (is form.QuoteTo)) (cond (b == 94) (Some (Good (TextByte 94))) (only true (Good (TextByte b))))) no-quote
        ∙ (ap (λ w. cond w (Some (Good (TextByte 94))) (only true (Good (TextByte b)))) e ∙ ap (λ z. Some (Good (TextByte z))) (sym (is-94 b e)))
    one false e = ap (λ w. cond w (only true (is form.QuoteTo)) (cond (b == 94) (Some (Good (TextByte 94))) (only true (Good (TextByte b))))) no-quote
        ∙ ap (λ w. cond w (Some (Good (TextByte 94))) (only true (Good (TextByte b)))) e

    or-not : (t s : Bool) → t ≡ true → (not t || not s) ≡ true → s ≡ false
    or-not true true e f = absurd (cc)
    or-not true false e f = refl
    or-not false s e f = absurd (cc)

    dead : (y : ℕ) (ys more : List ℕ) (t : Bool) → (b == 94) ≡ t → rest ≡ y ∷ (ys ++ more) → quoted (b ∷ y ∷ ys) ≡ None
    dead y ys more true e g =
        let s : begins_antiquotation rest ≡ false = or-not (b == 94) (begins_antiquotation rest) e (and_right (not (b == 96)) (not (b == 94) || not (begins_antiquotation rest)) h) in
        let u : (y == 40 || is_letter y) ≡ false = sym (ap begins_antiquotation g) ∙ s in
        ap (λ w. cond w (only false (is form.QuoteTo)) (cond (b == 94) (behind_caret (y ∷ ys)) (only false (Good (TextByte b))))) no-quote
        ∙ (ap (λ w. cond w (behind_caret (y ∷ ys)) (only false (Good (TextByte b)))) e
        ∙ (ap (λ w. cond w (only (is_nil ys) (is form.AntiFrom)) (only (is_letter y && list_all is_name_byte ys) (is (form.Anti (y ∷ ys))))) (or_false_left (y == 40) (is_letter y) u)
        ∙ ap (λ w. only (w && list_all is_name_byte ys) (is (form.Anti (y ∷ ys)))) (or_false_right (y == 40) (is_letter y) u)))
    dead y ys more false e g =
        ap (λ w. cond w (only false (is form.QuoteTo)) (cond (b == 94) (behind_caret (y ∷ ys)) (only false (Good (TextByte b))))) no-quote
        ∙ ap (λ w. cond w (behind_caret (y ∷ ys)) (only false (Good (TextByte b)))) e

    past : (q more : List ℕ) → Beyond (b ∷ []) rest q more → quoted q ≡ None
    past q more (beyond y ys f g) = ap quoted f ∙ dead y ys more (b == 94) refl g

-- tokens before which text is a token of its own
Apart : List Token → Type 0
Apart ts = (n b : ℕ) → with_text n b ts ≡ token n (suc n) (form.Plain (b ∷ [])) ∷ ts

next-place : (n : ℕ) → n + 1 ≡ suc n
next-place n = omega arith

lexes_text : (start : ℕ) (around xs ys : List ℕ) (n m x : ℕ) (ts : List Token) → Texts (x ∷ xs) ys → m ≡ n + length (x ∷ xs) → Apart ts → Lexes (QuotedText start around) m ys ts →
    Lexes (QuotedText start around) n ((x ∷ xs) ++ ys) (token n m (form.Plain (x ∷ xs)) ∷ ts)
unfolding Apart
lexes_text start around [] ys n m x ts (a_byte h d) e apart lexes =
    let m-is : m ≡ n + 1 = e in
    let l1 : Lexes (QuotedText start around) (n + 1) ys ts = subst (λ k. Lexes (QuotedText start around) k ys ts) m-is lexes in
    let l2 : Lexes (QuotedText start around) n (x ∷ ys) (with_text n x ts) = piece (x ∷ []) ys (byte_longest start n x around ys h) l1 in
    let l3 : Lexes (QuotedText start around) n (x ∷ ys) (token n (suc n) (form.Plain (x ∷ [])) ∷ ts) = subst (λ w. Lexes (QuotedText start around) n (x ∷ ys) w) (apart n x) l2 in
    subst (λ k. Lexes (QuotedText start around) n (x ∷ ys) (token n k (form.Plain (x ∷ [])) ∷ ts)) (sym (m-is ∙ next-place n)) l3
lexes_text start around (y ∷ xs) ys n m x ts (a_byte h d) e apart lexes =
    let ih : Lexes (QuotedText start around) (n + 1) ((y ∷ xs) ++ ys) (token (n + 1) m (form.Plain (y ∷ xs)) ∷ ts) =
    lexes_text start around xs ys (n + 1) m y ts d (e ∙ further n (length xs)) apart lexes in
    piece (x ∷ []) ((y ∷ xs) ++ ys) (byte_longest start n x around ((y ∷ xs) ++ ys) h) ih
  where
    further : (n l : ℕ) → n + suc (suc l) ≡ n + 1 + suc l
    further n l = omega arith

refuses_text : (start : ℕ) (around xs ys : List ℕ) (n m : ℕ) (r : Refusal) → Texts xs ys → m ≡ n + length xs → Refuses (QuotedText start around) m ys r → Refuses (QuotedText start around) n (xs ++ ys) r
refuses_text start around [] ys n m r no_text e d = subst (λ k. Refuses (QuotedText start around) k ys r) (e ∙ sym (none-behind n)) d
refuses_text start around (x ∷ xs) ys n m r (a_byte h t) e d =
    later (x ∷ []) (xs ++ ys) (byte_longest start n x around (xs ++ ys) h) (refuses_text start around xs ys (n + 1) m r t (e ∙ further n (length xs)) d)
  where
    further : (n l : ℕ) → n + suc l ≡ n + 1 + l
    further n l = omega arith

stop_apart : (n m : ℕ) (f : TokenForm) (ts : List Token) → ends_text f ≡ true → Apart (token n m f ∷ ts)
unfolding Apart
stop_apart n m (form.Int z) ts h = absurd (cc)
stop_apart n m (form.Char b) ts h = absurd (cc)
stop_apart n m (form.Str t) ts h = absurd (cc)
stop_apart n m (form.Name t) ts h = absurd (cc)
stop_apart n m (form.Long t) ts h = absurd (cc)
stop_apart n m (form.TyVar t) ts h = absurd (cc)
stop_apart n m (form.Mark t) ts h = absurd (cc)
stop_apart n m form.QuoteFrom ts h = absurd (cc)
stop_apart n m (form.Plain t) ts h = absurd (cc)
stop_apart n m (form.Anti t) ts h = λ k b. refl
stop_apart n m form.AntiFrom ts h = λ k b. refl
stop_apart n m form.AntiTo ts h = absurd (cc)
stop_apart n m form.QuoteTo ts h = λ k b. refl

-- the text of a quotation from n to a stop
module _ (start : ℕ) (around : List ℕ) (bs : List ℕ) (n stop : ℕ) (tokens : List Token) (run : TextTo n (drop n bs) stop) (inside : stop ≤ length bs) where
  pub later_text : (r : Refusal) → Refuses (QuotedText start around) stop (drop stop bs) r → Refuses (QuotedText start around) n (drop n bs) r
  later_text r d =
      let w : IsTexts n stop (drop n bs) = text-split run in
      subst (λ z. Refuses (QuotedText start around) n z r) (sym w.whole)
      (refuses_text start around w.xs w.ys n stop r w.all w.place (subst (λ z. Refuses (QuotedText start around) stop z r) (behind-piece bs w.xs w.ys n stop w.whole w.place) d))

  pub end_moves : n < length bs → stop ≡ length bs → Moves bs n (QuotedText start around) tokens stop (QuotedText start around) tokens
  end_moves l e = record {
    onward = omega arith;
    within = inside;
    whole = λ ts d. absurd (no_text_end d (drop_all stop bs (omega arith)));
    refused = λ r d. later_text r d;
  }

  pub stop_moves : (f : TokenForm) (to : ℕ) (mode' : Mode) (tokens' : List Token) → n ≡ stop → stop < length bs → IsStop bs stop f to → mode' ≡ behind_token (QuotedText start around) stop f → tokens' ≡ tokens ++ token stop to f ∷ [] →
      Moves bs n (QuotedText start around) tokens to mode' tokens'
  stop_moves f to mode' tokens' same l s m t =
      let g : (stop < to) × (to ≤ length bs) = ends_grow quoted bs stop (is f) to refl l s.ends in
      record {
        onward = omega arith;
        within = g.1;
        whole = λ ts d. (
          token stop to f ∷ ts,
          subst (λ k. Lexes (QuotedText start around) k (drop k bs) (token stop to f ∷ ts)) (sym same)
              (lexes_piece (QuotedText start around) quoted bs stop to (λ q. refl) (Is f) s.ends ts (subst (λ z. Lexes z to (drop to bs) ts) m d)),
          sym (append_assoc tokens (token stop to f ∷ []) ts) ∙ ap (λ w. w ++ ts) (sym t),
        );
        refused = λ r d. later_text r (refuses_later (QuotedText start around) quoted bs stop to (λ q. refl) (Is f) s.ends r (subst (λ z. Refuses z to (drop to bs) r) m d));
      }

  pub text_moves : (text : List ℕ) (f : TokenForm) (to : ℕ) (mode' : Mode) (plain tokens' : List Token) → n < stop → stop < length bs → text ≡ slice_range bs n stop → plain ≡ tokens ++ token n stop (form.Plain text) ∷ [] →
      IsStop bs stop f to → mode' ≡ behind_token (QuotedText start around) stop f → tokens' ≡ plain ++ token stop to f ∷ [] → Moves bs n (QuotedText start around) tokens to mode' tokens'
  text_moves text f to mode' plain tokens' h l text-is plain-is s m t =
      let g : (stop < to) × (to ≤ length bs) = ends_grow quoted bs stop (is f) to refl l s.ends in
      record {
        onward = omega arith;
        within = g.1;
        whole = λ ts d. (token n stop (form.Plain text) ∷ token stop to f ∷ ts, lexed ts (subst (λ z. Lexes z to (drop to bs) ts) m d), regroup ts);
        refused = λ r d. later_text r (refuses_later (QuotedText start around) quoted bs stop to (λ q. refl) (Is f) s.ends r (subst (λ z. Refuses z to (drop to bs) r) m d));
      }
    where
      regroup : (ts : List Token) → tokens ++ (token n stop (form.Plain text) ∷ token stop to f ∷ ts) ≡ tokens' ++ ts
      regroup ts =
          sym (append_assoc tokens (token n stop (form.Plain text) ∷ []) (token stop to f ∷ ts))
          ∙ (ap (λ w. w ++ (token stop to f ∷ ts)) (sym plain-is) ∙ (sym (append_assoc plain (token stop to f ∷ []) ts) ∙ ap (λ w. w ++ ts) (sym t)))

      full : (n m : ℕ) → n < m → m ≡ n + 0 → ⊥
      full n m h e = omega arith

      go : (ts : List Token) → (xs ys : List ℕ) → Texts xs ys → stop ≡ n + length xs → Lexes (QuotedText start around) stop ys (token stop to f ∷ ts) → Lexes (QuotedText start around) n (xs ++ ys) (token n stop (form.Plain xs) ∷ token stop to f ∷ ts)
      go ts [] ys t2 e d = absurd (full n stop h e)
      go ts (x ∷ xs) ys t2 e d = lexes_text start around xs ys n stop x (token stop to f ∷ ts) t2 e (stop_apart stop to f ts s.stops) d

      lexed : (ts : List Token) → Lexes (behind_token (QuotedText start around) stop f) to (drop to bs) ts → Lexes (QuotedText start around) n (drop n bs) (token n stop (form.Plain text) ∷ token stop to f ∷ ts)
      lexed ts d =
          let w : IsTexts n stop (drop n bs) = text-split run in
          let d1 : Lexes (QuotedText start around) stop (drop stop bs) (token stop to f ∷ ts) = lexes_piece (QuotedText start around) quoted bs stop to (λ q. refl) (Is f) s.ends ts d in
          let d2 : Lexes (QuotedText start around) stop w.ys (token stop to f ∷ ts) = subst (λ z. Lexes (QuotedText start around) stop z (token stop to f ∷ ts)) (behind-piece bs w.xs w.ys n stop w.whole w.place) d1 in
          let d3 : Lexes (QuotedText start around) n (w.xs ++ w.ys) (token n stop (form.Plain w.xs) ∷ token stop to f ∷ ts) = go ts w.xs w.ys w.all w.place d2 in
          let x-is : w.xs ≡ text = sym (text-is ∙ slice-front bs w.xs w.ys n stop w.whole w.place) in
          subst (λ z. Lexes (QuotedText start around) n (drop n bs) (token n stop (form.Plain z) ∷ token stop to f ∷ ts)) x-is
          (subst (λ z. Lexes (QuotedText start around) n z (token n stop (form.Plain w.xs) ∷ token stop to f ∷ ts)) (sym w.whole) d3)

-- what stands at the end of a run of text
pub stop_here : (bs : List ℕ) (n stop : ℕ) → TextTo n (drop n bs) stop → stop < length bs → is_text (get_or bs stop 0) (drop (stop + 1) bs) ≡ false
stop_here bs n stop run l =
    let w : IsTexts n stop (drop n bs) = text-split run in
    w.stops (get_or bs stop 0) (drop (stop + 1) bs)
    (sym (behind-piece bs w.xs w.ys n stop w.whole w.place) ∙ (drop-cons bs stop 0 l ∙ ap (λ k. get_or bs stop 0 ∷ drop k bs) (sym (add-one stop))))

-- the mode of a text, by its test
pub data InText : Mode → Type 0 where
  in_text : (start : ℕ) (around : List ℕ) → InText (QuotedText start around)

pub text_mode : (mode : Mode) → is_in_text mode ≡ true → InText mode
text_mode Program h = absurd (cc)
text_mode (QuotedText start around) h = in_text start around
text_mode (Antiquoted start parens around) h = absurd (cc)

-- The tokens that end a run of text

caret-is : (b : ℕ) (bs : List ℕ) → is_text b bs ≡ false → b ≢ 96 → (b ≡ 94) × (begins_antiquotation bs ≡ true)
caret-is b bs h n =
    let e : (b == 96) ≡ false = grind (arith, nat_tests) in
    let f : (not (b == 94) || not (begins_antiquotation bs)) ≡ false = sym (ap (λ t. not t && (not (b == 94) || not (begins_antiquotation bs))) e) ∙ h in
    (is-94 b (not-false (b == 94) (or_false_left (not (b == 94)) (not (begins_antiquotation bs)) f)), not-false (begins_antiquotation bs) (or_false_right (not (b == 94)) (not (begins_antiquotation bs)) f))
  where
    not-false : (x : Bool) → not x ≡ false → x ≡ true
    not-false true h = refl
    not-false false h = absurd (cc)

begins-within : (bs : List ℕ) (i : ℕ) → begins_antiquotation (drop i bs) ≡ true → i < length bs
begins-within bs i h = elim (leb_tells (length bs) i) [
  | inl w ↦ let e : false ≡ true = sym (ap begins_antiquotation (drop_all i bs w.1)) ∙ h in absurd (cc)
  | inr w ↦ w.1
]

or-right : (x y : Bool) → x ≡ false → (x || y) ≡ true → y ≡ true
or-right true y e h = absurd (cc)
or-right false y e h = h

module _ (bs : List ℕ) (i : ℕ) (l : i < length bs) where
  pub stop_quote : get_or bs i 0 ≡ 96 → IsStop bs i form.QuoteTo (i + 1)
  stop_quote e = record { ends = last_at quoted bs i (is form.QuoteTo) l (λ q. ap (λ b. quoted (b ∷ q)) e); stops = refl }

  pub stop_paren : is_text (get_or bs i 0) (drop (i + 1) bs) ≡ false → get_or bs i 0 ≢ 96 → get_or bs (i + 1) 0 ≡ 40 → IsStop bs i form.AntiFrom (i + 2)
  stop_paren h n e =
      let c : (get_or bs i 0 ≡ 94) × (begins_antiquotation (drop (i + 1) bs) ≡ true) = caret-is (get_or bs i 0) (drop (i + 1) bs) h n in
      let l2 : i + 1 < length bs = begins-within bs (i + 1) c.1 in
      let d : Ends behind_caret (i + 1) (drop (i + 1) bs) (is form.AntiFrom) (i + 1 + 1) = last_at behind_caret bs (i + 1) (is form.AntiFrom) l2 (λ q. ap (λ b. behind_caret (b ∷ q)) e) in
      record { ends = subst (λ m. Ends quoted i (drop i bs) (is form.AntiFrom) m) (two i) (step_to quoted behind_caret bs i (i + 1) (is form.AntiFrom) (i + 1 + 1) refl l (λ q. ap (λ b. quoted (b ∷ q)) c.0) d); stops = refl }
    where
      two : (i : ℕ) → i + 1 + 1 ≡ i + 2
      two i = omega arith

  pub stop_name : (m : ℕ) (name : List ℕ) → is_text (get_or bs i 0) (drop (i + 1) bs) ≡ false → get_or bs i 0 ≢ 96 → get_or bs (i + 1) 0 ≢ 40 → i + 2 ≤ m → RunTo is_name_byte (i + 2) (drop (i + 2) bs) m →
      name ≡ slice_range bs (i + 1) m → IsStop bs i (form.Anti name) m
  stop_name m name h n ne g run name-is =
      let c : (get_or bs i 0 ≡ 94) × (begins_antiquotation (drop (i + 1) bs) ≡ true) = caret-is (get_or bs i 0) (drop (i + 1) bs) h n in
      let l2 : i + 1 < length bs = begins-within bs (i + 1) c.1 in
      let b : ℕ = get_or bs (i + 1) 0 in
      let no-paren : (b == 40) ≡ false = grind (arith, nat_tests) in
      let letter : is_letter b ≡ true = or-right (b == 40) (is_letter b) no-paren (sym (ap begins_antiquotation (drop-cons bs (i + 1) 0 l2)) ∙ c.1) in
      let law : (q : List ℕ) → behind_caret (b ∷ q) ≡ only (list_all is_name_byte q) (is (form.Anti (b ∷ q))) =
      λ q. ap (λ t. cond t (only (is_nil q) (is form.AntiFrom)) (only (is_letter b && list_all is_name_byte q) (is (form.Anti (b ∷ q))))) no-paren ∙ ap (λ t. only (t && list_all is_name_byte q) (is (form.Anti (b ∷ q)))) letter in
      let d : Ends (λ q. behind_caret (b ∷ q)) (i + 2) (drop (i + 2) bs) (is (form.Anti (b ∷ slice_range bs (i + 2) m))) m = run_ends_at (λ q. behind_caret (b ∷ q)) is_name_byte (λ q. is (form.Anti (b ∷ q))) bs (i + 2) m law run in
      let e : b ∷ slice_range bs (i + 2) m ≡ name = ap (λ k. b ∷ slice_range bs k m) (two i) ∙ (sym (slice_first bs (i + 1) m (omega arith) l2) ∙ sym name-is) in
      record {
        ends = subst (λ z. Ends quoted i (drop i bs) (is (form.Anti z)) m) e
            (step_to quoted behind_caret bs i (i + 1) (is (form.Anti (b ∷ slice_range bs (i + 2) m))) m refl l (λ q. ap (λ z. quoted (z ∷ q)) c.0)
            (step_to behind_caret (λ q. behind_caret (b ∷ q)) bs (i + 1) (i + 2) (is (form.Anti (b ∷ slice_range bs (i + 2) m))) m (two i) l2 (λ q. refl) d));
        stops = refl;
      }
    where
      two : (i : ℕ) → i + 2 ≡ i + 1 + 1
      two i = omega arith

-- the moves of a text, as the code makes them
pub quoted_end : {mode : Mode} → InText mode → (bs : List ℕ) (n stop : ℕ) (tokens : List Token) → TextTo n (drop n bs) stop → stop ≤ length bs → n < length bs → stop ≡ length bs → Moves bs n mode tokens stop mode tokens
quoted_end (in_text start around) bs n stop tokens run inside l e = end_moves start around bs n stop tokens run inside l e

pub quoted_stop : {mode : Mode} → InText mode → (bs : List ℕ) (n stop : ℕ) (tokens : List Token) → TextTo n (drop n bs) stop → stop ≤ length bs → n ≡ stop → stop < length bs →
    (x : Result ℕ LexRefusal) (mode' : Mode) (tokens' : List Token) → IfOk x (λ to. MovesOver bs stop mode tokens to mode' tokens') → IfOk x (λ to. Moves bs n mode tokens to mode' tokens')
quoted_stop (in_text start around) bs n stop tokens run inside same l (Ok to) mode' tokens' m = stop_moves start around bs n stop tokens run inside m.f to mode' tokens' same l m.stop m.mode_is m.tokens_are
quoted_stop (in_text start around) bs n stop tokens run inside same l (Err e) mode' tokens' m = m

pub quoted_text : {mode : Mode} → InText mode → (bs : List ℕ) (n stop : ℕ) (tokens : List Token) → TextTo n (drop n bs) stop → stop ≤ length bs → n < stop → stop < length bs →
    (text : List ℕ) (plain : List Token) → text ≡ slice_range bs n stop → plain ≡ tokens ++ token n stop (form.Plain text) ∷ [] →
    (x : Result ℕ LexRefusal) (mode' : Mode) (tokens' : List Token) → IfOk x (λ to. MovesOver bs stop mode plain to mode' tokens') → IfOk x (λ to. Moves bs n mode tokens to mode' tokens')
quoted_text (in_text start around) bs n stop tokens run inside h l text plain text-is plain-is (Ok to) mode' tokens' m =
    text_moves start around bs n stop tokens run inside text m.f to mode' plain tokens' h l text-is plain-is m.stop m.mode_is m.tokens_are
quoted_text (in_text start around) bs n stop tokens run inside h l text plain text-is plain-is (Err e) mode' tokens' m = m

-- where all bytes are taken, the tokens are whole or a quotation is open
pub program_end : (mode : Mode) (n : ℕ) → outermost_of mode ≡ None → Lexes mode n [] []
program_end Program n h = ends
program_end (QuotedText start around) n h = absurd (cc)
program_end (Antiquoted start parens around) n h = absurd (cc)

some-is : {a b : ℕ} → Some a ≡ Some b → a ≡ b
some-is h = cc

pub quotation_end : (mode : Mode) (n start : ℕ) → outermost_of mode ≡ Some start → Refuses mode n [] (OpenQuote start)
quotation_end Program n start h = absurd (cc)
quotation_end (QuotedText s around) n start h = subst (λ z. Refuses (QuotedText s around) n [] (OpenQuote z)) (some-is h) text_open
quotation_end (Antiquoted s parens around) n start h = subst (λ z. Refuses (Antiquoted s parens around) n [] (OpenQuote z)) (some-is h) expression_open
