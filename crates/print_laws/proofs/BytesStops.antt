-- A token of an expression goes no further than a blank behind it.
use Rattle.std.proofs.Common.{◌≡◌, ℕ, ◌+◌, ◌-◌, ◌*◌, List, [], ◌∷◌, ◌++◌, Bool, true, false, ◌&&◌, cond, Option, Some, None, refl, ap, ◌∙◌, ◌==◌, nat_lt}
use Rattle.std.specs.List.{list_all}
use Rattle.sml_syntax.specs.declared.token.TokenForm.{TokenForm}
use Rattle.sml_syntax.specs.declared.token.TokenForm.TheVariants as form
use Rattle.sml_syntax.specs.declared.token.Lack.TheVariants as lack
use Rattle.grammar_rules.specs.Spelling.{Reading, Good, Refused, Unsupported, Refusal, BadByte, Piece, Blank, is, only, is_nil, is_name_byte, is_symbol_byte, is_plain, names, next_word, numbers, number_lack, is_real, is_word, is_zero, is_hexadecimal_form, Literal, literal, escape, second_digit, third_digit, with_byte, takes, is_fit, unfit, closed, short_escape, is_short_escape, Before, comment, shuts, before_behind, depth_behind, Class, Blanks, Letter, Digit, Tilde, Hash, Symbol, Quote, Prime, Open, Close, Mark, Backquote, Brace, Dot, Other, class, expression, expression_by, symbols, behind_hash, behind_tilde, behind_dot, alone, symbol_kind, close_form, TextOf, Char}
use Rattle.sml_syntax.specs.ByteClasses.{is_letter, is_digit}

pub cond_both : (t : Bool) {x y x2 y2 : Option Reading} {r : Reading} → (x ≡ Some r → x2 ≡ None) → (y ≡ Some r → y2 ≡ None) → cond t x y ≡ Some r → cond t x2 y2 ≡ None
cond_both true f g h = f h
cond_both false f g h = g h

pub cond_never : (t : Bool) {x y : Option Reading} {r : Reading} → (x ≡ Some r → ⊥) → (y ≡ Some r → ⊥) → cond t x y ≡ Some r → ⊥
cond_never true f g h = f h
cond_never false f g h = g h

pub none_not : {r : Reading} → None ≡ Some r → ⊥
none_not h = cc

refused_not : {r : Refusal} {x : Piece} → Some (Refused r) ≡ Some (Good x) → ⊥
refused_not h = cc

only_refused : (t : Bool) (r : Refusal) {x : Piece} → only t (Refused r) ≡ Some (Good x) → ⊥
only_refused true r h = cc
only_refused false r h = cc

pub only_stops : (bs : List ℕ) (c : ℕ) (q : List ℕ) (r : Reading) → only (is_nil (bs ++ c ∷ q)) r ≡ None
only_stops [] c q r = refl
only_stops (b ∷ bs) c q r = refl

and_none : (x : Bool) → (x && false) ≡ false
and_none true = refl
and_none false = refl

pub all_stops : (test : ℕ → Bool) (bs : List ℕ) (c : ℕ) (q : List ℕ) → test c ≡ false → list_all test (bs ++ c ∷ q) ≡ false
all_stops test [] c q h = ap (λ w. w && list_all test q) h
all_stops test (b ∷ bs) c q h = ap (λ w. test b && w) (all_stops test bs c q h) ∙ and_none (test b)

mutual
  unfolding names

  pub names_stop : (n : ℕ) (before word bs q : List ℕ) {r : Reading} → names n before word bs ≡ Some r → names n before word (bs ++ 32 ∷ q) ≡ None
  names_stop n before word [] q h = refl
  names_stop n before word (b ∷ bs) q {r = r} h =
      cond_both (is_name_byte b) {r = r} (λ g. names_stop n before (word ++ b ∷ []) bs q g)
      (cond_both (b == 46 && is_plain word) (λ g. next_stop n (before ++ word ++ 46 ∷ []) bs q g) (λ g. refl)) h

  pub next_stop : (n : ℕ) (before bs q : List ℕ) {r : Reading} → next_word n before bs ≡ Some r → next_word n before (bs ++ 32 ∷ q) ≡ None
  next_stop n before [] q h = refl
  next_stop n before (b ∷ bs) q {r = r} h = cond_both (is_letter b) {r = r} (λ g. names_stop n before (b ∷ []) bs q g) (λ g. refl) h

lack_not : (k : ℕ) (digits bs : List ℕ) {x : Piece} → number_lack k digits bs ≡ Some (Good x) → ⊥
lack_not k digits bs h =
    cond_never (is_real bs) refused_not (cond_never (is_zero digits && is_word bs) refused_not (cond_never (is_zero digits && is_hexadecimal_form bs) refused_not none_not)) h

no_lack : (z : Bool) (a b : Option Reading) → cond (z && false) a (cond (z && false) b None) ≡ None
no_lack true a b = refl
no_lack false a b = refl

blank_no_lack : (k : ℕ) (digits q : List ℕ) → number_lack k digits (32 ∷ q) ≡ None
blank_no_lack k digits [] = no_lack (is_zero digits) (Some (Refused (Unsupported k lack.Words))) (Some (Refused (Unsupported k lack.Hexadecimal)))
blank_no_lack k digits (c ∷ []) = no_lack (is_zero digits) (Some (Refused (Unsupported k lack.Words))) (Some (Refused (Unsupported k lack.Hexadecimal)))
blank_no_lack k digits (c ∷ d ∷ []) = no_lack (is_zero digits) (Some (Refused (Unsupported k lack.Words))) (Some (Refused (Unsupported k lack.Hexadecimal)))
blank_no_lack k digits (c ∷ d ∷ e ∷ q) = no_lack (is_zero digits) (Some (Refused (Unsupported k lack.Words))) (Some (Refused (Unsupported k lack.Hexadecimal)))

pub numbers_stop : (n k : ℕ) (negative : Bool) (digits bs q : List ℕ) {x : Piece} → numbers n k negative digits bs ≡ Some (Good x) → numbers n k negative digits (bs ++ 32 ∷ q) ≡ None
unfolding numbers
numbers_stop n k negative digits [] q h = blank_no_lack k digits q
numbers_stop n k negative digits (b ∷ bs) q {x = x} h =
    cond_both (is_digit b) {r = Good x} (λ g. numbers_stop n k negative (digits ++ b ∷ []) bs q g) (λ g. absurd (lack_not k digits (b ∷ bs) g)) h

mutual
  unfolding literal

  pub literal_stop : (n : ℕ) (v : Literal) (k : ℕ) (bs : List ℕ) (c : ℕ) (q : List ℕ) {x : Piece} → literal n v k bs ≡ Some (Good x) → literal n v k (bs ++ c ∷ q) ≡ None
  literal_stop n v k [] c q h = absurd (refused_not h)
  literal_stop n v k (b ∷ bs) c q {x = x} h =
      cond_both (b == 34) {r = Good x} (λ g. only_stops bs c q (closed n v))
      (cond_both (b == 92 && takes v) (λ g. escape_stop n v k bs c q g)
      (cond_both (is_fit v b) (λ g. literal_stop n (with_byte v b) (k + 1) bs c q g) (λ g. only_stops bs c q (Refused (unfit n v k b))))) h

  pub escape_stop : (n : ℕ) (v : Literal) (k : ℕ) (bs : List ℕ) (c : ℕ) (q : List ℕ) {x : Piece} → escape n v k bs ≡ Some (Good x) → escape n v k (bs ++ c ∷ q) ≡ None
  escape_stop n v k [] c q h = absurd (refused_not h)
  escape_stop n v k (b ∷ bs) c q {x = x} h =
      cond_both (is_short_escape b) {r = Good x} (λ g. literal_stop n (with_byte v (short_escape b)) (k + 2) bs c q g)
      (cond_both (is_digit b) (λ g. second_stop n v k (b - 48) bs c q g) (λ g. only_stops bs c q (Refused (Unsupported k lack.Escape)))) h

  pub second_stop : (n : ℕ) (v : Literal) (k w : ℕ) (bs : List ℕ) (c : ℕ) (q : List ℕ) {x : Piece} → second_digit n v k w bs ≡ Some (Good x) → second_digit n v k w (bs ++ c ∷ q) ≡ None
  second_stop n v k w [] c q h = absurd (refused_not h)
  second_stop n v k w (b ∷ bs) c q {x = x} h = cond_both (is_digit b) {r = Good x} (λ g. third_stop n v k (10 * w + (b - 48)) bs c q g) (λ g. refl) h

  pub third_stop : (n : ℕ) (v : Literal) (k w : ℕ) (bs : List ℕ) (c : ℕ) (q : List ℕ) {x : Piece} → third_digit n v k w bs ≡ Some (Good x) → third_digit n v k w (bs ++ c ∷ q) ≡ None
  third_stop n v k w [] c q h = absurd (refused_not h)
  third_stop n v k w (b ∷ bs) c q {x = x} h =
      cond_both (is_digit b) {r = Good x} (cond_both (nat_lt (10 * w + (b - 48)) 256) (λ g. literal_stop n (with_byte v (10 * w + (b - 48))) (k + 4) bs c q g) (λ g. only_stops bs c q (Refused (BadByte k)))) (λ g. refl) h

only_blank : (t : Bool) {f : TokenForm} → only t (Good Blank) ≡ Some (is f) → ⊥
only_blank true h = cc
only_blank false h = cc

pub comment_not : (n : ℕ) (w : Before) (depth : ℕ) (bs : List ℕ) {f : TokenForm} → comment n w depth bs ≡ Some (is f) → ⊥
unfolding comment
comment_not n w depth [] h = refused_not h
comment_not n w depth (b ∷ bs) {f = f} h =
    cond_never (shuts w b && depth == 0) {r = is f} (only_blank (is_nil bs)) (λ g. comment_not n (before_behind w b) (depth_behind w depth b) bs g) h

dot_not : (n : ℕ) (bs : List ℕ) {x : Piece} → behind_dot n bs ≡ Some (Good x) → ⊥
dot_not n [] h = cc
dot_not n (b ∷ []) h = cc
dot_not n (b ∷ c ∷ []) h = cond_never (b == 46 && c == 46) refused_not none_not h
dot_not n (b ∷ c ∷ d ∷ bs) h = cc

symbols_stop : (n b : ℕ) (bs q : List ℕ) → symbols n b (bs ++ 32 ∷ q) ≡ None
symbols_stop n b bs q = ap (λ t. only t (alone n (b ∷ bs ++ 32 ∷ q) (symbol_kind (b ∷ bs ++ 32 ∷ q)))) (all_stops is_symbol_byte bs 32 q refl)

hash_stop : (n b : ℕ) (bs q : List ℕ) {x : Piece} → behind_hash n b bs ≡ Some (Good x) → behind_hash n b (bs ++ 32 ∷ q) ≡ None
hash_stop n b [] q h = symbols_stop n b [] q
hash_stop n b (c ∷ bs) q {x = x} h = cond_both (c == 34) {r = Good x} (λ g. literal_stop n Char (n + 2) bs 32 q g) (λ g. symbols_stop n b (c ∷ bs) q) h

tilde_stop : (n b : ℕ) (bs q : List ℕ) {x : Piece} → behind_tilde n b bs ≡ Some (Good x) → behind_tilde n b (bs ++ 32 ∷ q) ≡ None
tilde_stop n b [] q h = symbols_stop n b [] q
tilde_stop n b (c ∷ bs) q {x = x} h = cond_both (is_digit c) {r = Good x} (λ g. numbers_stop n (n + 1) true (c ∷ []) bs q g) (λ g. symbols_stop n b (c ∷ bs) q) h

by_class : (ends : Bool) (n : ℕ) (c : Class) (b : ℕ) (bs q : List ℕ) {f : TokenForm} → expression_by ends n c b bs ≡ Some (is f) → expression_by ends n c b (bs ++ 32 ∷ q) ≡ None
by_class ends n Blanks b bs q h = absurd (only_blank (is_nil bs) h)
by_class ends n Letter b bs q h = names_stop n [] (b ∷ []) bs q h
by_class ends n Digit b bs q h = numbers_stop n n false (b ∷ []) bs q h
by_class ends n Tilde b bs q h = tilde_stop n b bs q h
by_class ends n Hash b bs q h = hash_stop n b bs q h
by_class ends n Symbol b bs q h = symbols_stop n b bs q
by_class ends n Quote b bs q h = literal_stop n (TextOf []) (n + 1) bs 32 q h
by_class ends n Prime b bs q h = ap (λ t. only t (is (form.TyVar (b ∷ bs ++ 32 ∷ q)))) (all_stops is_name_byte bs 32 q refl)
by_class ends n Open b [] q h = refl
by_class ends n Open b (c ∷ bs) q {f = f} h = absurd (cond_never (c == 42) {r = is f} (comment_not n Before.Other_byte 0 bs) none_not h)
by_class ends n Close b bs q h = only_stops bs 32 q (is (close_form ends b))
by_class ends n Mark b bs q h = only_stops bs 32 q (is (form.Mark (b ∷ [])))
by_class ends n Backquote b bs q h = only_stops bs 32 q (is form.QuoteFrom)
by_class ends n Brace b bs q h = absurd (only_refused (is_nil bs) (Unsupported n lack.Records) h)
by_class ends n Dot b bs q h = absurd (dot_not n bs h)
by_class ends n Other b bs q h = absurd (only_refused (is_nil bs) (BadByte n) h)

pub blank_stops : (ends : Bool) (n : ℕ) (p q : List ℕ) {f : TokenForm} → expression ends n p ≡ Some (is f) → expression ends n (p ++ 32 ∷ q) ≡ None
blank_stops ends n [] q h = absurd (none_not h)
blank_stops ends n (b ∷ bs) q h = by_class ends n (class b) b bs q h
