-- Integers, texts and characters are read as they are spelled.
use Rattle.std.proofs.Common.{◌≡◌, ℕ, suc, ◌+◌, ◌-◌, ◌*◌, ◌^◌, ◌<◌, ◌≤◌, List, [], ◌∷◌, ◌++◌, length, Bool, true, false, ◌&&◌, ◌||◌, cond, Some, None, refl, ap, sym, ◌∙◌, subst, arith, append_assoc, append-nil, length-append, ◌==◌, nat_lt, nat_le}
use Rattle.std.specs.Prelude.{◌/◌, ◌%◌, decimal, flat_map, ℤ, pos, neg_ℤ}
use lib.IntN.{negsuc}
use Rattle.std.proofs.lemmas.Bool.Decides.{nat_tests}
use Rattle.std.proofs.lemmas.Fmt.{decimal_by_steps}
use Rattle.std.specs.List.{list_all}
use Rattle.sml_syntax.specs.declared.token.Lack.TheVariants as lack
use Rattle.sml_syntax.specs.declared.token.TokenForm.TheVariants as f
use Rattle.grammar_rules.specs.Spelling.{Refused, WideNumber, BadByte, Unsupported, is, only, is_nil, is_blank, class, mark_class, Digit, expression, expression_by, decimal_from, integer, numbers, number_lack, symbols, Literal, TextOf, Char, CharOf, with_byte, takes, is_fit, unfit, closed, literal, escape, second_digit, third_digit, is_short_escape, short_escape}
use Rattle.sml_syntax.specs.ByteClasses.{is_digit, is_letter}
use Rattle.print_laws.specs.Spelled.{spelling, gap, number_escape, text_byte, char_byte}
use Rattle.print_laws.specs.Bytes.{Stands, InRange}

decimal_more : (n : ℕ) (ds : List ℕ) (d : ℕ) → decimal_from n (ds ++ d ∷ []) ≡ 10 * decimal_from n ds + (d - 48)
decimal_more n [] d = refl
decimal_more n (c ∷ ds) d = decimal_more (10 * n + (c - 48)) ds d

and_true : (x y : Bool) → x ≡ true → y ≡ true → (x && y) ≡ true
and_true true y h g = g
and_true false y h g = absurd (cc)

all_more : (ds : List ℕ) (d : ℕ) → list_all is_digit ds ≡ true → is_digit d ≡ true → list_all is_digit (ds ++ d ∷ []) ≡ true
all_more [] d h g = ap (λ t. t && true) g
all_more (c ∷ ds) d h g = go (is_digit c) h (λ k. all_more ds d k g)
  where
    go : (t : Bool) → (t && list_all is_digit ds) ≡ true → (list_all is_digit ds ≡ true → list_all is_digit (ds ++ d ∷ []) ≡ true) → (t && list_all is_digit (ds ++ d ∷ [])) ≡ true
    go true h k = k h
    go false h k = absurd (cc)

record Digits (n : ℕ) (ds : List ℕ) : Type 0 where
  all : list_all is_digit ds ≡ true
  value : decimal_from 0 ds ≡ n
  some : 0 < length ds

glyph : (m : ℕ) → m < 10 → is_digit (48 + m) ≡ true
glyph m h = grind (arith, nat_tests)

ten : (n d : ℕ) → d ≡ n / 10 → 10 * d + (48 + n % 10 - 48) ≡ n
ten n d h = omega arith

digits : (n : ℕ) → n < 2 ^ 64 → Digits n (decimal n)
digits = decimal_by_steps Digits
    (λ n h. record { all = ap (λ t. t && true) (glyph n h); value = omega arith; some = omega arith })
    (λ n ds h g. record { all = all_more ds (48 + n % 10) g.all (glyph (n % 10) (omega arith)); value = decimal_more 0 ds (48 + n % 10) ∙ ten n (decimal_from 0 ds) g.value; some = simp length_more (omega arith) })
  where
    length_more : (ds : List ℕ) (d : ℕ) → length (ds ++ d ∷ []) ≡ length ds + 1
    length_more ds d = length-append ds (d ∷ [])

-- the class of a digit
pub digit_class : (b : ℕ) → is_digit b ≡ true → class b ≡ Digit
unfolding class
digit_class b h =
    let not_blank : is_blank b ≡ false = grind (arith, nat_tests) in
    let not_letter : is_letter b ≡ false = grind (arith, nat_tests) in
    rw (not_blank, not_letter, h) refl

split_and : (x y : Bool) → (x && y) ≡ true → (x ≡ true) × (y ≡ true)
split_and true y h = (refl, h)
split_and false y h = absurd (cc)

over_digits : (n k : ℕ) (negative : Bool) (taken ds : List ℕ) → list_all is_digit ds ≡ true → numbers n k negative taken ds ≡ Some (integer n negative (taken ++ ds))
unfolding numbers
over_digits n k negative taken [] h = ap (λ w. Some (integer n negative w)) (sym (append-nil taken))
over_digits n k negative taken (d ∷ ds) h =
    let s : (is_digit d ≡ true) × (list_all is_digit ds ≡ true) = split_and (is_digit d) (list_all is_digit ds) h in
    ap (λ t. cond t (numbers n k negative (taken ++ d ∷ []) ds) (number_lack k taken (d ∷ ds))) s.0
    ∙ (over_digits n k negative (taken ++ d ∷ []) ds s.1 ∙ ap (λ w. Some (integer n negative w)) (append_assoc taken (d ∷ []) ds))

below : (a b : ℕ) → a < b → nat_lt a b ≡ true
below a b h = grind (arith, nat_tests)

within : (a b : ℕ) → a ≤ b → nat_le a b ≡ true
within a b h = grind (arith, nat_tests)

natural : (ends : Bool) (n k : ℕ) (w : List ℕ) → k < 2 ^ 63 → Digits k w → expression ends n w ≡ Some (is (f.Int (pos k)))
natural ends n k [] h d = absurd (omega (arith, d.some))
natural ends n k (c ∷ cs) h d =
    let s : (is_digit c ≡ true) × (list_all is_digit cs ≡ true) = split_and (is_digit c) (list_all is_digit cs) d.all in
    ap (λ z. expression_by ends n z c cs) (digit_class c s.0)
    ∙ (over_digits n n false (c ∷ []) cs s.1
    ∙ (ap (λ v. Some (cond (nat_lt v (2 ^ 63)) (is (f.Int (pos v))) (Refused (WideNumber n)))) d.value
    ∙ ap (λ t. Some (cond t (is (f.Int (pos k))) (Refused (WideNumber n)))) (below k (2 ^ 63) h)))

negative : (ends : Bool) (n k : ℕ) (w : List ℕ) → suc k ≤ 2 ^ 63 → Digits (suc k) w → expression ends n (126 ∷ w) ≡ Some (is (f.Int (negsuc k)))
unfolding class
negative ends n k [] h d = absurd (omega (arith, d.some))
negative ends n k (c ∷ cs) h d =
    let s : (is_digit c ≡ true) × (list_all is_digit cs ≡ true) = split_and (is_digit c) (list_all is_digit cs) d.all in
    ap (λ t. cond t (numbers n (n + 1) true (c ∷ []) cs) (symbols n 126 (c ∷ cs))) s.0
    ∙ (over_digits n (n + 1) true (c ∷ []) cs s.1
    ∙ (ap (λ v. Some (cond (nat_le v (2 ^ 63)) (is (f.Int (neg_ℤ (pos v)))) (Refused (WideNumber n)))) d.value
    ∙ ap (λ t. Some (cond t (is (f.Int (negsuc k))) (Refused (WideNumber n)))) (within (suc k) (2 ^ 63) h)))

pub int_stands : (ends : Bool) (z : ℤ) → InRange z → Stands ends (f.Int z)
unfolding spelling gap
int_stands ends (pos k) h = record { blank = refl; reads = λ n. natural ends n k (decimal k) h (digits k (omega arith)) }
int_stands ends (negsuc k) h = record { blank = refl; reads = λ n. negative ends n k (decimal (suc k)) h (digits (suc k) (omega arith)) }

-- texts and characters
record Taken (n : ℕ) (h : Literal) (k : ℕ) (p rest : List ℕ) (b : ℕ) : Type 0 where
  place : ℕ
  is : literal n h k (p ++ rest) ≡ literal n (with_byte h b) place rest

no_short : (m : ℕ) → m < 10 → is_short_escape (48 + m) ≡ false
no_short m h = grind (arith, nat_tests)

three_digits : (b : ℕ) → b < 256 → 10 * (10 * (48 + b / 100 - 48) + (48 + b / 10 % 10 - 48)) + (48 + b % 10 - 48) ≡ b
three_digits b h = omega arith

by_number : (n : ℕ) (h : Literal) (k : ℕ) (rest : List ℕ) (b : ℕ) → takes h ≡ true → b < 256 → Taken n h k (number_escape b) rest b
unfolding literal
by_number n h k rest b t l =
    let c = 48 + b / 100 in
    let d = 48 + b / 10 % 10 in
    let e = 48 + b % 10 in
    let v : ℕ = 10 * (10 * (c - 48) + (d - 48)) + (e - 48) in
    let i : v ≡ b = three_digits b l in
    let small : nat_lt v 256 ≡ true = below v 256 (omega arith) in
    record {
      place = k + 4;
      is = ap (λ w. cond w (escape n h k (c ∷ d ∷ e ∷ rest)) (cond (is_fit h 92) (literal n (with_byte h 92) (k + 1) (c ∷ d ∷ e ∷ rest)) (only false (Refused (unfit n h k 92))))) t
          ∙ (ap (λ w. cond w (literal n (with_byte h (short_escape c)) (k + 2) (d ∷ e ∷ rest)) (cond (is_digit c) (second_digit n h k (c - 48) (d ∷ e ∷ rest)) (only false (Refused (Unsupported k lack.Escape))))) (no_short (b / 100) (omega arith))
          ∙ (ap (λ w. cond w (second_digit n h k (c - 48) (d ∷ e ∷ rest)) (only false (Refused (Unsupported k lack.Escape)))) (glyph (b / 100) (omega arith))
          ∙ (ap (λ w. cond w (third_digit n h k (10 * (c - 48) + (d - 48)) (e ∷ rest)) None) (glyph (b / 10 % 10) (omega arith))
          ∙ (ap (λ w. cond w (cond (nat_lt v 256) (literal n (with_byte h v) (k + 4) rest) (only (is_nil rest) (Refused (BadByte k)))) None) (glyph (b % 10) (omega arith))
          ∙ (ap (λ w. cond w (literal n (with_byte h v) (k + 4) rest) (only (is_nil rest) (Refused (BadByte k)))) small
          ∙ ap (λ z. literal n (with_byte h z) (k + 4) rest) i)))));
    }

by_short : (n : ℕ) (h : Literal) (k : ℕ) (rest : List ℕ) (c b : ℕ) → takes h ≡ true → is_short_escape c ≡ true → short_escape c ≡ b → Taken n h k (92 ∷ c ∷ []) rest b
unfolding literal
by_short n h k rest c b t s e = record {
  place = k + 2;
  is = ap (λ w. cond w (escape n h k (c ∷ rest)) (cond (is_fit h 92) (literal n (with_byte h 92) (k + 1) (c ∷ rest)) (only false (Refused (unfit n h k 92))))) t
      ∙ (ap (λ w. cond w (literal n (with_byte h (short_escape c)) (k + 2) rest) (cond (is_digit c) (second_digit n h k (c - 48) rest) (only (is_nil rest) (Refused (Unsupported k lack.Escape))))) s
      ∙ ap (λ z. literal n (with_byte h z) (k + 2) rest) e);
}

by_itself : (n : ℕ) (h : Literal) (k : ℕ) (rest : List ℕ) (b : ℕ) → (b == 34) ≡ false → (b == 92) ≡ false → is_fit h b ≡ true → Taken n h k (b ∷ []) rest b
unfolding literal
by_itself n h k rest b q s g = record {
  place = k + 1;
  is = ap (λ w. cond w (only (is_nil rest) (closed n h)) (cond (b == 92 && takes h) (escape n h k rest) (cond (is_fit h b) (literal n (with_byte h b) (k + 1) rest) (only (is_nil rest) (Refused (unfit n h k b)))))) q
      ∙ (ap (λ w. cond (w && takes h) (escape n h k rest) (cond (is_fit h b) (literal n (with_byte h b) (k + 1) rest) (only (is_nil rest) (Refused (unfit n h k b))))) s
      ∙ ap (λ w. cond w (literal n (with_byte h b) (k + 1) rest) (only (is_nil rest) (Refused (unfit n h k b)))) g);
}

is_byte : (b c : ℕ) → (b == c) ≡ true → b ≡ c
is_byte b c h = grind (arith, nat_tests)

below_is : (a b : ℕ) → nat_lt a b ≡ true → a < b
below_is a b h = grind (arith, nat_tests)

above_is : (a : ℕ) → nat_lt a 32 ≡ false → nat_le 32 a ≡ true
above_is a h = grind (arith, nat_tests)

or_false : (x y : Bool) → (x || y) ≡ false → (x ≡ false) × (y ≡ false)
or_false true y h = absurd (cc)
or_false false y h = (refl, h)

mark_escape : (b : ℕ) → (b == 92 || b == 34) ≡ true → (is_short_escape b ≡ true) × (short_escape b ≡ b)
mark_escape b h = go (b == 92) refl h
  where
    both : (b : ℕ) (c : ℕ) → b ≡ c → (is_short_escape c ≡ true) × (short_escape c ≡ c) → (is_short_escape b ≡ true) × (short_escape b ≡ b)
    both b c e w = subst (λ z. (is_short_escape z ≡ true) × (short_escape z ≡ z)) (sym e) w

    go : (t : Bool) → (b == 92) ≡ t → (t || b == 34) ≡ true → (is_short_escape b ≡ true) × (short_escape b ≡ b)
    go true e h = both b 92 (is_byte b 92 e) (refl, refl)
    go false e h = both b 34 (is_byte b 34 h) (refl, refl)

byte_taken : (n : ℕ) (h : Literal) (k : ℕ) (rest : List ℕ) (b : ℕ) → takes h ≡ true → (nat_le 32 b ≡ true → is_fit h b ≡ true) → Taken n h k (text_byte b) rest b
unfolding text_byte
byte_taken n h k rest b t g = go (b == 10) (b == 9) (b == 92 || b == 34) (nat_lt b 32) refl refl refl refl
  where
    go : (p q r s : Bool) → (b == 10) ≡ p → (b == 9) ≡ q → (b == 92 || b == 34) ≡ r → nat_lt b 32 ≡ s →
        Taken n h k (cond p (92 ∷ 110 ∷ []) (cond q (92 ∷ 116 ∷ []) (cond r (92 ∷ b ∷ []) (cond s (number_escape b) (b ∷ []))))) rest b
    go true q r s a c d e = by_short n h k rest 110 b t refl (sym (is_byte b 10 a))
    go false true r s a c d e = by_short n h k rest 116 b t refl (sym (is_byte b 9 c))
    go false false true s a c d e = let w : (is_short_escape b ≡ true) × (short_escape b ≡ b) = mark_escape b d in by_short n h k rest b b t w.0 w.1
    go false false false true a c d e = let l : b < 32 = below_is b 32 e in by_number n h k rest b t (omega arith)
    go false false false false a c d e = let w : ((b == 92) ≡ false) × ((b == 34) ≡ false) = or_false (b == 92) (b == 34) d in by_itself n h k rest b w.1 w.0 (g (above_is b e))

text_taken : (n : ℕ) (v : List ℕ) (k : ℕ) (text : List ℕ) → literal n (TextOf v) k (flat_map text_byte text ++ 34 ∷ []) ≡ Some (is (f.Str (v ++ text)))
unfolding literal
text_taken n v k [] = ap (λ w. Some (is (f.Str w))) (sym (append-nil v))
text_taken n v k (b ∷ bs) =
    let w : Taken n (TextOf v) k (text_byte b) (flat_map text_byte bs ++ 34 ∷ []) b = byte_taken n (TextOf v) k (flat_map text_byte bs ++ 34 ∷ []) b refl (λ g. g) in
    ap (literal n (TextOf v) k) (append_assoc (text_byte b) (flat_map text_byte bs) (34 ∷ []))
    ∙ (w.is ∙ (text_taken n (v ++ b ∷ []) w.place bs ∙ ap (λ z. Some (is (f.Str z))) (append_assoc v (b ∷ []) bs)))

pub str_stands : (ends : Bool) (text : List ℕ) → Stands ends (f.Str text)
unfolding spelling gap class mark_class
str_stands ends text = record { blank = refl; reads = λ n. text_taken n [] (n + 1) text }

char_taken : (n b : ℕ) → b < 256 → Taken n Char (n + 2) (char_byte b) (34 ∷ []) b
unfolding char_byte
char_taken n b l = go (nat_lt b 128) refl
  where
    go : (t : Bool) → nat_lt b 128 ≡ t → Taken n Char (n + 2) (cond t (text_byte b) (number_escape b)) (34 ∷ []) b
    go true e = byte_taken n Char (n + 2) (34 ∷ []) b refl (λ g. and_true (nat_le 32 b) (nat_lt b 128) g e)
    go false e = by_number n Char (n + 2) (34 ∷ []) b refl l

char_ends : (n k b : ℕ) → literal n (CharOf b) k (34 ∷ []) ≡ Some (is (f.Char b))
unfolding literal
char_ends n k b = refl

pub char_stands : (ends : Bool) (b : ℕ) → b < 256 → Stands ends (f.Char b)
unfolding spelling gap class mark_class
char_stands ends b l = record { blank = refl; reads = λ n. (char_taken n b l).is ∙ char_ends n (char_taken n b l).place b }
