-- Texts and characters, a byte at a time.
use Rattle.std.proofs.Common.{◌≡◌, ◌≢◌, ◌⊎◌, inl, inr, ℕ, suc, ◌+◌, ◌-◌, ◌*◌, ◌<◌, ◌≤◌, List, [], ◌∷◌, ◌++◌, length, drop, get_or, Bool, true, false, ◌&&◌, cond, Option, Some, None, Result, Ok, Err, refl, ap, sym, ◌∙◌, subst, arith, nat_lt, ◌==◌}
use Rattle.std.proofs.lemmas.Bool.Decides.{nat_tests}
use Rattle.sml_syntax.specs.declared.token.Lack.TheVariants as lack
use Rattle.sml_syntax.specs.declared.token.TokenForm.TheVariants as form
use Rattle.grammar_rules.specs.Spelling.{Reading, Good, Refused, Refusal, BadByte, OpenString, Unsupported, is, Literal, TextOf, Char, CharOf, with_byte, cut_off, closed, takes, is_fit, unfit, is_short_escape, short_escape, literal, escape, second_digit, third_digit, is_nil, only}
use Rattle.sml_syntax.specs.ByteClasses.{is_digit}
use Rattle.sml_lex.specs.Ends.{Ends, EndsBadly}
use Rattle.sml_lex.specs.declared.bytes.Found.{Found}
use Rattle.sml_lex.specs.declared.refusal.LexRefusal.{LexRefusal}
use Rattle.sml_lex.specs.Coded.{NoDigitAt, IsDigitAt, GivesPiece, IfRefused, refusal_of, piece_of}
use Rattle.sml_lex.proofs.Steps.{gives_step, step_at, step_to, bad_to, last_at, dead_at, end_at}

two : (k : ℕ) → k + 2 ≡ k + 1 + 1
two k = omega arith

three : (k : ℕ) → k + 3 ≡ k + 2 + 1
three k = omega arith

four : (k : ℕ) → k + 4 ≡ k + 3 + 1
four k = omega arith

-- where no digit stands, a reading that wants one goes no further
pub no_digit_ends : (A : List ℕ → Option Reading) (r : Reading) (bs : List ℕ) (i : ℕ) → A [] ≡ Some r → ((b : ℕ) (q : List ℕ) → is_digit b ≡ false → A (b ∷ q) ≡ None) → NoDigitAt bs i → Ends A i (drop i bs) r i
no_digit_ends A r bs i h law d = elim d [ inl l ↦ end_at A bs i r h l | inr w ↦ dead_at A bs i r h w.0 (λ q. law (get_or bs i 0) q w.1) ]

module _ (bs : List ℕ) (k : ℕ) where
  pub escape_ends : length bs ≤ k + 1 → (n : ℕ) (h : Literal) → EndsBadly (escape n h k) (k + 1) (drop (k + 1) bs) (cut_off n h)
  unfolding literal
  escape_ends l n h = (k + 1, end_at (escape n h k) bs (k + 1) (Refused (cut_off n h)) refl l)

  pub escape_short : (c : ℕ) → k + 1 < length bs → is_short_escape (get_or bs (k + 1) 0) ≡ true → c ≡ short_escape (get_or bs (k + 1) 0) →
      (n : ℕ) (h : Literal) (r : Reading) (m : ℕ) → Ends (literal n (with_byte h c) (k + 2)) (k + 2) (drop (k + 2) bs) r m → Ends (escape n h k) (k + 1) (drop (k + 1) bs) r m
  unfolding literal
  escape_short c l e g n h r m d =
      let b = get_or bs (k + 1) 0 in
      step_to (escape n h k) (literal n (with_byte h c) (k + 2)) bs (k + 1) (k + 2) r m (two k) l
      (λ q. ap (λ t. cond t (literal n (with_byte h (short_escape b)) (k + 2) q) (cond (is_digit b) (second_digit n h k (b - 48) q) (only (is_nil q) (Refused (Unsupported k lack.Escape))))) e
      ∙ ap (λ z. literal n (with_byte h z) (k + 2) q) (sym g))
      d

  pub escape_lacking : k + 1 < length bs → is_short_escape (get_or bs (k + 1) 0) ≡ false → NoDigitAt bs (k + 1) → (n : ℕ) (h : Literal) → EndsBadly (escape n h k) (k + 1) (drop (k + 1) bs) (Unsupported k lack.Escape)
  unfolding literal
  escape_lacking l e d n h =
      let b = get_or bs (k + 1) 0 in
      let f : is_digit b ≡ false = elim d [ inl w ↦ absurd (omega arith) | inr w ↦ w.1 ] in (
        k + 1 + 1,
        last_at (escape n h k) bs (k + 1) (Refused (Unsupported k lack.Escape)) l
            (λ q. ap (λ t. cond t (literal n (with_byte h (short_escape b)) (k + 2) q) (cond (is_digit b) (second_digit n h k (b - 48) q) (only (is_nil q) (Refused (Unsupported k lack.Escape))))) e
            ∙ ap (λ t. cond t (second_digit n h k (b - 48) q) (only (is_nil q) (Refused (Unsupported k lack.Escape)))) f),
      )

  digit_not_short : (c : ℕ) → is_digit c ≡ true → is_short_escape c ≡ false
  digit_not_short c h = grind (arith, nat_tests)

  -- the first digit
  first_law : (v : ℕ) → IsDigitAt bs (k + 1) (Some v) → (n : ℕ) (h : Literal) (q : List ℕ) → escape n h k (get_or bs (k + 1) 0 ∷ q) ≡ second_digit n h k v q
  unfolding literal
  first_law v d n h q =
      let b = get_or bs (k + 1) 0 in
      ap (λ t. cond t (literal n (with_byte h (short_escape b)) (k + 2) q) (cond (is_digit b) (second_digit n h k (b - 48) q) (only (is_nil q) (Refused (Unsupported k lack.Escape))))) (digit_not_short b d.1)
      ∙ (ap (λ t. cond t (second_digit n h k (b - 48) q) (only (is_nil q) (Refused (Unsupported k lack.Escape)))) d.1
      ∙ ap (λ z. second_digit n h k z q) (sym d.2))

  second_law : (v u : ℕ) → IsDigitAt bs (k + 2) (Some u) → (n : ℕ) (h : Literal) (q : List ℕ) → second_digit n h k v (get_or bs (k + 2) 0 ∷ q) ≡ third_digit n h k (10 * v + u) q
  unfolding literal
  second_law v u d n h q =
      let b = get_or bs (k + 2) 0 in
      ap (λ t. cond t (third_digit n h k (10 * v + (b - 48)) q) None) d.1 ∙ ap (λ z. third_digit n h k (10 * v + z) q) (sym d.2)

  third_law : (v u : ℕ) → IsDigitAt bs (k + 3) (Some u) → (n : ℕ) (h : Literal) (q : List ℕ) →
      third_digit n h k v (get_or bs (k + 3) 0 ∷ q) ≡ cond (nat_lt (10 * v + u) 256) (literal n (with_byte h (10 * v + u)) (k + 4) q) (only (is_nil q) (Refused (BadByte k)))
  unfolding literal
  third_law v u d n h q =
      let b = get_or bs (k + 3) 0 in
      ap (λ t. cond t (cond (nat_lt (10 * v + (b - 48)) 256) (literal n (with_byte h (10 * v + (b - 48))) (k + 4) q) (only (is_nil q) (Refused (BadByte k)))) None) d.1
      ∙ ap (λ z. cond (nat_lt (10 * v + z) 256) (literal n (with_byte h (10 * v + z)) (k + 4) q) (only (is_nil q) (Refused (BadByte k)))) (sym d.2)

  pub one_digit : (v : ℕ) → IsDigitAt bs (k + 1) (Some v) → NoDigitAt bs (k + 2) → (n : ℕ) (h : Literal) → EndsBadly (escape n h k) (k + 1) (drop (k + 1) bs) (BadByte k)
  unfolding literal
  one_digit v d none n h =
      bad_to (escape n h k) (second_digit n h k v) bs (k + 1) (k + 2) (BadByte k) (two k) d.0 (first_law v d n h)
      (k + 2, no_digit_ends (second_digit n h k v) (Refused (BadByte k)) bs (k + 2) refl (λ b q e. ap (λ t. cond t (third_digit n h k (10 * v + (b - 48)) q) None) e) none)

  pub two_digits : (v u : ℕ) → IsDigitAt bs (k + 1) (Some v) → IsDigitAt bs (k + 2) (Some u) → NoDigitAt bs (k + 3) → (n : ℕ) (h : Literal) → EndsBadly (escape n h k) (k + 1) (drop (k + 1) bs) (BadByte k)
  unfolding literal
  two_digits v u d f none n h =
      bad_to (escape n h k) (second_digit n h k v) bs (k + 1) (k + 2) (BadByte k) (two k) d.0 (first_law v d n h)
      (bad_to (second_digit n h k v) (third_digit n h k (10 * v + u)) bs (k + 2) (k + 3) (BadByte k) (three k) f.0 (second_law v u f n h) (
        k + 3,
        no_digit_ends (third_digit n h k (10 * v + u)) (Refused (BadByte k)) bs (k + 3) refl
            (λ b q e. ap (λ t. cond t (cond (nat_lt (10 * (10 * v + u) + (b - 48)) 256) (literal n (with_byte h (10 * (10 * v + u) + (b - 48))) (k + 4) q) (only (is_nil q) (Refused (BadByte k)))) None) e) none,
      ))

  pub big_number : (v u w : ℕ) → IsDigitAt bs (k + 1) (Some v) → IsDigitAt bs (k + 2) (Some u) → IsDigitAt bs (k + 3) (Some w) → 256 ≤ 10 * (10 * v + u) + w →
      (n : ℕ) (h : Literal) → EndsBadly (escape n h k) (k + 1) (drop (k + 1) bs) (BadByte k)
  big_number v u w d f g big n h =
      let x = 10 * (10 * v + u) + w in
      let no : nat_lt x 256 ≡ false = grind (arith, nat_tests) in
      bad_to (escape n h k) (second_digit n h k v) bs (k + 1) (k + 2) (BadByte k) (two k) d.0 (first_law v d n h)
      (bad_to (second_digit n h k v) (third_digit n h k (10 * v + u)) bs (k + 2) (k + 3) (BadByte k) (three k) f.0 (second_law v u f n h) (
        k + 3 + 1,
        last_at (third_digit n h k (10 * v + u)) bs (k + 3) (Refused (BadByte k)) g.0
            (λ q. third_law (10 * v + u) w g n h q ∙ ap (λ t. cond t (literal n (with_byte h x) (k + 4) q) (only (is_nil q) (Refused (BadByte k)))) no),
      ))

  pub whole_number : (v u w x : ℕ) → IsDigitAt bs (k + 1) (Some v) → IsDigitAt bs (k + 2) (Some u) → IsDigitAt bs (k + 3) (Some w) → x ≡ 10 * (10 * v + u) + w → x < 256 →
      (n : ℕ) (h : Literal) (r : Reading) (m : ℕ) → Ends (literal n (with_byte h x) (k + 4)) (k + 4) (drop (k + 4) bs) r m → Ends (escape n h k) (k + 1) (drop (k + 1) bs) r m
  whole_number v u w x d f g e small n h r m rest =
      let y = 10 * (10 * v + u) + w in
      let lt : nat_lt y 256 ≡ true = grind (arith, nat_tests) in
      step_to (escape n h k) (second_digit n h k v) bs (k + 1) (k + 2) r m (two k) d.0 (first_law v d n h)
      (step_to (second_digit n h k v) (third_digit n h k (10 * v + u)) bs (k + 2) (k + 3) r m (three k) f.0 (second_law v u f n h)
      (step_to (third_digit n h k (10 * v + u)) (literal n (with_byte h x) (k + 4)) bs (k + 3) (k + 4) r m (four k) g.0
      (λ q. third_law (10 * v + u) w g n h q ∙ (ap (λ t. cond t (literal n (with_byte h y) (k + 4) q) (only (is_nil q) (Refused (BadByte k)))) lt ∙ ap (λ z. literal n (with_byte h z) (k + 4) q) (sym e)))
      rest))

-- a byte of a literal, by what it is
pub lit_mark : (n : ℕ) (h : Literal) (k b : ℕ) → b ≡ 34 → (q : List ℕ) → literal n h k (b ∷ q) ≡ only (is_nil q) (closed n h)
unfolding literal
lit_mark n h k b e q = ap (λ z. literal n h k (z ∷ q)) e

pub lit_back : (n : ℕ) (h : Literal) (k b : ℕ) → b ≡ 92 → takes h ≡ true → (q : List ℕ) → literal n h k (b ∷ q) ≡ escape n h k q
unfolding literal
lit_back n h k b e t q =
    ap (λ z. literal n h k (z ∷ q)) e ∙ ap (λ w. cond w (escape n h k q) (cond (is_fit h 92) (literal n (with_byte h 92) (k + 1) q) (only (is_nil q) (Refused (unfit n h k 92))))) t

pub lit_fit : (n : ℕ) (h : Literal) (k b : ℕ) → b ≢ 34 → b ≢ 92 → is_fit h b ≡ true → (q : List ℕ) → literal n h k (b ∷ q) ≡ literal n (with_byte h b) (k + 1) q
unfolding literal
lit_fit n h k b e g f q =
    let e1 : (b == 34) ≡ false = grind (arith, nat_tests) in
    let e2 : (b == 92) ≡ false = grind (arith, nat_tests) in
    ap (λ w. cond w (only (is_nil q) (closed n h)) (cond (b == 92 && takes h) (escape n h k q) (cond (is_fit h b) (literal n (with_byte h b) (k + 1) q) (only (is_nil q) (Refused (unfit n h k b)))))) e1
    ∙ (ap (λ w. cond (w && takes h) (escape n h k q) (cond (is_fit h b) (literal n (with_byte h b) (k + 1) q) (only (is_nil q) (Refused (unfit n h k b))))) e2
    ∙ ap (λ w. cond w (literal n (with_byte h b) (k + 1) q) (only (is_nil q) (Refused (unfit n h k b)))) f)

pub lit_unfit : (n : ℕ) (h : Literal) (k b : ℕ) → b ≢ 34 → (b == 92 && takes h) ≡ false → is_fit h b ≡ false → (q : List ℕ) → literal n h k (b ∷ q) ≡ only (is_nil q) (Refused (unfit n h k b))
unfolding literal
lit_unfit n h k b e g f q =
    let e1 : (b == 34) ≡ false = grind (arith, nat_tests) in
    ap (λ w. cond w (only (is_nil q) (closed n h)) (cond (b == 92 && takes h) (escape n h k q) (cond (is_fit h b) (literal n (with_byte h b) (k + 1) q) (only (is_nil q) (Refused (unfit n h k b)))))) e1
    ∙ (ap (λ w. cond w (escape n h k q) (cond (is_fit h b) (literal n (with_byte h b) (k + 1) q) (only (is_nil q) (Refused (unfit n h k b))))) g
    ∙ ap (λ w. cond w (literal n (with_byte h b) (k + 1) q) (only (is_nil q) (Refused (unfit n h k b)))) f)

pub lit_end : (n : ℕ) (h : Literal) (bs : List ℕ) (k : ℕ) → length bs ≤ k → EndsBadly (literal n h k) k (drop k bs) (cut_off n h)
unfolding literal
lit_end n h bs k l = (k, end_at (literal n h k) bs k (Refused (cut_off n h)) refl l)

-- the same at a place of bytes
module _ (bs : List ℕ) (n k : ℕ) (l : k < length bs) where
  pub at_mark : (h : Literal) → get_or bs k 0 ≡ 34 → Ends (literal n h k) k (drop k bs) (closed n h) (k + 1)
  at_mark h e = last_at (literal n h k) bs k (closed n h) l (lit_mark n h k (get_or bs k 0) e)

  pub at_back : (h : Literal) (r : Reading) (m : ℕ) → get_or bs k 0 ≡ 92 → takes h ≡ true → Ends (escape n h k) (k + 1) (drop (k + 1) bs) r m → Ends (literal n h k) k (drop k bs) r m
  at_back h r m e t d = step_at (literal n h k) (escape n h k) bs k r m l (lit_back n h k (get_or bs k 0) e t) d

  pub at_back_bad : (h : Literal) (r : Refusal) → get_or bs k 0 ≡ 92 → takes h ≡ true → EndsBadly (escape n h k) (k + 1) (drop (k + 1) bs) r → EndsBadly (literal n h k) k (drop k bs) r
  at_back_bad h r e t d = (d.0, at_back h (Refused r) d.0 e t d.1)

  pub at_fit : (h : Literal) (r : Reading) (m : ℕ) → get_or bs k 0 ≢ 34 → get_or bs k 0 ≢ 92 → is_fit h (get_or bs k 0) ≡ true →
      Ends (literal n (with_byte h (get_or bs k 0)) (k + 1)) (k + 1) (drop (k + 1) bs) r m → Ends (literal n h k) k (drop k bs) r m
  at_fit h r m e g f d = step_at (literal n h k) (literal n (with_byte h (get_or bs k 0)) (k + 1)) bs k r m l (lit_fit n h k (get_or bs k 0) e g f) d

  pub at_unfit : (h : Literal) (r : Refusal) → get_or bs k 0 ≢ 34 → (get_or bs k 0 == 92 && takes h) ≡ false → is_fit h (get_or bs k 0) ≡ false → unfit n h k (get_or bs k 0) ≡ r → EndsBadly (literal n h k) k (drop k bs) r
  at_unfit h r e g f u =
      (k + 1, last_at (literal n h k) bs k (Refused r) l (λ q. lit_unfit n h k (get_or bs k 0) e g f q ∙ ap (λ z. only (is_nil q) (Refused z)) u))

  -- bytes of a text
  pub text_low : (w : List ℕ) → get_or bs k 0 < 32 → get_or bs k 0 ≢ 10 → EndsBadly (literal n (TextOf w) k) k (drop k bs) (BadByte k)
  text_low w h e =
      let b = get_or bs k 0 in
      let e1 : (b == 92) ≡ false = grind (arith, nat_tests) in
      let e2 : (b == 10) ≡ false = grind (arith, nat_tests) in
      at_unfit (TextOf w) (BadByte k) (omega arith) (ap (λ t. t && true) e1) (grind (arith, nat_tests)) (ap (λ t. cond t (OpenString n) (BadByte k)) e2)

  pub text_line : (w : List ℕ) → get_or bs k 0 ≡ 10 → EndsBadly (literal n (TextOf w) k) k (drop k bs) (OpenString n)
  text_line w h =
      let b = get_or bs k 0 in
      let e1 : (b == 92) ≡ false = grind (arith, nat_tests) in
      let e2 : (b == 10) ≡ true = grind (arith, nat_tests) in
      at_unfit (TextOf w) (OpenString n) (omega arith) (ap (λ t. t && true) e1) (grind (arith, nat_tests)) (ap (λ t. cond t (OpenString n) (BadByte k)) e2)

  -- bytes of a character
  pub character_low : get_or bs k 0 < 32 → EndsBadly (literal n Char k) k (drop k bs) (BadByte n)
  character_low h =
      let b = get_or bs k 0 in
      let e1 : (b == 92) ≡ false = grind (arith, nat_tests) in
      let e2 : nat_lt b 128 ≡ true = grind (arith, nat_tests) in
      at_unfit Char (BadByte n) (omega arith) (ap (λ t. t && true) e1) (grind (arith, nat_tests)) (ap (λ t. cond t (BadByte n) (BadByte k)) e2)

  pub character_high : 128 ≤ get_or bs k 0 → EndsBadly (literal n Char k) k (drop k bs) (BadByte k)
  character_high h =
      let b = get_or bs k 0 in
      let e1 : (b == 92) ≡ false = grind (arith, nat_tests) in
      let e2 : nat_lt b 128 ≡ false = grind (arith, nat_tests) in
      at_unfit Char (BadByte k) (omega arith) (ap (λ t. t && true) e1) (grind (arith, nat_tests)) (ap (λ t. cond t (BadByte n) (BadByte k)) e2)

  pub character_full : (v : ℕ) → get_or bs k 0 ≢ 34 → EndsBadly (literal n (CharOf v) k) k (drop k bs) (BadByte n)
  character_full v h = at_unfit (CharOf v) (BadByte n) h (and-no (get_or bs k 0 == 92)) refl refl
    where
      and-no : (b : Bool) → (b && false) ≡ false
      and-no true = refl
      and-no false = refl

  -- a character whose closing mark was looked for
  pub gives_fit : (x : Result Found LexRefusal) → get_or bs k 0 ≢ 34 → get_or bs k 0 ≢ 92 → is_fit Char (get_or bs k 0) ≡ true →
      GivesPiece (literal n (CharOf (get_or bs k 0)) (k + 1)) (k + 1) (drop (k + 1) bs) x → GivesPiece (literal n Char k) k (drop k bs) x
  gives_fit x e g f d = gives_step (literal n Char k) (literal n (CharOf (get_or bs k 0)) (k + 1)) bs k x l (lit_fit n Char k (get_or bs k 0) e g f) d

  pub gives_back : (v to : ℕ) (x : Result Found LexRefusal) → get_or bs k 0 ≡ 92 →
      ((r : Reading) (m : ℕ) → Ends (literal n (CharOf v) to) to (drop to bs) r m → Ends (escape n Char k) (k + 1) (drop (k + 1) bs) r m) →
      GivesPiece (literal n (CharOf v) to) to (drop to bs) x → GivesPiece (literal n Char k) k (drop k bs) x
  gives_back v to (Ok found) e law d = at_back Char (Good (piece_of found.form)) found.to e refl (law (Good (piece_of found.form)) found.to d)
  gives_back v to (Err err) e law d = go (refusal_of err) d
    where
      go : (o : Option Refusal) → IfRefused o (EndsBadly (literal n (CharOf v) to) to (drop to bs)) → IfRefused o (EndsBadly (literal n Char k) k (drop k bs))
      go None d = tt
      go (Some r) d = (d.0, at_back Char (Refused r) d.0 e refl (law (Refused r) d.0 d.1))
