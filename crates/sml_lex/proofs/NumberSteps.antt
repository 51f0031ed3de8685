-- Numbers, and the forms that are lacks.
use Rattle.std.proofs.Common.{◌≡◌, ◌≢◌, ◌⊎◌, inl, inr, ℕ, suc, ◌+◌, ◌-◌, ◌*◌, ◌<◌, ◌≤◌, List, [], ◌∷◌, ◌++◌, length, drop, get_or, Bool, true, false, ◌&&◌, ◌||◌, cond, Option, Some, None, refl, ap, sym, ◌∙◌, subst, arith, lt_of_lt_of_le, ◌==◌}
use Rattle.std.proofs.lemmas.Bool.Decides.{nat_tests}
use Rattle.std.proofs.lemmas.List.{at_drop_more}
use Rattle.sml_syntax.specs.declared.token.Lack.{Lack}
use Rattle.sml_syntax.specs.declared.token.Lack.TheVariants as lack
use Rattle.grammar_rules.specs.Spelling.{Reading, Refused, Refusal, Unsupported, is_exponent, is_hexadecimal, decimal_from, integer, is_real, is_word, is_hexadecimal_form, is_zero, number_lack, numbers}
use Rattle.sml_syntax.specs.ByteClasses.{is_digit}
use Rattle.sml_lex.specs.Ends.{Ends, EndsBadly}
use Rattle.std.specs.List.{slice_range}
use Rattle.sml_lex.specs.Coded.{RunTo, first_is_digit, begins_real, begins_word, begins_hexadecimal, lack_begun}
use Rattle.sml_lex.proofs.Steps.{step, halt, slice_first}
use Rattle.sml_lex.proofs.Runs.{past_run, run_stops}

pub decimal_grows : (n : ℕ) (ds : List ℕ) → n ≤ decimal_from n ds
decimal_grows n [] = omega arith
decimal_grows n (d ∷ ds) = let h : 10 * n + (d - 48) ≤ decimal_from (10 * n + (d - 48)) ds = decimal_grows (10 * n + (d - 48)) ds in omega arith

pub number_takes : (s k : ℕ) (negative : Bool) (taken : List ℕ) (b : ℕ) (q : List ℕ) → is_digit b ≡ true → numbers s k negative taken (b ∷ q) ≡ numbers s k negative (taken ++ b ∷ []) q
unfolding numbers
number_takes s k negative taken b q h = ap (λ t. cond t (numbers s k negative (taken ++ b ∷ []) q) (number_lack k taken (b ∷ q))) h

pub number_at_end : (s k : ℕ) (negative : Bool) (taken : List ℕ) → numbers s k negative taken [] ≡ Some (integer s negative taken)
unfolding numbers
number_at_end s k negative taken = refl

number_behind : (s k : ℕ) (negative : Bool) (taken : List ℕ) (b : ℕ) (q : List ℕ) → is_digit b ≡ false → numbers s k negative taken (b ∷ q) ≡ number_lack k taken (b ∷ q)
unfolding numbers
number_behind s k negative taken b q h = ap (λ t. cond t (numbers s k negative (taken ++ b ∷ []) q) (number_lack k taken (b ∷ q))) h

or_right : (x y : Bool) → y ≡ true → (x || y) ≡ true
or_right true y h = refl
or_right false y h = h

and_none : (x : Bool) → (x && false) ≡ false
and_none true = refl
and_none false = refl

contra : (p q : Bool) → (p ≡ true → q ≡ true) → q ≡ false → p ≡ false
contra true q h g = let f : q ≡ true = h refl in cc
contra false q h g = refl

-- a whole form begins what it is the front of
real_begins : (t zs : List ℕ) → is_real t ≡ true → begins_real (t ++ zs) ≡ true
real_begins [] zs h = cc
real_begins (b ∷ []) zs h = cc
real_begins (b ∷ c ∷ []) zs h = ap (λ w. w || (is_exponent b && (c == 126 && first_is_digit zs))) h
real_begins (b ∷ c ∷ d ∷ []) zs h = or_right ((b == 46 || is_exponent b) && is_digit c) (is_exponent b && (c == 126 && is_digit d)) h
real_begins (b ∷ c ∷ d ∷ e ∷ t) zs h = cc

word_begins : (t zs : List ℕ) → is_word t ≡ true → begins_word (t ++ zs) ≡ true
word_begins [] zs h = cc
word_begins (b ∷ []) zs h = cc
word_begins (b ∷ c ∷ []) zs h = h
word_begins (b ∷ c ∷ d ∷ t) zs h = cc

hexadecimal_begins : (t zs : List ℕ) → is_hexadecimal_form t ≡ true → begins_hexadecimal (t ++ zs) ≡ true
hexadecimal_begins [] zs h = cc
hexadecimal_begins (b ∷ []) zs h = cc
hexadecimal_begins (b ∷ c ∷ []) zs h = h
hexadecimal_begins (b ∷ c ∷ d ∷ t) zs h = cc

-- which tests failed or held
data Begun (digits rest : List ℕ) : Option Lack → Type 0 where
  none : begins_real rest ≡ false → (is_zero digits && begins_word rest) ≡ false → (is_zero digits && begins_hexadecimal rest) ≡ false → Begun digits rest None
  real : begins_real rest ≡ true → Begun digits rest (Some lack.Reals)
  word : begins_real rest ≡ false → (is_zero digits && begins_word rest) ≡ true → Begun digits rest (Some lack.Words)
  hexadecimal : begins_real rest ≡ false → (is_zero digits && begins_word rest) ≡ false → (is_zero digits && begins_hexadecimal rest) ≡ true → Begun digits rest (Some lack.Hexadecimal)

begun : (digits rest : List ℕ) → Begun digits rest (lack_begun digits rest)
begun digits rest = go (begins_real rest) (is_zero digits && begins_word rest) (is_zero digits && begins_hexadecimal rest) refl refl refl
  where
    go : (p q r : Bool) → begins_real rest ≡ p → (is_zero digits && begins_word rest) ≡ q → (is_zero digits && begins_hexadecimal rest) ≡ r →
        Begun digits rest (cond p (Some lack.Reals) (cond q (Some lack.Words) (cond r (Some lack.Hexadecimal) None)))
    go true q r e f g = real e
    go false true r e f g = word e f
    go false false true e f g = hexadecimal e f g
    go false false false e f g = none e f g

and_contra : (z p q : Bool) → (p ≡ true → q ≡ true) → (z && q) ≡ false → (z && p) ≡ false
and_contra true p q h g = contra p q h g
and_contra false p q h g = refl

three_tests : (k : ℕ) (digits t : List ℕ) → is_real t ≡ false → (is_zero digits && is_word t) ≡ false → (is_zero digits && is_hexadecimal_form t) ≡ false → number_lack k digits t ≡ None
three_tests k digits t e f g =
    ap (λ w. cond w (Some (Refused (Unsupported k lack.Reals))) (cond (is_zero digits && is_word t) (Some (Refused (Unsupported k lack.Words))) (cond (is_zero digits && is_hexadecimal_form t) (Some (Refused (Unsupported k lack.Hexadecimal))) None))) e
    ∙ (ap (λ w. cond w (Some (Refused (Unsupported k lack.Words))) (cond (is_zero digits && is_hexadecimal_form t) (Some (Refused (Unsupported k lack.Hexadecimal))) None)) f
    ∙ ap (λ w. cond w (Some (Refused (Unsupported k lack.Hexadecimal))) None) g)

-- where no lack begins, a number ends before a byte that is no digit
pub number_halts : (s k : ℕ) (negative : Bool) (digits rest : List ℕ) → lack_begun digits rest ≡ None → ((y : ℕ) (zs : List ℕ) → rest ≡ y ∷ zs → is_digit y ≡ false) →
    (y : ℕ) (ys zs : List ℕ) → rest ≡ y ∷ (ys ++ zs) → numbers s k negative digits (y ∷ ys) ≡ None
number_halts s k negative digits rest h stops y ys zs e =
    number_behind s k negative digits y ys (stops y (ys ++ zs) e) ∙ go (subst (λ o. Begun digits rest o) h (begun digits rest))
  where
    go : Begun digits rest None → number_lack k digits (y ∷ ys) ≡ None
    go (none a b c) =
        three_tests k digits (y ∷ ys)
        (contra (is_real (y ∷ ys)) (begins_real rest) (λ t. ap begins_real e ∙ real_begins (y ∷ ys) zs t) a)
        (and_contra (is_zero digits) (is_word (y ∷ ys)) (begins_word rest) (λ t. ap begins_word e ∙ word_begins (y ∷ ys) zs t) b)
        (and_contra (is_zero digits) (is_hexadecimal_form (y ∷ ys)) (begins_hexadecimal rest) (λ t. ap begins_hexadecimal e ∙ hexadecimal_begins (y ∷ ys) zs t) c)

-- behind two bytes, where the second is a digit or the first is no exponent, nothing goes on
dead_real : (b c y : ℕ) (ys : List ℕ) → (is_exponent b && c == 126) ≡ false → is_real (b ∷ c ∷ y ∷ ys) ≡ false
dead_real b c y [] h = regroup (is_exponent b) (c == 126) (is_digit y) h
  where
    regroup : (p q r : Bool) → (p && q) ≡ false → (p && (q && r)) ≡ false
    regroup true true r h = cc
    regroup true false r h = refl
    regroup false q r h = refl
dead_real b c y (z ∷ ys) h = refl

dead_two : (k : ℕ) (digits : List ℕ) (b c y : ℕ) (ys : List ℕ) → (is_exponent b && c == 126) ≡ false → number_lack k digits (b ∷ c ∷ y ∷ ys) ≡ None
dead_two k digits b c y ys h = three_tests k digits (b ∷ c ∷ y ∷ ys) (dead_real b c y ys h) (and_none (is_zero digits)) (and_none (is_zero digits))

-- two bytes that are a form
two_bytes : (s k : ℕ) (negative : Bool) (digits : List ℕ) (e b c : ℕ) (bs : List ℕ) (l : Lack) → is_digit b ≡ false → number_lack k digits (b ∷ c ∷ []) ≡ Some (Refused (Unsupported k l)) →
    (is_exponent b && c == 126) ≡ false → EndsBadly (numbers s k negative digits) e (b ∷ c ∷ bs) (Unsupported k l)
two_bytes s k negative digits e b c bs l nd h dead = (
  suc (suc e),
  step (numbers s k negative digits) (λ q. number_lack k digits (b ∷ q)) e b (c ∷ bs) (Refused (Unsupported k l)) (suc (suc e)) (λ q. number_behind s k negative digits b q nd)
      (step (λ q. number_lack k digits (b ∷ q)) (λ q. number_lack k digits (b ∷ c ∷ q)) (suc e) c bs (Refused (Unsupported k l)) (suc (suc e)) (λ q. refl)
      (halt (λ q. number_lack k digits (b ∷ c ∷ q)) (suc (suc e)) bs (Refused (Unsupported k l)) h (λ y ys zs g. dead_two k digits b c y ys dead))),
)

three_bytes : (s k : ℕ) (negative : Bool) (digits : List ℕ) (e b c d : ℕ) (bs : List ℕ) (l : Lack) → is_digit b ≡ false → number_lack k digits (b ∷ c ∷ d ∷ []) ≡ Some (Refused (Unsupported k l)) →
    EndsBadly (numbers s k negative digits) e (b ∷ c ∷ d ∷ bs) (Unsupported k l)
three_bytes s k negative digits e b c d bs l nd h = (
  suc (suc (suc e)),
  step (numbers s k negative digits) (λ q. number_lack k digits (b ∷ q)) e b (c ∷ d ∷ bs) (Refused (Unsupported k l)) (suc (suc (suc e))) (λ q. number_behind s k negative digits b q nd)
      (step (λ q. number_lack k digits (b ∷ q)) (λ q. number_lack k digits (b ∷ c ∷ q)) (suc e) c (d ∷ bs) (Refused (Unsupported k l)) (suc (suc (suc e))) (λ q. refl)
      (step (λ q. number_lack k digits (b ∷ c ∷ q)) (λ q. number_lack k digits (b ∷ c ∷ d ∷ q)) (suc (suc e)) d bs (Refused (Unsupported k l)) (suc (suc (suc e))) (λ q. refl)
      (halt (λ q. number_lack k digits (b ∷ c ∷ d ∷ q)) (suc (suc (suc e))) bs (Refused (Unsupported k l)) h
      (λ y ys zs g. three_tests k digits (b ∷ c ∷ d ∷ y ∷ ys) refl (and_none (is_zero digits)) (and_none (is_zero digits)))))),
)

and_left : (x y : Bool) → (x && y) ≡ true → x ≡ true
and_left true y h = refl
and_left false y h = h

and_right : (x y : Bool) → (x && y) ≡ true → y ≡ true
and_right true y h = h
and_right false y h = absurd (cc)

digit_no_tilde : (x : Bool) (c : ℕ) → is_digit c ≡ true → (x && c == 126) ≡ false
digit_no_tilde x c h = let e : (c == 126) ≡ false = grind (arith, nat_tests) in ap (λ t. x && t) e ∙ and_none x

or_left : (x y : Bool) → (x || y) ≡ false → x ≡ false
or_left true y h = h
or_left false y h = refl

real_case : (s k : ℕ) (negative : Bool) (digits : List ℕ) (e b c : ℕ) (bs : List ℕ) → is_digit b ≡ false → (x : Bool) → ((b == 46 || is_exponent b) && is_digit c) ≡ x →
    (x || (is_exponent b && (c == 126 && first_is_digit bs))) ≡ true → EndsBadly (numbers s k negative digits) e (b ∷ c ∷ bs) (Unsupported k lack.Reals)
real_case s k negative digits e b c bs nd true f g =
    two_bytes s k negative digits e b c bs lack.Reals nd
    (ap (λ w. cond w (Some (Refused (Unsupported k lack.Reals))) (cond (is_zero digits && is_word (b ∷ c ∷ [])) (Some (Refused (Unsupported k lack.Words))) (cond (is_zero digits && is_hexadecimal_form (b ∷ c ∷ [])) (Some (Refused (Unsupported k lack.Hexadecimal))) None))) f)
    (digit_no_tilde (is_exponent b) c (and_right (b == 46 || is_exponent b) (is_digit c) f))
real_case s k negative digits e b c [] nd false f g = absurd (none-left (is_exponent b) (c == 126) g)
  where
    none-left : (p q : Bool) → (p && (q && false)) ≡ true → ⊥
    none-left true true h = cc
    none-left true false h = cc
    none-left false q h = cc
real_case s k negative digits e b c (d ∷ bs) nd false f g =
    three_bytes s k negative digits e b c d bs lack.Reals nd
    (ap (λ w. cond w (Some (Refused (Unsupported k lack.Reals))) (cond (is_zero digits && is_word (b ∷ c ∷ d ∷ [])) (Some (Refused (Unsupported k lack.Words))) (cond (is_zero digits && is_hexadecimal_form (b ∷ c ∷ d ∷ [])) (Some (Refused (Unsupported k lack.Hexadecimal))) None))) g)

no_exponent_w : (b c : ℕ) → (b == 119 && (is_digit c || c == 120)) ≡ true → (is_exponent b && c == 126) ≡ false
no_exponent_w b c h =
    let f : (b == 119) ≡ true = and_left (b == 119) (is_digit c || c == 120) h in
    let g : is_exponent b ≡ false = grind (arith, nat_tests) in
    ap (λ t. t && c == 126) g

no_exponent_x : (b c : ℕ) → (b == 120 && is_hexadecimal c) ≡ true → (is_exponent b && c == 126) ≡ false
no_exponent_x b c h =
    let f : (b == 120) ≡ true = and_left (b == 120) (is_hexadecimal c) h in
    let g : is_exponent b ≡ false = grind (arith, nat_tests) in
    ap (λ t. t && c == 126) g

false_true : false ≡ true → ⊥
false_true h = cc

and_false_true : (x : Bool) → (x && false) ≡ true → ⊥
and_false_true true h = cc
and_false_true false h = cc

lacks_by : (s k : ℕ) (negative : Bool) (digits rest : List ℕ) (e : ℕ) {l : Lack} → Begun digits rest (Some l) → ((y : ℕ) (zs : List ℕ) → rest ≡ y ∷ zs → is_digit y ≡ false) →
    EndsBadly (numbers s k negative digits) e rest (Unsupported k l)
lacks_by s k negative digits [] e (real h) stops = absurd (false_true h)
lacks_by s k negative digits [] e (word f h) stops = absurd (and_false_true (is_zero digits) h)
lacks_by s k negative digits [] e (hexadecimal f g h) stops = absurd (and_false_true (is_zero digits) h)
lacks_by s k negative digits (b ∷ []) e (real h) stops = absurd (false_true h)
lacks_by s k negative digits (b ∷ []) e (word f h) stops = absurd (and_false_true (is_zero digits) h)
lacks_by s k negative digits (b ∷ []) e (hexadecimal f g h) stops = absurd (and_false_true (is_zero digits) h)
lacks_by s k negative digits (b ∷ c ∷ bs) e (real h) stops = real_case s k negative digits e b c bs (stops b (c ∷ bs) refl) ((b == 46 || is_exponent b) && is_digit c) refl h
lacks_by s k negative digits (b ∷ c ∷ bs) e (word f h) stops =
    two_bytes s k negative digits e b c bs lack.Words (stops b (c ∷ bs) refl)
    (ap (λ w. cond w (Some (Refused (Unsupported k lack.Reals))) (cond (is_zero digits && is_word (b ∷ c ∷ [])) (Some (Refused (Unsupported k lack.Words))) (cond (is_zero digits && is_hexadecimal_form (b ∷ c ∷ [])) (Some (Refused (Unsupported k lack.Hexadecimal))) None)))
    (or_left ((b == 46 || is_exponent b) && is_digit c) (is_exponent b && (c == 126 && first_is_digit bs)) f)
    ∙ ap (λ w. cond w (Some (Refused (Unsupported k lack.Words))) (cond (is_zero digits && is_hexadecimal_form (b ∷ c ∷ [])) (Some (Refused (Unsupported k lack.Hexadecimal))) None)) h)
    (no_exponent_w b c (and_right (is_zero digits) (b == 119 && (is_digit c || c == 120)) h))
lacks_by s k negative digits (b ∷ c ∷ bs) e (hexadecimal f g h) stops =
    two_bytes s k negative digits e b c bs lack.Hexadecimal (stops b (c ∷ bs) refl)
    (ap (λ w. cond w (Some (Refused (Unsupported k lack.Reals))) (cond (is_zero digits && is_word (b ∷ c ∷ [])) (Some (Refused (Unsupported k lack.Words))) (cond (is_zero digits && is_hexadecimal_form (b ∷ c ∷ [])) (Some (Refused (Unsupported k lack.Hexadecimal))) None)))
    (or_left ((b == 46 || is_exponent b) && is_digit c) (is_exponent b && (c == 126 && first_is_digit bs)) f)
    ∙ (ap (λ w. cond w (Some (Refused (Unsupported k lack.Words))) (cond (is_zero digits && is_hexadecimal_form (b ∷ c ∷ [])) (Some (Refused (Unsupported k lack.Hexadecimal))) None)) g
    ∙ ap (λ w. cond w (Some (Refused (Unsupported k lack.Hexadecimal))) None) h))
    (no_exponent_x b c (and_right (is_zero digits) (b == 120 && is_hexadecimal c) h))

-- where a lack begins, it is the longest piece
pub number_lacks : (s k : ℕ) (negative : Bool) (digits rest : List ℕ) (e : ℕ) (l : Lack) → lack_begun digits rest ≡ Some l → ((y : ℕ) (zs : List ℕ) → rest ≡ y ∷ zs → is_digit y ≡ false) →
    EndsBadly (numbers s k negative digits) e rest (Unsupported k l)
number_lacks s k negative digits rest e l h stops = lacks_by s k negative digits rest e (subst (λ o. Begun digits rest o) h (begun digits rest)) stops

-- a number whose first digit stands at i and whose digits end at m
module _ (s i m : ℕ) (negative : Bool) (bs : List ℕ) (l : i < length bs) (g : i + 1 ≤ m) (run : RunTo is_digit (i + 1) (drop (i + 1) bs) m) where
  past : (r : Reading) (to : ℕ) → Ends (numbers s i negative (slice_range bs i m)) m (drop m bs) r to → Ends (numbers s i negative (get_or bs i 0 ∷ [])) (i + 1) (drop (i + 1) bs) r to
  past r to e =
      past_run (numbers s i negative) is_digit bs (i + 1) m (get_or bs i 0 ∷ []) r to (λ taken b q h. number_takes s i negative taken b q h) run
      (subst (λ w. Ends (numbers s i negative w) m (drop m bs) r to) (slice_first bs i m (omega arith) l) e)

  stops : (y : ℕ) (zs : List ℕ) → drop m bs ≡ y ∷ zs → is_digit y ≡ false
  stops y zs e = run_stops is_digit bs (i + 1) m run y zs e

  pub number_refused : (k : Lack) → lack_begun (slice_range bs i m) (drop m bs) ≡ Some k → EndsBadly (numbers s i negative (get_or bs i 0 ∷ [])) (i + 1) (drop (i + 1) bs) (Unsupported i k)
  number_refused k h =
      let d : EndsBadly (numbers s i negative (slice_range bs i m)) m (drop m bs) (Unsupported i k) = number_lacks s i negative (slice_range bs i m) (drop m bs) m k h stops in
      (d.0, past (Refused (Unsupported i k)) d.0 d.1)

  pub number_whole : (r : Reading) → lack_begun (slice_range bs i m) (drop m bs) ≡ None → integer s negative (slice_range bs i m) ≡ r → Ends (numbers s i negative (get_or bs i 0 ∷ [])) (i + 1) (drop (i + 1) bs) r m
  number_whole r h e =
      past r m (halt (numbers s i negative (slice_range bs i m)) m (drop m bs) r (number_at_end s i negative (slice_range bs i m) ∙ ap Some e)
      (number_halts s i negative (slice_range bs i m) (drop m bs) h stops))

-- digits that come to more than a limit stay above it
pub distance_past : (n i limit : ℕ) (ds : List ℕ) → i < length ds → decimal_from n (drop i ds) ≡ decimal_from 0 ds → limit < 10 * n + (get_or ds i 0 - 48) → limit < decimal_from 0 ds
distance_past n i limit ds h e f =
    let m : ℕ = 10 * n + (get_or ds i 0 - 48) in
    let g : m ≤ decimal_from m (drop (i + 1) ds) = decimal_grows m (drop (i + 1) ds) in
    subst (λ z. limit < z) (sym (at_drop_more (decimal_from n) ds i 0 h) ∙ e) (lt_of_lt_of_le f g)
