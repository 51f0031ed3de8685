-- What the line of a refusal tells is read from it.
use Rattle.std.proofs.Common.{◌≡◌, ℕ, ◌+◌, ◌*◌, ◌-◌, ◌^◌, ◌<◌, ◌≤◌, true, false, List, [], ◌∷◌, ◌++◌, length, Option, Some, None, refl, ap, sym, ◌∙◌, arith, append_assoc, length-append, subst}
use Rattle.std.specs.Prelude.{min, codes}
use Rattle.std.specs.Fmt.{decimal}
use Rattle.std.specs.Char.{digit_value, is_ascii_digit}
use Rattle.std.specs.Str.Parse.{AllDigits, digits_value_after}
use Rattle.std.proofs.lemmas.Fmt.{decimal_is_IsNumeral}
use Rattle.std.proofs.lemmas.Str.{digit_value_digit}
use Rattle.std.proofs.lemmas.Str.Parse.{digit_from_value}
use Rattle.std.proofs.Math.Seq.{get_or-append_seam}
use Rattle.std.proofs.lemmas.Bool.{ne_eqb}
use Rattle.std.proofs.Math.Seq.{take-append_seam}
use Rattle.smlserver_top.specs.Reading.{after, ◌>>=◌}
use Rattle.smlserver_top.specs.Told.{number_behind, number_of, cut_last, without_feed, by_words, told_of}
use Rattle.smlserver_top.specs.RefusedLine.{is_blank, IsWord, Tells}
use Rattle.smlserver_top.proofs.Options.{after-append, then_some}
use Rattle.smlserver_top.proofs.ToldLaws.{cut_word}

-- more digits make no smaller number
grows : (n : ℕ) (digits : List ℕ) → n ≤ digits_value_after 10 n digits
grows n [] = omega arith
grows n (d ∷ digits) = let more = grows (n * 10 + digit_value d) digits in omega (arith, more)

is_digit_of : (d : ℕ) → digit_value d < 10 → is_ascii_digit d ≡ true
is_digit_of d below = let r = digit_from_value d below in grind (arith, r)

step : (n d digit : ℕ) (digits : List ℕ) → digit + 48 ≡ d → digits_value_after 10 (n * 10 + digit) digits < 2 ^ 64 → min (min (n * 10) (2 ^ 64 - 1) + (d - 48)) (2 ^ 64 - 1) ≡ n * 10 + digit
step n d digit digits is fits = let more = grows (n * 10 + digit) digits in omega (arith, is, fits, more)

digits_read : (n : ℕ) (digits : List ℕ) → AllDigits 10 digits → digits_value_after 10 n digits < 2 ^ 64 → number_behind n digits ≡ Some (digits_value_after 10 n digits)
digits_read n [] all fits = refl
digits_read n (d ∷ digits) all fits =
    let value = digit_value_digit d (digit_from_value d all.0) in
    rw (is_digit_of d all.0, step n d (digit_value d) digits value fits) (digits_read (n * 10 + digit_value d) digits all.1 fits)

pub number_read : (n : ℕ) → n < 2 ^ 64 → number_of (decimal n) ≡ Some n
number_read n fits =
    let d = decimal_is_IsNumeral n fits in
    digits_read 0 (decimal n) d.0.1 (subst (λ m. m < 2 ^ 64) (sym d.1) fits) ∙ ap Some d.1

digit_no_blank : (d : ℕ) → digit_value d < 10 → is_blank d ≡ false
digit_no_blank d below = let r = digit_from_value d below in ne_eqb d 32 (λ e. absurd (omega (arith, r, e)))

digits_word : (digits : List ℕ) → AllDigits 10 digits → IsWord digits
digits_word [] all = refl
digits_word (d ∷ digits) all = rw (digit_no_blank d all.0) (digits_word digits all.1)

number_word : (n : ℕ) → n < 2 ^ 64 → IsWord (decimal n)
number_word n fits = digits_word (decimal n) (decimal_is_IsNumeral n fits).0.1

feed_taken : (text : List ℕ) → without_feed (text ++ 10 ∷ []) ≡ text
feed_taken text =
    let long : length (text ++ 10 ∷ []) - 1 ≡ length text = omega (arith, length-append text (10 ∷ [])) in
    rw (long, get_or-append_seam text 10 [] 0, take-append_seam text (10 ∷ [])) refl

-- the last words of a text
two_words : (file digits name : List ℕ) → IsWord digits → IsWord name → cut_last (file ++ (32 ∷ (digits ++ 32 ∷ name))) ≡ Some (file ++ 32 ∷ digits, name)
two_words file digits name d n =
    ap cut_last (sym (append_assoc file (32 ∷ digits) (32 ∷ name))) ∙ cut_word (file ++ 32 ∷ digits) name n

by_number : (file name : List ℕ) (place : ℕ) → place < 2 ^ 64 → IsWord name → (cut_last (file ++ (32 ∷ (decimal place ++ 32 ∷ name))) >>= λ back. cut_last back.0 >>= λ front. by_words front.0 front.1 back.1 (number_of front.1)) ≡ Some (file, place, name, None)
by_number file name place fits n =
    rw (two_words file (decimal place) name (number_word place fits) n, cut_word file (decimal place) (number_word place fits), number_read place fits) refl

by_lack : (file name lack : List ℕ) (place : ℕ) → place < 2 ^ 64 → IsWord name → IsWord lack → number_of name ≡ None → (cut_last (file ++ (32 ∷ (decimal place ++ 32 ∷ (name ++ 32 ∷ lack)))) >>= λ back. cut_last back.0 >>= λ front. by_words front.0 front.1 back.1 (number_of front.1)) ≡ Some (file, place, name, Some lack)
by_lack file name lack place fits n l none =
    let whole : file ++ (32 ∷ (decimal place ++ 32 ∷ (name ++ 32 ∷ lack))) ≡ (file ++ (32 ∷ (decimal place ++ 32 ∷ name))) ++ 32 ∷ lack =
    sym (append_assoc file (32 ∷ (decimal place ++ 32 ∷ name)) (32 ∷ lack) ∙ ap (λ t. file ++ 32 ∷ t) (append_assoc (decimal place) (32 ∷ name) (32 ∷ lack))) in
    rw (whole, cut_word (file ++ (32 ∷ (decimal place ++ 32 ∷ name))) lack l, two_words file (decimal place) name (number_word place fits) n, none, cut_word file (decimal place) (number_word place fits), number_read place fits) refl

-- the body of a line, without its LF
body_is : (file digits name : List ℕ) → without_feed (file ++ (32 ∷ (digits ++ (32 ∷ (name ++ 10 ∷ []))))) ≡ file ++ (32 ∷ (digits ++ 32 ∷ name))
body_is file digits name =
    ap without_feed (sym (append_assoc file (32 ∷ (digits ++ 32 ∷ name)) (10 ∷ []) ∙ ap (λ t. file ++ 32 ∷ t) (append_assoc digits (32 ∷ name) (10 ∷ []))))
    ∙ feed_taken (file ++ (32 ∷ (digits ++ 32 ∷ name)))

pub told_is : (line file : List ℕ) (place : ℕ) (name : List ℕ) (lack : Option (List ℕ)) → Tells line file place name lack → told_of line ≡ Some (file, place, name, lack)
unfolding told_of
told_is line file place name None t =
    let r = file ++ (32 ∷ (decimal place ++ (32 ∷ (name ++ 10 ∷ [])))) in
    let found : after (codes "refused ") line ≡ Some r = ap (after (codes "refused ")) t.line_is ∙ after-append (codes "refused ") r in
    then_some (after (codes "refused ") line) _ r (file, place, name, None) found
    (ap (λ b. cut_last b >>= λ back. cut_last back.0 >>= λ front. by_words front.0 front.1 back.1 (number_of front.1)) (body_is file (decimal place) name)
    ∙ by_number file name place t.place_fits t.name_word)
told_is line file place name (Some lack) t =
    let r = file ++ (32 ∷ (decimal place ++ (32 ∷ ((name ++ 32 ∷ lack) ++ 10 ∷ [])))) in
    let found : after (codes "refused ") line ≡ Some r = ap (after (codes "refused ")) t.line_is ∙ after-append (codes "refused ") r in
    then_some (after (codes "refused ") line) _ r (file, place, name, Some lack) found
    (ap (λ b. cut_last b >>= λ back. cut_last back.0 >>= λ front. by_words front.0 front.1 back.1 (number_of front.1)) (body_is file (decimal place) (name ++ 32 ∷ lack))
    ∙ by_lack file name lack place t.place_fits t.name_word t.lack_word.0 t.lack_word.1)
