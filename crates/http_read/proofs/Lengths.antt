-- The length of a body.
use Rattle.std.proofs.Common.{◌≡◌, ℕ, ◌+◌, ◌-◌, ◌*◌, ◌≤◌, ◌<◌, Bool, true, false, ◌&&◌, List, [], ◌∷◌, Some, None, refl, sym, ap, ◌∙◌, subst, arith}
use Rattle.std.specs.Prelude.{nat_lt}
use Rattle.std.proofs.lemmas.Bool.{lt-ltb, le-ltb}
use Rattle.std.specs.List.{list_all}
use Rattle.std.specs.Char.{is_ascii_digit}
use Rattle.http_read.specs.Head.{Refuses, Takes, first_value, is_length, number_after, most_body, judge_length}

-- more digits make no smaller number
pub number_grows : (n : ℕ) (digits : List ℕ) → n ≤ number_after n digits
number_grows n [] = omega arith
number_grows n (digit ∷ digits) =
    let h = number_grows (n * 10 + (digit - 48)) digits in omega (arith, h)

pub no_value : (values : List (List ℕ)) → first_value values ≡ None → judge_length values ≡ Takes 0
no_value [] e = refl
no_value (value ∷ values) e = cc

pub unlike_values : (values : List (List ℕ)) (value : List ℕ) → first_value values ≡ Some value → list_all (is_length value) values ≡ false → judge_length values ≡ Refuses 400
unlike_values [] value e h = cc
unlike_values (first ∷ values) value e h =
    let same : first ≡ value = cc in
    let h' : list_all (is_length first) (first ∷ values) ≡ false = subst (λ (x : List ℕ). list_all (is_length x) (first ∷ values) ≡ false) (sym same) h in
    rw h' refl

both_left : (a b : Bool) → (a && b) ≡ true → a ≡ true
both_left true b h = refl
both_left false b h = h

both_right : (a b : Bool) → (a && b) ≡ true → b ≡ true
both_right true b h = h
both_right false b h = cc

pub value_digits : (values : List (List ℕ)) (value : List ℕ) → first_value values ≡ Some value → list_all (is_length value) values ≡ true → list_all is_ascii_digit value ≡ true
value_digits [] value e h = cc
value_digits (first ∷ values) value e h =
    let same : first ≡ value = cc in
    let h' : list_all (is_length value) (value ∷ values) ≡ true = subst (λ (x : List ℕ). list_all (is_length value) (x ∷ values) ≡ true) same h in
    both_right _ _ (both_left _ _ (both_left _ _ h'))

pub large_value : (values : List (List ℕ)) (value : List ℕ) → first_value values ≡ Some value → list_all (is_length value) values ≡ true → most_body < number_after 0 value → judge_length values ≡ Refuses 413
large_value [] value e h large = cc
large_value (first ∷ values) value e h large =
    let same : first ≡ value = cc in
    let h' : list_all (is_length first) (first ∷ values) ≡ true = subst (λ (x : List ℕ). list_all (is_length x) (first ∷ values) ≡ true) (sym same) h in
    let l : nat_lt most_body (number_after 0 first) ≡ true = subst (λ (x : List ℕ). nat_lt most_body (number_after 0 x) ≡ true) (sym same) (lt-ltb most_body (number_after 0 value) large) in
    rw h' (rw l refl)

pub fit_value : (values : List (List ℕ)) (value : List ℕ) (n : ℕ) → first_value values ≡ Some value → list_all (is_length value) values ≡ true → n ≡ number_after 0 value → n ≤ most_body → judge_length values ≡ Takes n
fit_value [] value n e h is small = cc
fit_value (first ∷ values) value n e h is small =
    let same : first ≡ value = cc in
    let h' : list_all (is_length first) (first ∷ values) ≡ true = subst (λ (x : List ℕ). list_all (is_length x) (first ∷ values) ≡ true) (sym same) h in
    let is' : n ≡ number_after 0 first = is ∙ ap (number_after 0) (sym same) in
    let l : nat_lt most_body (number_after 0 first) ≡ false = le-ltb most_body (number_after 0 first) (omega (arith, is', small)) in
    rw h' (rw l (ap Takes (sym is')))
