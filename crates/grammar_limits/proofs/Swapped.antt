-- The order of lacks of one kind doesn't matter to the lowest.
use Rattle.std.proofs.Common.{◌≡◌, ℕ, ◌<◌, ◌≤◌, nat_lt, cond, List, [], ◌∷◌, ◌++◌, Bool, true, false, Option, Some, None, refl, ap, ap₂, sym, ◌∙◌, arith, lt-ltb, le-ltb, ltb-true, ltb-false}
use Rattle.sml_syntax.specs.NestedTypes.{Found}
use Rattle.grammar_rules.specs.Programs.{Each}
use Rattle.parse_limits.specs.Lacks.{lower, lower_found}
use Rattle.grammar_limits.specs.Finds.{lowest}

second : (x y : Found) → y.0 < x.0 → lower_found x y ≡ y
second x y h = ap (λ w. cond w y x) (lt-ltb y.0 x.0 h)

first : (x y : Found) → x.0 ≤ y.0 → lower_found x y ≡ x
first x y h = ap (λ w. cond w y x) (le-ltb y.0 x.0 h)

through : (a b c : ℕ) → c < b → b < a → c < a
through a b c h i = omega (arith, h, i)

along : (a b c : ℕ) → a ≤ b → b ≤ c → a ≤ c
along a b c h i = omega (arith, h, i)

one-place : (a b : ℕ) → a ≤ b → b ≤ a → a ≡ b
one-place a b h i = omega (arith, h, i)

never : (a b : ℕ) → a < b → b < a → ⊥
never a b h i = omega (arith, h, i)

grouped : (z x y : Found) (p q : Bool) → nat_lt x.0 z.0 ≡ p → nat_lt y.0 x.0 ≡ q → lower_found (lower_found z x) y ≡ lower_found z (lower_found x y)
grouped z x y true true h i =
    let u = ltb-true x.0 z.0 h in let v = ltb-true y.0 x.0 i in
    ap (λ w. lower_found w y) (second z x u) ∙ second x y v ∙ sym (ap (lower_found z) (second x y v) ∙ second z y (through z.0 x.0 y.0 v u))
grouped z x y true false h i =
    let u = ltb-true x.0 z.0 h in let v = ltb-false y.0 x.0 i in
    ap (λ w. lower_found w y) (second z x u) ∙ first x y v ∙ sym (ap (lower_found z) (first x y v) ∙ second z x u)
grouped z x y false true h i =
    let u = ltb-false x.0 z.0 h in let v = ltb-true y.0 x.0 i in
    ap (λ w. lower_found w y) (first z x u) ∙ sym (ap (lower_found z) (second x y v))
grouped z x y false false h i =
    let u = ltb-false x.0 z.0 h in let v = ltb-false y.0 x.0 i in
    ap (λ w. lower_found w y) (first z x u) ∙ first z y (along z.0 x.0 y.0 u v) ∙ sym (ap (lower_found z) (first x y v) ∙ first z x u)

pair-same : (x y : Found) → x.0 ≡ y.0 → x.1 ≡ y.1 → x ≡ y
pair-same (a, b) (c, d) h i = ap₂ (λ u v. (u, v)) h i

turned : (x y : Found) (p q : Bool) → nat_lt y.0 x.0 ≡ p → nat_lt x.0 y.0 ≡ q → x.1 ≡ y.1 → lower_found x y ≡ lower_found y x
turned x y true true h i s = absurd (never y.0 x.0 (ltb-true y.0 x.0 h) (ltb-true x.0 y.0 i))
turned x y true false h i s = second x y (ltb-true y.0 x.0 h) ∙ sym (first y x (ltb-false x.0 y.0 i))
turned x y false true h i s = first x y (ltb-false y.0 x.0 h) ∙ sym (second y x (ltb-true x.0 y.0 i))
turned x y false false h i s = first x y (ltb-false y.0 x.0 h) ∙ pair-same x y (one-place x.0 y.0 (ltb-false y.0 x.0 h) (ltb-false x.0 y.0 i)) s ∙ sym (first y x (ltb-false x.0 y.0 i))

pub swapped : (found : Option Found) (x y : Found) → x.1 ≡ y.1 → lower (lower found (Some x)) (Some y) ≡ lower (lower found (Some y)) (Some x)
swapped None x y s = ap Some (turned x y (nat_lt y.0 x.0) (nat_lt x.0 y.0) refl refl s)
swapped (Some z) x y s = ap Some (grouped z x y (nat_lt x.0 z.0) (nat_lt y.0 x.0) refl refl
    ∙ ap (lower_found z) (turned x y (nat_lt y.0 x.0) (nat_lt x.0 y.0) refl refl s)
    ∙ sym (grouped z y x (nat_lt y.0 z.0) (nat_lt x.0 y.0) refl refl))

-- one behind others of its kind may as well stand before them
pub lowest-last : (found : Option Found) (y : Found) (ls : List Found) → Each (λ (x : Found). x.1 ≡ y.1) ls → lowest found (ls ++ y ∷ []) ≡ lowest found (y ∷ ls)
lowest-last found y [] e = refl
lowest-last found y (x ∷ ls) e = lowest-last (lower found (Some x)) y ls e.1 ∙ ap (λ z. lowest z ls) (swapped found x y e.0)
