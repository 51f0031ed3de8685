-- Lines behind the end of a text, and the last line of a text with one.
use Rattle.std.proofs.Common.{◌≡◌, ℕ, zero, suc, ◌-◌, ◌≤◌, Bool, true, false, cond, List, [], ◌∷◌, length, refl, ap, sym, ◌∙◌, arith}
use Rattle.std.specs.Prelude.{◌==◌, ◌||◌, if◌then◌else◌}
use Rattle.std.specs.List.{list_any}
use Rattle.std.proofs.lemmas.Bool.{eqb-true}
use Rattle.smlserver_top.specs.Places.{is_feed, first_line, last_line, lines_behind, source_line}

pub none_behind : (n : ℕ) → lines_behind n [] ≡ []
none_behind zero = refl
none_behind (suc n) = none_behind n

none_of : (a b : Bool) → (a || b) ≡ false → (a ≡ false) × (b ≡ false)
none_of true b e = absurd (cc)
none_of false b e = (refl, e)

-- a text without an LF is one line
one_line : (text : List ℕ) → list_any is_feed text ≡ false → last_line text ≡ text
one_line [] e = refl
one_line (b ∷ text) e = let n = none_of (is_feed b) (list_any is_feed text) e in rw (n.1, n.0) refl

pub last_of : (text : List ℕ) → last_line text ≡ (if list_any is_feed text then last_line text else text)
last_of text = elim (list_any is_feed text) as (λ r. list_any is_feed text ≡ r → last_line text ≡ cond r (last_line text) text) [
  | true ↦ λ e. refl
  | false ↦ λ e. one_line text e
] refl

empty_of : (text : List ℕ) → (length text == 0) ≡ true → text ≡ []
empty_of [] e = refl
empty_of (b ∷ text) e = let h = eqb-true (length (b ∷ text)) 0 e in absurd (omega arith)

-- no line is left, or this one
pub none_left : (number left : ℕ) (text rest : List ℕ) → lines_behind (number - 1) text ≡ lines_behind (left - 1) rest → true ≡ (length rest == 0) → first_line rest ≡ source_line number text
none_left number left text rest same none =
    let e = empty_of rest (sym none) in
    ap first_line (e ∙ sym (none_behind (left - 1)) ∙ ap (lines_behind (left - 1)) (sym e) ∙ sym same)

pub one_left : (number left : ℕ) (text rest : List ℕ) → lines_behind (number - 1) text ≡ lines_behind (left - 1) rest → left ≤ 1 → first_line rest ≡ source_line number text
one_left number left text rest same least =
    let none : left - 1 ≡ 0 = omega (arith, least) in
    ap first_line (ap (λ n. lines_behind n rest) (sym none) ∙ sym same)
