-- The line of a refusal is read back.
use Rattle.std.proofs.Common.{◌≡◌, ℕ, suc, ◌+◌, ◌-◌, ◌<◌, ◌≤◌, Bool, true, false, List, [], ◌∷◌, ◌++◌, length, take, drop, Some, None, refl, ap, sym, ◌∙◌, subst, arith, get_or}
use Rattle.std.specs.Prelude.{◌||◌}
use Rattle.std.specs.List.{list_any}
use Rattle.std.proofs.lemmas.Bool.{eqb-true}
use Rattle.std.proofs.lemmas.List.{take_all, take-append-drop, length-drop}
use Rattle.std.proofs.Math.Seq.{drop-cons}
use Rattle.smlserver_top.specs.Told.{cut_behind, cut_last}
use Rattle.smlserver_top.specs.RefusedLine.{is_blank, IsWord}

none_of : (a b : Bool) → (a || b) ≡ false → (a ≡ false) × (b ≡ false)
none_of true b e = absurd (cc)
none_of false b e = (refl, e)

not_blank : (b : ℕ) → (b ≡ 32 → ⊥) → is_blank b ≡ false
not_blank b other = elim (is_blank b) as (λ r. is_blank b ≡ r → r ≡ false) [ true ↦ λ e. absurd (other (eqb-true b 32 e)) | false ↦ λ e. refl ] refl

-- a word has no cut
pub word_uncut : (text : List ℕ) → IsWord text → cut_last text ≡ None
word_uncut [] w = refl
word_uncut (b ∷ text) w =
    let n = none_of (is_blank b) (list_any is_blank text) w in
    rw (word_uncut text n.1, n.0) refl

-- the cut of a text stands before its last word
pub cut_word : (front word : List ℕ) → IsWord word → cut_last (front ++ 32 ∷ word) ≡ Some (front, word)
cut_word [] word w = rw (word_uncut word w) refl
cut_word (b ∷ front) word w = ap (cut_behind b (front ++ 32 ∷ word)) (cut_word front word w)

on_again : (n : ℕ) → 0 < n → suc (n - 1) ≡ n
on_again n some = omega (arith, some)

at_blank : (n : ℕ) (text : List ℕ) → 0 < n → n ≤ length text → drop (n - 1) text ≡ get_or text (n - 1) 0 ∷ drop n text
at_blank n text some within =
    drop-cons text (n - 1) 0 (omega (arith, some, within)) ∙ ap (λ m. get_or text (n - 1) 0 ∷ drop m text) (on_again n some)

pub cut_here : (n : ℕ) (text : List ℕ) → 0 < n → n ≤ length text → get_or text (n - 1) 0 ≡ 32 → IsWord (drop n text) → Some (take (n - 1) text, take (length text - (n - 1 + 1)) (drop (n - 1 + 1) text)) ≡ cut_last text
cut_here n text some within blank word =
    let same : n - 1 + 1 ≡ n = omega (arith, some) in
    let back : take (length text - (n - 1 + 1)) (drop (n - 1 + 1) text) ≡ drop n text =
    ap (λ m. take (length text - m) (drop m text)) same ∙ take_all (length text - n) (drop n text) (omega (arith, length-drop n text)) in
    let whole : take (n - 1) text ++ 32 ∷ drop n text ≡ text =
    ap (λ b. take (n - 1) text ++ b ∷ drop n text) (sym blank) ∙ ap (λ t. take (n - 1) text ++ t) (sym (at_blank n text some within)) ∙ take-append-drop (n - 1) text in
    ap (λ t. Some (take (n - 1) text, t)) back ∙ sym (cut_word (take (n - 1) text) (drop n text) word) ∙ ap cut_last whole

pub word_back : (n : ℕ) (text : List ℕ) → 0 < n → n ≤ length text → (get_or text (n - 1) 0 ≡ 32 → ⊥) → IsWord (drop n text) → IsWord (drop (n - 1) text)
word_back n text some within other word = rw (at_blank n text some within, not_blank (get_or text (n - 1) 0) other) word

pub whole_word : (n : ℕ) (text : List ℕ) → n ≤ 0 → IsWord (drop n text) → None ≡ cut_last text
whole_word n text none word =
    let zero : n ≡ 0 = omega (arith, none) in
    sym (word_uncut text (subst (λ m. IsWord (drop m text)) zero word))
