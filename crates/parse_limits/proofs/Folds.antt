-- The fold of heights over acts, one act more, and lists by their places.
use Rattle.std.proofs.Common.{◌≡◌, ℕ, zero, suc, ◌+◌, ◌-◌, ◌<◌, List, [], ◌∷◌, ◌++◌, length, get_or, take, drop, max, Option, Some, None, refl, ap, sym, ◌∙◌, arith}
use Rattle.std.proofs.Math.Seq.{drop-cons}
use Rattle.std.specs.Prelude.{reverse}
use Rattle.std.specs.List.{slice_get}
use Rattle.std.proofs.lemmas.List.{get_or-reverse, length-reverse}
use Rattle.std.proofs.lemmas.Option.{slice_get-get_or}
use Rattle.sml_grammar.specs.declared.act.Made.{Made}
use Rattle.parse_limits.specs.Heights.{first_high, too_high, top_of, growth_of, grown_by, most, else_high}

pub high_next : (ms more : List Made) (m : Made) (hs : List ℕ) → ms ≡ m ∷ more → too_high m.act hs ≡ None → first_high ms hs ≡ first_high more (grown_by (growth_of m.act) hs)
unfolding first_high
high_next ms more m hs e h = ap (λ w. first_high w hs) e ∙ ap (λ o. else_high o (first_high more (grown_by (growth_of m.act) hs))) h

pub high_here : (ms more : List Made) (m : Made) (hs : List ℕ) (place : ℕ) → ms ≡ m ∷ more → too_high m.act hs ≡ Some place → first_high ms hs ≡ Some place
unfolding first_high
high_here ms more m hs place e h = ap (λ w. first_high w hs) e ∙ ap (λ o. else_high o (first_high more (grown_by (growth_of m.act) hs))) h

pub high_none : (ms : List Made) (hs : List ℕ) → ms ≡ [] → first_high ms hs ≡ None
unfolding first_high
high_none ms hs e = ap (λ w. first_high w hs) e

pub most_next : (acc left h : ℕ) (hs old : List ℕ) → old ≡ h ∷ hs → 0 < left → max (max acc h) (most (take (left - 1) hs)) ≡ max acc (most (take left old))
most_next acc zero h hs old e p = absurd (omega arith)
most_next acc (suc n) h hs old e p = ap (λ k. max (max acc h) (most (take k hs))) (back n) ∙ grouped acc h (most (take n hs)) ∙ sym (ap (λ w. max acc (most (take (suc n) w))) e)
  where
    back : (n : ℕ) → suc n - 1 ≡ n
    back n = omega arith

    grouped : (a b c : ℕ) → max (max a b) c ≡ max a (max b c)
    grouped a b c = omega arith

pub rest_next : (left h : ℕ) (hs old : List ℕ) → old ≡ h ∷ hs → 0 < left → drop (left - 1) hs ≡ drop left old
rest_next zero h hs old e p = absurd (omega arith)
rest_next (suc n) h hs old e p = ap (λ k. drop k hs) (back n) ∙ sym (ap (drop (suc n)) e)
  where
    back : (n : ℕ) → suc n - 1 ≡ n
    back n = omega arith

pub most_of_none : (left : ℕ) → most (take left []) ≡ 0
most_of_none zero = refl
most_of_none (suc n) = refl

-- an item, and those behind it
pub at_item : {X : Type 0} (xs : List X) (i : ℕ) (d x : X) → x ≡ get_or xs i d → i < length xs → drop i xs ≡ x ∷ drop (i + 1) xs
at_item xs i d x e h = drop-cons xs i d h ∙ ap (λ y. y ∷ drop (suc i) xs) (sym e) ∙ ap (λ j. x ∷ drop j xs) (next i)
  where
    next : (n : ℕ) → suc n ≡ n + 1
    next n = omega arith

-- what was pushed last is the first of the list in reverse
top_some : (hs : List ℕ) → 0 < length hs → top_of hs ≡ Some (get_or hs 0 0)
top_some [] h = absurd (omega arith)
top_some (x ∷ hs) h = refl

pub top_last : (xs : List ℕ) → slice_get xs (length xs - 1) ≡ top_of (reverse xs)
top_last [] = refl
top_last (x ∷ xs) =
    slice_get-get_or (x ∷ xs) (length (x ∷ xs) - 1) 0 (omega arith)
    ∙ ap Some (ap (λ k. get_or (x ∷ xs) k 0) (back (length (x ∷ xs))) ∙ sym (get_or-reverse (x ∷ xs) 0 0 (omega arith)))
    ∙ sym (top_some (reverse (x ∷ xs)) (rw (length-reverse (x ∷ xs)) (omega arith)))
  where
    back : (n : ℕ) → n - 1 ≡ n - 1 - 0
    back n = omega arith
