-- Lists of tokens, from lists of trees.
use Rattle.std.proofs.Common.{◌≡◌, ℕ, List, [], ◌∷◌, ◌++◌, Bool, true, false, refl, ap, ap₂, sym, ◌∙◌, map, append_assoc, append-nil}
use Rattle.std.specs.Prelude.{flat_map, codes}
use Rattle.sml_syntax.specs.declared.token.TokenForm.TheVariants as f
use Rattle.print_laws.specs.Printing.{Forms, parted, alternatives_from, alternatives}

pub flat_map_map : {A B : Type 0} (g : B → Forms) (k : A → B) (xs : List A) → flat_map g (map k xs) ≡ flat_map (λ x. g (k x)) xs
flat_map_map g k [] = refl
flat_map_map g k (x ∷ xs) = ap (λ w. g (k x) ++ w) (flat_map_map g k xs)

pub parted_map : {A B : Type 0} (m : List ℕ) (g : B → Forms) (k : A → B) (xs : List A) → parted m g (map k xs) ≡ parted m (λ x. g (k x)) xs
parted_map m g k [] = refl
parted_map m g k (x ∷ xs) = ap (λ w. g (k x) ++ w) (flat_map_map (λ y. f.Mark m ∷ g y) k xs)

pub flat_map_same : {A : Type 0} (g h : A → Forms) → ((x : A) → g x ≡ h x) → (xs : List A) → flat_map g xs ≡ flat_map h xs
flat_map_same g h k [] = refl
flat_map_same g h k (x ∷ xs) = ap₂ (λ u v. u ++ v) (k x) (flat_map_same g h k xs)

pub parted_same : {A : Type 0} (m : List ℕ) (g h : A → Forms) → ((x : A) → g x ≡ h x) → (xs : List A) → parted m g xs ≡ parted m h xs
parted_same m g h k [] = refl
parted_same m g h k (x ∷ xs) = ap₂ (λ u v. u ++ v) (k x) (flat_map_same (λ y. f.Mark m ∷ g y) (λ y. f.Mark m ∷ h y) (λ y. ap (λ z. f.Mark m ∷ z) (k y)) xs)

from_map : {A B : Type 0} (g : Bool → B → Forms) (k : A → B) (x : A) (xs : List A) → alternatives_from g (k x) (map k xs) ≡ alternatives_from (λ last y. g last (k y)) x xs
from_map g k x [] = refl
from_map g k x (y ∷ ys) = ap (λ w. g false (k x) ++ f.Mark (codes "|") ∷ w) (from_map g k y ys)

pub alternatives_map : {A B : Type 0} (g : Bool → B → Forms) (k : A → B) (xs : List A) → alternatives g (map k xs) ≡ alternatives (λ last x. g last (k x)) xs
alternatives_map g k [] = refl
alternatives_map g k (x ∷ xs) = from_map g k x xs

from_same : {A : Type 0} (g h : Bool → A → Forms) → ((last : Bool) (x : A) → g last x ≡ h last x) → (x : A) (xs : List A) → alternatives_from g x xs ≡ alternatives_from h x xs
from_same g h k x [] = k true x
from_same g h k x (y ∷ ys) = ap₂ (λ u v. u ++ f.Mark (codes "|") ∷ v) (k false x) (from_same g h k y ys)

pub alternatives_same : {A : Type 0} (g h : Bool → A → Forms) → ((last : Bool) (x : A) → g last x ≡ h last x) → (xs : List A) → alternatives g xs ≡ alternatives h xs
alternatives_same g h k [] = refl
alternatives_same g h k (x ∷ xs) = from_same g h k x xs

-- one before a bar
abbrev pub before_bar : {A : Type 0} → (Bool → A → Forms) → A → Forms
before_bar g x = g false x ++ f.Mark (codes "|") ∷ []

-- those before the last one, each with a bar behind it, and the last one
from_split : {A : Type 0} (g : Bool → A → Forms) (x : A) (xs : List A) (last : A) → alternatives_from g x (xs ++ last ∷ []) ≡ flat_map (before_bar g) (x ∷ xs) ++ g true last
from_split g x [] last =
    sym (append_assoc (g false x) (f.Mark (codes "|") ∷ []) (g true last)) ∙ ap (λ z. z ++ g true last) (sym (append-nil (before_bar g x)))
from_split g x (y ∷ ys) last =
    ap (λ z. g false x ++ f.Mark (codes "|") ∷ z) (from_split g y ys last)
    ∙ (sym (append_assoc (g false x) (f.Mark (codes "|") ∷ []) (flat_map (before_bar g) (y ∷ ys) ++ g true last))
    ∙ sym (append_assoc (before_bar g x) (flat_map (before_bar g) (y ∷ ys)) (g true last)))

pub alternatives_split : {A : Type 0} (g : Bool → A → Forms) (xs : List A) (last : A) → alternatives g (xs ++ last ∷ []) ≡ flat_map (before_bar g) xs ++ g true last
alternatives_split g [] last = refl
alternatives_split g (x ∷ xs) last = from_split g x xs last
