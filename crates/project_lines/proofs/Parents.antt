-- The parts of a name, and the search for `..` among them.
use Rattle.std.proofs.Common.{◌≡◌, ℕ, Bool, true, false, cond, List, [], ◌∷◌, Option, None, refl, ap, sym, ◌∙◌, inl, inr}
use Rattle.std.specs.Prelude.{◌==◌, ◌&&◌, ◌||◌, not, codes}
use Rattle.std.specs.List.{list_any, list_all, slice_split, onto_first}
use Rattle.std.specs.Str.{bytes_eq}
use Rattle.std.proofs.lemmas.Bool.{eqb-true}
use Rattle.project_lines.specs.Names.{has_parent}
use Rattle.project_lines.specs.Reading.{ends_part, parent_first, parent_later}
use Rattle.project_lines.specs.Reading.{after}
use Rattle.project_lines.proofs.Options.{chosen, split_and, not_true}

abbrev is_slash : ℕ → Bool
is_slash b = b == 47

abbrev is_parent : List ℕ → Bool
is_parent = bytes_eq (codes "..")

abbrev first_part : List ℕ → List ℕ
first_part [] = []
first_part (b ∷ name) = cond (b == 47) [] (b ∷ first_part name)

abbrev later_parts : List ℕ → List (List ℕ)
later_parts [] = []
later_parts (b ∷ name) = cond (b == 47) (slice_split is_slash name) (later_parts name)

parts_are : (name : List ℕ) → slice_split is_slash name ≡ first_part name ∷ later_parts name
parts_are [] = refl
parts_are (b ∷ name) =
    elim (b == 47) as (λ r. cond r ([] ∷ slice_split is_slash name) (onto_first b (slice_split is_slash name)) ≡ cond r [] (b ∷ first_part name) ∷ cond r (slice_split is_slash name) (later_parts name)) [
      | true ↦ refl
      | false ↦ ap (onto_first b) (parts_are name)
    ]

cond_same : (r : Bool) → cond r true false ≡ r
cond_same true = refl
cond_same false = refl

same_front : (r : Bool) (o : Option (List ℕ)) (e : Bool) → ends_part o ≡ e → ends_part (cond r o None) ≡ (r && e)
same_front true o e h = h
same_front false o e h = refl

-- a front without / is the first part exactly where a part ends behind it
first_is : (front name : List ℕ) → list_all (λ f. not (f == 47)) front ≡ true → ends_part (after front name) ≡ bytes_eq front (first_part name)
first_is [] [] n = refl
first_is [] (b ∷ name) n = elim (b == 47) as (λ r. r ≡ bytes_eq [] (cond r [] (b ∷ first_part name))) [ true ↦ refl | false ↦ refl ]
first_is (f ∷ front) [] n = refl
first_is (f ∷ front) (b ∷ name) n =
    let p = split_and (not (f == 47)) (list_all (λ f. not (f == 47)) front) n in
    elim (chosen (b == 47) true false (b == 47) (cond_same (b == 47))) [
      | inl w ↦
          let is = eqb-true b 47 w.0 in
          let other : (f == b) ≡ false = ap (λ c. f == c) is ∙ not_true (f == 47) p.0 in
          ap (λ r. ends_part (cond r (after front name) None)) other ∙ ap (λ r. bytes_eq (f ∷ front) (cond r [] (b ∷ first_part name))) (sym w.0)
      | inr w ↦
          same_front (f == b) (after front name) (bytes_eq front (first_part name)) (first_is front name p.1)
          ∙ ap (λ r. bytes_eq (f ∷ front) (cond r [] (b ∷ first_part name))) (sym w.0)
    ]

later_is : (name : List ℕ) → parent_later name ≡ list_any is_parent (later_parts name)
later_is [] = refl
later_is (b ∷ name) = elim (b == 47) as (λ r. ((r && parent_first name) || parent_later name) ≡ list_any is_parent (cond r (slice_split is_slash name) (later_parts name))) [
  | true ↦ ap (λ r. r || parent_later name) (first_is (codes "..") name refl) ∙ ap (λ r. is_parent (first_part name) || r) (later_is name) ∙ ap (list_any is_parent) (sym (parts_are name))
  | false ↦ later_is name
]

pub parent_parts : (name : List ℕ) → has_parent name ≡ (parent_first name || parent_later name)
parent_parts name =
    ap (list_any is_parent) (parts_are name)
    ∙ ap (λ r. is_parent (first_part name) || r) (sym (later_is name))
    ∙ ap (λ r. r || parent_later name) (sym (first_is (codes "..") name refl))
