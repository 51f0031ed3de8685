-- Bindings of names, the innermost last, and what a name stands for among them. Of this project; the environments of the
-- Definition of Standard ML, section 4.2, one binding at a time.
use Rattle.std.specs.Prelude.{◌≡◌, ℕ, suc, ◌<◌, ◌==◌, Bool, true, false, List, [], ◌∷◌, length, map, take, get_or, Option, Some, None, if◌then◌else◌}
use Rattle.hm_scheme.specs.declared.scope.Bound.{Bound}

-- a name and what it stands for, both by numbers
abbrev pub Binding : Type 0
Binding = ℕ × ℕ

-- the first of two, or where there is none the second
abbrev pub first_of_two : Option ℕ → Option ℕ → Option ℕ
first_of_two None second = second
first_of_two (Some x) second = Some x

-- what the name stands for: by its last binding
abbrev pub meaning_in : List Binding → ℕ → Option ℕ
meaning_in [] name = None
meaning_in (b ∷ bs) name = first_of_two (meaning_in bs name) (if b.0 == name then Some b.1 else None)

-- the bindings of a list with places
abbrev pub shown : List Bound → List Binding
shown bounds = map (λ b. (b.name, b.meaning)) bounds

abbrev pub place_after : Option ℕ → Bool → Option ℕ
place_after (Some i) here = Some (suc i)
place_after None true = Some 0
place_after None false = None

-- the place of the last binding of a name
abbrev pub last_place : List Bound → ℕ → Option ℕ
last_place [] name = None
last_place (b ∷ bs) name = place_after (last_place bs name) (b.name == name)

abbrev pub bound_at : List Bound → ℕ → Bound
bound_at bounds i = get_or bounds i (record { name = 0; meaning = 0; outer = None })

-- the list of places tells for each name where its last binding is, and each binding where the one outside it is
pub record IsIndexed (bounds : List Bound) (innermost : List (Option ℕ)) : Type 0 where
  pub inner : (name : ℕ) → get_or innermost name None ≡ last_place bounds name
  pub outer : (i : ℕ) → i < length bounds → (bound_at bounds i).outer ≡ last_place (take i bounds) ((bound_at bounds i).name)
