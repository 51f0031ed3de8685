-- Exactly one field.
use Rattle.std.proofs.Common.{◌≡◌, ℕ, zero, suc, ◌∙◌, Bool, true, false, List, [], ◌∷◌, length, map, cond, refl, sym, ap, arith}
use Rattle.std.proofs.lemmas.Bool.{ne_eqb}
use Rattle.std.specs.Prelude.{filter, ◌==◌}
use Rattle.http_read.specs.Head.{Field, is_named, count_fields}
use Rattle.http_read.specs.Fields.{is_lone_after}

-- the count, by whether the first field has the name
counted : (name : List ℕ) (field : Field) (fields : List Field) (b : Bool) → is_named name field ≡ b → count_fields name (field ∷ fields) ≡ length (map (λ (f : Field). f.1) (cond b (field ∷ filter (is_named name) fields) (filter (is_named name) fields)))
counted name field fields b h =
    ap (λ (c : Bool). length (map (λ (f : Field). f.1) (cond c (field ∷ filter (is_named name) fields) (filter (is_named name) fields)))) h

first_zero : (n : ℕ) → (suc n == 0) ≡ false
first_zero n = ne_eqb (suc n) 0 (λ e. omega (arith, e))

first_one : (n : ℕ) → (suc n == 1) ≡ (n == 0)
first_one zero = refl
first_one (suc k) = ne_eqb (suc (suc k)) 1 (λ e. omega (arith, e)) ∙ sym (ne_eqb (suc k) 0 (λ e. omega (arith, e)))

last_at : (name : List ℕ) (field : Field) (fields : List Field) (b : Bool) → is_named name field ≡ b → is_lone_after name true fields ≡ (count_fields name fields == 0) → is_lone_after name true (field ∷ fields) ≡ (count_fields name (field ∷ fields) == 0)
last_at name field fields true h next =
    ap (λ (c : Bool). cond c false (is_lone_after name true fields)) h ∙ sym (first_zero (count_fields name fields)) ∙ ap (λ n. n == 0) (sym (counted name field fields true h))
last_at name field fields false h next =
    ap (λ (c : Bool). cond c false (is_lone_after name true fields)) h ∙ next ∙ ap (λ n. n == 0) (sym (counted name field fields false h))

none_more : (name : List ℕ) (fields : List Field) → is_lone_after name true fields ≡ (count_fields name fields == 0)
none_more name [] = refl
none_more name (field ∷ fields) = last_at name field fields (is_named name field) refl (none_more name fields)

lone_at : (name : List ℕ) (field : Field) (fields : List Field) (b : Bool) → is_named name field ≡ b → is_lone_after name false fields ≡ (count_fields name fields == 1) → is_lone_after name false (field ∷ fields) ≡ (count_fields name (field ∷ fields) == 1)
lone_at name field fields true h next =
    ap (λ (c : Bool). cond c (is_lone_after name true fields) (is_lone_after name false fields)) h ∙ none_more name fields ∙ sym (first_one (count_fields name fields)) ∙ ap (λ n. n == 1) (sym (counted name field fields true h))
lone_at name field fields false h next =
    ap (λ (c : Bool). cond c (is_lone_after name true fields) (is_lone_after name false fields)) h ∙ next ∙ ap (λ n. n == 1) (sym (counted name field fields false h))

pub lone : (name : List ℕ) (fields : List Field) → is_lone_after name false fields ≡ (count_fields name fields == 1)
lone name [] = refl
lone name (field ∷ fields) = lone_at name field fields (is_named name field) refl (lone name fields)
