-- Rows of a key and a value, whose keys ascend.
use Rattle.std.proofs.Common.{◌≡◌, ℕ, ◌≤◌, ◌<◌, List, [], ◌∷◌, length, map, slice_index_or, true, Ordering, Less, Equal, Greater, refl, sym, ap, subst, ◌∙◌, inl, inr, arith}
use Rattle.std.specs.Prelude.{◌&&◌}
use Rattle.std.specs.List.{AllByRecursion}
use Rattle.std.specs.List.Sorted.{IsStrictlySortedBy}
use Rattle.std.specs.Ordering.{nat_cmp, is_lt}
use Rattle.std.specs.Cmp.Lexicographic.{slice_cmp}
use Rattle.std.proofs.lemmas.Bool.{eqb-true, and_parts}
use Rattle.std.proofs.lemmas.Cmp.{nat_list_cmp_total}
use Rattle.web_data.specs.declared.database.DbCmd.{DbCmd}
use Rattle.web_data.specs.declared.database.DbCmd.TheVariants as cmd
use Rattle.web_data.specs.declared.database.DbAns.{DbAns}
use Rattle.web_data.specs.declared.database.DbAns.TheVariants as ans
use Rattle.web_data.specs.DatabaseAnswers.{FitsCommand, row_of_entry, KeysAscend}
use Rattle.value_pickle.specs.Answers.{IsValue, AreEntries, is_entry, precedes, are_entries}

less_from : (o : Ordering) → is_lt o ≡ true → o ≡ Less
less_from Less h = refl
less_from Equal h = absurd cc
less_from Greater h = absurd cc

below_all : (a b : List ℕ) (ys : List (List ℕ)) → slice_cmp nat_cmp a b ≡ Less → AllByRecursion (λ y. slice_cmp nat_cmp b y ≡ Less) ys → AllByRecursion (λ y. slice_cmp nat_cmp a y ≡ Less) ys
below_all a b [] h all = tt
below_all a b (y ∷ ys) h all = (nat_list_cmp_total.trans a b y h all.0, below_all a b ys h all.1)

ascends : (key value : List ℕ) (entries : List (List ℕ × List ℕ)) → precedes (key ∷ value ∷ []) (map row_of_entry entries) ≡ true → KeysAscend entries → KeysAscend ((key, value) ∷ entries)
unfolding IsStrictlySortedBy
ascends key value [] h ascend = (tt, tt)
ascends key value (e ∷ entries) h ascend =
    let less = less_from (slice_cmp nat_cmp key e.0) h
    in ((less, below_all key e.0 (map (λ e. e.0) entries) less ascend.0), ascend)

pub entries_of : (rows : List (List (List ℕ))) → are_entries rows ≡ true → AreEntries rows
unfolding IsStrictlySortedBy
entries_of [] h = ([], tt, refl)
entries_of ((key ∷ value ∷ []) ∷ rows) h =
    let p = and_parts (precedes (key ∷ value ∷ []) rows) (are_entries rows) h
    in let rest = entries_of rows p.1
    in ((key, value) ∷ rest.0, ascends key value rest.0 (ap (precedes (key ∷ value ∷ [])) (sym rest.2) ∙ p.0) rest.1, ap (λ z. (key ∷ value ∷ []) ∷ z) rest.2)
entries_of ([] ∷ rows) h = absurd cc
entries_of ((key ∷ []) ∷ rows) h = absurd cc
entries_of ((key ∷ value ∷ more ∷ others) ∷ rows) h =
    absurd (omega (arith, eqb-true (length (key ∷ value ∷ more ∷ others)) 2 (and_parts (is_entry (key ∷ value ∷ more ∷ others)) (precedes (key ∷ value ∷ more ∷ others) rows && are_entries rows) h).0))

first_precedes : (e : List ℕ × List ℕ) (entries : List (List ℕ × List ℕ)) → KeysAscend (e ∷ entries) → precedes (row_of_entry e) (map row_of_entry entries) ≡ true
unfolding IsStrictlySortedBy
first_precedes e [] ascend = refl
first_precedes e (f ∷ entries) ascend = ap is_lt ascend.0.0

pub are_of_entries : (entries : List (List ℕ × List ℕ)) → KeysAscend entries → are_entries (map row_of_entry entries) ≡ true
unfolding IsStrictlySortedBy
are_of_entries [] ascend = refl
are_of_entries (e ∷ entries) ascend =
    ap (λ z. z && are_entries (map row_of_entry entries)) (first_precedes e entries ascend) ∙ are_of_entries entries ascend.1

pub all_fits : (command : DbCmd) (answer : DbAns) (table : List ℕ) (rows : List (List (List ℕ))) → command ≡ cmd.All table → answer ≡ ans.Rows rows → are_entries rows ≡ true → FitsCommand command answer
all_fits command answer table rows is-c is-a h =
    let p = entries_of rows h
    in subst (λ z. FitsCommand z answer) (sym is-c) (inr (p.0, p.1, is-a ∙ ap ans.Rows p.2))

same_rows : (a b : List (List (List ℕ))) → ans.Rows a ≡ ans.Rows b → a ≡ b
same_rows a b e = cc

pub all_fits_where : (command : DbCmd) (answer : DbAns) (table : List ℕ) (rows : List (List (List ℕ))) → command ≡ cmd.All table → answer ≡ ans.Rows rows → FitsCommand command answer → are_entries rows ≡ true
all_fits_where command answer table rows is-c is-a fits =
    elim (subst (λ z. FitsCommand z answer) is-c fits) [
      | inl none ↦ absurd (none_there rows (sym is-a ∙ none))
      | inr p ↦ ap are_entries (same_rows rows (map row_of_entry p.0) (sym is-a ∙ p.2)) ∙ are_of_entries p.0 p.1
    ]
  where
    none_there : (rows : List (List (List ℕ))) → ans.Rows rows ≡ ans.NoTable → ⊥
    none_there rows e = cc

pub one_value : (row : List (List ℕ)) → length row ≡ 1 → IsValue (row ∷ [])
one_value [] h = absurd (omega (arith, h))
one_value (value ∷ []) h = inr (value, refl)
one_value (value ∷ more ∷ others) h = absurd (omega (arith, h))

pub only_row : (rows : List (List (List ℕ))) (row : List (List ℕ)) → 1 ≤ length rows → length rows < 2 → row ≡ slice_index_or rows 0 row → rows ≡ row ∷ []
only_row [] row h below e = absurd (omega (arith, h))
only_row (first ∷ []) row h below e = ap (λ z. z ∷ []) (sym e)
only_row (first ∷ second ∷ others) row h below e = absurd (omega (arith, below))
