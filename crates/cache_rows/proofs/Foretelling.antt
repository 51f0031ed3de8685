-- What a lookup will answer.
use Rattle.std.proofs.Common.{◌≡◌, ℕ, List, ◌∷◌, ◌++◌, filter, true, Some, None, refl, ap, sym, ◌∙◌, subst}
use Rattle.std.specs.List.{AllByRecursion, IsDistinct}
use Rattle.std.specs.Map.{keys_of, lookup}
use Rattle.web_data.specs.declared.cache.Kind.{Kind}
use Rattle.cache_rows.specs.declared.table.Cell.{Cell}
use Rattle.cache_rows.specs.RowMachine.{PickleRow, NoneNamed, Foretells, key_of, stays, current}
use Rattle.cache_rows.specs.Indexed.{Indexed, Entry, row_of, rows_of, same_key, is_key}
use Rattle.cache_rows.proofs.Lists.{all-append, all-left, all-right, all-weaker, all-filter, filter-with}
use Rattle.cache_rows.proofs.Indexing.{Apart, Order, out, apart, none-named, rows-append}

module _ (kind : Kind) (now : ℕ) (key : List ℕ) (rows : List PickleRow) where
  -- where no row of the key stays, it finds none
  pub foretold-none : NoneNamed key_of key (current kind.time now rows) → Foretells kind now key rows None
  foretold-none h None new m = refl
  foretold-none h (Some v) new f = absurd ((all-right _ f.before (f.row ∷ f.after) (subst (NoneNamed key_of key) f.found.whole h)).0 f.found.named)

  -- where one row of those that stay has the key, it finds that one
  foretold-some : (before : List PickleRow) (row : PickleRow) (after : List PickleRow) → current kind.time now rows ≡ before ++ row ∷ after → NoneNamed key_of key before → NoneNamed key_of key after → row.key ≡ key → Foretells kind now key rows (Some row.value)
  foretold-some before row after w b a k None new m = absurd ((all-right _ before (row ∷ after) (subst (NoneNamed key_of key) w m.absent)).0 k)
  foretold-some before row after w b a k (Some v) new f =
      let one = all-append (λ (x : PickleRow). x.key ≡ key → x ≡ row) before (row ∷ after) (all-weaker _ _ (λ x n e. absurd (n e)) before b) ((λ e. refl), all-weaker _ _ (λ x n e. absurd (n e)) after a) in
      let same = (all-right _ f.before (f.row ∷ f.after) (subst (AllByRecursion (λ (x : PickleRow). x.key ≡ key → x ≡ row)) (sym w ∙ f.found.whole) one)).0 f.found.named in
      ap Some (f.answer ∙ ap (λ (x : PickleRow). x.value) same)

-- where the key has an entry whose row stays, a lookup finds its value
pub foretold : (es : List Entry) (os : Order) (births total : ℕ) → Indexed es os births total → (key : List ℕ) (cell : Cell) → lookup (is_key key) es ≡ Some cell → (kind : Kind) (now : ℕ) → stays kind.time now cell.stamp ≡ true → Foretells kind now key (rows_of es) (Some cell.value)
foretold es os births total x key cell found kind now alive =
    let o = out key es cell found in
    let test = λ (r : PickleRow). stays kind.time now r.stamp in
    let alone = subst (λ z. Apart z (o.before ++ o.after)) o.key_is (apart o.before (o.name, cell) o.after (subst (λ z. IsDistinct same_key (keys_of z)) o.whole x.differ)) in
    let none = subst (NoneNamed key_of key) (rows-append o.before o.after) (none-named key (o.before ++ o.after) alone) in
    foretold-some kind now key (rows_of es) (filter test (rows_of o.before)) (row_of (o.name, cell)) (filter test (rows_of o.after))
    (ap (λ z. filter test (rows_of z)) o.whole ∙ (ap (filter test) (rows-append o.before ((o.name, cell) ∷ o.after)) ∙ filter-with test (rows_of o.before) (row_of (o.name, cell)) (rows_of o.after) alive))
    (all-filter _ test (rows_of o.before) (all-left _ (rows_of o.before) (rows_of o.after) none))
    (all-filter _ test (rows_of o.after) (all-right _ (rows_of o.before) (rows_of o.after) none))
    o.key_is
