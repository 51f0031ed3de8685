use Rattle.std.proofs.Common.{◌≡◌, ap, sym, subst, ◌∙◌, slice_get, slice_set, Some}
use Rattle.std.proofs.lemmas.Option.{get_or_from_slice_get}
use Rattle.cache_rows.specs.RowMachine.{PickleRow}
use Rattle.cache_rows.proofs.Lists.{if_so, if_not}
use Rattle.cache_rows.proofs.Listing.{finds}
use Rattle.cache_rows.proofs.list_rows.look_up.Goals as goal
use Rattle.cache_rows.proofs.list_rows.look_up.Goals.{then-kind, else-kind}

pub returns-clause-ok : goal.returns-clause-ok
returns-clause-ok c =
    let (row, e, alive, k) = c.in-Some.ensures.some in
    let items = c.args.rows.now.items in
    let at = c.in-Some.at in
    let there : slice_get items at ≡ Some row = subst (λ xs. slice_get xs at ≡ Some row) c.as_slice.ensures.value e in
    let value = c.in_ok-value.ensures ∙ ap (λ (r : PickleRow). r.value) (c.index.ensures ∙ get_or_from_slice_get items at row _ there) in
    finds c.args.kind c.args.now c.args.key.now items _ at row there alive k c.in_ok-value.value value c.if-kind.rows.items
    (elim c.if-kind.branch [
      | then-kind w ↦
          let lent = w.index_mut.ensures.value ∙ get_or_from_slice_get items at row _ there in
          ap (λ v. v.items) w.rows-is
          ∙ ((λ i. slice_set items at (record { key = (lent i).key; value = (lent i).value; stamp = c.args.now }))
          ∙ sym (if_so c.args.kind.used _ _ w.if-kind.true))
      | else-kind w ↦ ap (λ v. v.items) w.rows-is ∙ sym (if_not c.args.kind.used _ _ w.if-kind.false)
    ])
    c.drop_expired-2.ensures.items
