use Rattle.std.proofs.Common.{◌≡◌, ◌<◌, ap, sym, subst, ◌∙◌, ◌+◌, ◌-◌, cond, Some, arith, rules}
use Rattle.std.specs.Map.{lookup, remove_entry}
use Rattle.std.specs.BTreeMap.{is_at}
use Rattle.indexmap.specs.IndexMap.{insert_entry, spare}
use Rattle.cache_rows.specs.RowMachine.{pickle_size}
use Rattle.cache_rows.specs.Indexed.{Replaces, Indexed, rows_of, is_key, same_key, by_place, key_at}
use Rattle.cache_rows.proofs.Tabling.{Joins, on_ok, replaced-rows, replaced-indexed, added-rows, added-indexed}
use Rattle.cache_rows.proofs.table.Table.replace.Goals as goal
use Rattle.cache_rows.proofs.table.Table.replace.Goals.{in-Some-shift_remove, in-None}

pub invariant_of-self-2 : goal.invariant_of-self-2
invariant_of-self-2 c =
    let t = c.self.inside in
    let key = c.as_bytes-2.result.now in
    let same = c.in_ok-reserve.ensures.entries in
    let rest = c.shift_remove.ensures.entries ∙ ap (remove_entry (is_key key)) same in
    let room = c.in_ok-reserve.ensures.ok in
    let kept = c.shift_remove.ensures.room.0 in
    let rows-is : c.match-shift_remove.self-inside.rows ≡ c.shift_remove.new.self = elim c.match-shift_remove.branch [ in-Some-shift_remove w ↦ ap (λ z. z.rows) w.self-inside-is | in-None w ↦ ap (λ z. z.rows) w.self-inside-is ] in
    let place : 0 < spare c.shift_remove.new.self = omega (arith, room, kept) in
    let new = on_ok c.insert-2.result _ (c.insert-2.ensures.succeeds (subst (λ z. 0 < spare z) (sym rows-is) place)) c.insert-2.ensures.entries
    ∙ ap (λ z. insert_entry same_key z.entries c.in_ok-name.name (record { value = c.in_ok-value.value; stamp = c.args.now; birth = t.births })) rows-is in
    let name = c.in_ok-name.ensures.items ∙ (c.as_bytes.ensures ∙ sym c.as_bytes-2.ensures) in
    let joins : Joins t.order.entries (c.args.now, t.births) key c.insert.new.self.entries = λ q. c.in_ok-insert.ensures.updates.0 q ∙ ap (λ k. cond (is_at (by_place (c.args.now, t.births)) q) (Some k) (key_at q t.order.entries)) (c.in_ok-try_copy.ensures ∙ sym c.as_bytes-2.ensures) in
    let sum : c.in-Some.sizes ≡ t.sizes + c.size_of.result = search rules in
    let more = sum ∙ ap (λ n. t.sizes + n) (c.size_of.ensures ∙ ap (λ k. pickle_size k c.in_ok-value.value) (sym c.as_bytes-2.ensures)) in
    elim c.match-shift_remove.branch [
      | in-Some-shift_remove w ↦
          let found = ap (lookup (is_key key)) (sym same) ∙ (sym c.shift_remove.ensures.value ∙ w.in-Some-shift_remove.is) in
          let cell = w.in-Some-shift_remove.old in
          subst (λ z. Indexed c.insert-2.new.self.entries z.order.entries (t.births + 1) c.match-shift_remove.stamp.1) (sym w.self-inside-is)
          (subst (λ z. Indexed c.insert-2.new.self.entries w.remove.new.self.entries (t.births + 1) z.1) (sym w.stamp-is)
          (replaced-indexed t.rows.entries t.order.entries t.births t.sizes c.self.invariant key cell found c.args.now c.in_ok-value.value c.in_ok-name.name name c.shift_remove.new.self.entries c.insert-2.new.self.entries rest new
          c.insert.new.self.entries w.remove.new.self.entries c.in-Some.sizes w.saturating_sub.result c.insert-2.ensures.unique joins w.remove.ensures.updates.0 more
          (w.saturating_sub.ensures ∙ ap (λ n. c.in-Some.sizes - n) (w.size_of-in-Some-shift_remove.ensures ∙ ap (λ z. pickle_size z cell.value) (sym c.as_bytes-2.ensures)))))
      | in-None w ↦
          let none = ap (lookup (is_key key)) (sym same) ∙ (sym c.shift_remove.ensures.value ∙ w.in-None.is) in
          subst (λ z. Indexed c.insert-2.new.self.entries z.order.entries (t.births + 1) c.match-shift_remove.stamp.1) (sym w.self-inside-is)
          (subst (λ z. Indexed c.insert-2.new.self.entries c.insert.new.self.entries (t.births + 1) z.1) (sym w.stamp-is)
          (added-indexed t.rows.entries t.order.entries t.births t.sizes c.self.invariant key none c.args.now c.in_ok-value.value c.in_ok-name.name name c.shift_remove.new.self.entries c.insert-2.new.self.entries rest new
          c.insert.new.self.entries c.in-Some.sizes c.insert-2.ensures.unique joins more))
    ]

pub returns-clause-ok : goal.returns-clause-ok
returns-clause-ok c =
    let t = c.self.inside in
    let key = c.as_bytes-2.result.now in
    let same = c.in_ok-reserve.ensures.entries in
    let rest = c.shift_remove.ensures.entries ∙ ap (remove_entry (is_key key)) same in
    let room = c.in_ok-reserve.ensures.ok in
    let kept = c.shift_remove.ensures.room.0 in
    let rows-is : c.match-shift_remove.self-inside.rows ≡ c.shift_remove.new.self = elim c.match-shift_remove.branch [ in-Some-shift_remove w ↦ ap (λ z. z.rows) w.self-inside-is | in-None w ↦ ap (λ z. z.rows) w.self-inside-is ] in
    let place : 0 < spare c.shift_remove.new.self = omega (arith, room, kept) in
    let new = on_ok c.insert-2.result _ (c.insert-2.ensures.succeeds (subst (λ z. 0 < spare z) (sym rows-is) place)) c.insert-2.ensures.entries
    ∙ ap (λ z. insert_entry same_key z.entries c.in_ok-name.name (record { value = c.in_ok-value.value; stamp = c.args.now; birth = t.births })) rows-is in
    let name = c.in_ok-name.ensures.items ∙ (c.as_bytes.ensures ∙ sym c.as_bytes-2.ensures) in
    let rows = rows_of c.insert-2.new.self.entries in
    let back = λ (h : Replaces c.args.now key c.in_ok-value.value (rows_of t.rows.entries) c.match-shift_remove.stamp.0 rows).
    subst (λ z. Replaces c.args.now c.args.key.now c.args.value.now z c.match-shift_remove.stamp.0 rows) c.self.view_is
    (subst (λ z. Replaces c.args.now c.args.key.now z (rows_of t.rows.entries) c.match-shift_remove.stamp.0 rows) c.in_ok-value.ensures
    (subst (λ z. Replaces c.args.now z c.in_ok-value.value (rows_of t.rows.entries) c.match-shift_remove.stamp.0 rows) c.as_bytes-2.ensures h)) in
    elim c.match-shift_remove.branch [
      | in-Some-shift_remove w ↦
          let found = ap (lookup (is_key key)) (sym same) ∙ (sym c.shift_remove.ensures.value ∙ w.in-Some-shift_remove.is) in
          back (subst (λ z. Replaces c.args.now key c.in_ok-value.value (rows_of t.rows.entries) z.0 rows) (sym w.stamp-is)
          (replaced-rows t.rows.entries t.order.entries t.births t.sizes c.self.invariant key w.in-Some-shift_remove.old found c.args.now c.in_ok-value.value c.in_ok-name.name name c.shift_remove.new.self.entries c.insert-2.new.self.entries rest new))
      | in-None w ↦
          let none = ap (lookup (is_key key)) (sym same) ∙ (sym c.shift_remove.ensures.value ∙ w.in-None.is) in
          back (subst (λ z. Replaces c.args.now key c.in_ok-value.value (rows_of t.rows.entries) z.0 rows) (sym w.stamp-is)
          (added-rows t.rows.entries t.order.entries t.births t.sizes c.self.invariant key none c.args.now c.in_ok-value.value c.in_ok-name.name name c.shift_remove.new.self.entries c.insert-2.new.self.entries rest new))
    ]
