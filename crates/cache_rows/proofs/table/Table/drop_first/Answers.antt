use Rattle.std.proofs.Common.{◌-◌, ap, sym, subst, ◌∙◌, Some, true≢false}
use Rattle.cache_rows.specs.RowMachine.{pickle_size}
use Rattle.cache_rows.specs.Indexed.{LeavesFirst, rows_of}
use Rattle.cache_rows.proofs.Tabling.{first-found, first-leaves, first-indexed, no-rows}
use Rattle.cache_rows.proofs.table.Table.drop_first.Goals as goal
use Rattle.cache_rows.proofs.table.Table.drop_first.Goals.{in-Some-shift_remove, in_default-shift_remove}

pub returns-in_default-clause-none : goal.returns-in_default-clause-none
returns-in_default-clause-none c =
    let t = c.self.inside in
    let e = no-rows t.rows.entries t.order.entries t.births t.sizes c.self.invariant (λ h. true≢false (sym (c.in_default.ensures.variant.1 h))) in
    λ h. (sym c.self.view_is ∙ ap rows_of e, ap rows_of e)

pub invariant_of-self-in-Some-shift_remove : goal.invariant_of-self-in-Some-shift_remove
invariant_of-self-in-Some-shift_remove c =
    let t = c.self.inside in
    first-indexed t.rows.entries t.order.entries t.births t.sizes c.self.invariant c.in-Some.field-0-0 c.in-Some.ensures.least c.as_bytes.result.now (c.in-Some.ensures.value ∙ ap Some (sym c.as_bytes.ensures)) c.in-Some-shift_remove.cell (sym c.shift_remove.ensures.value ∙ c.in-Some-shift_remove.is)
    c.shift_remove.new.self.entries c.pop_first.new.self.entries c.saturating_sub-self-inside.result c.shift_remove.ensures.entries c.shift_remove.ensures.unique c.in-Some.ensures.updates.0
    (c.saturating_sub-self-inside.ensures ∙ ap (λ n. t.sizes - n) (c.size_of.ensures ∙ ap (λ z. pickle_size z c.in-Some-shift_remove.cell.value) (sym c.as_bytes.ensures)))

pub invariant_of-self-in_default-shift_remove : goal.invariant_of-self-in_default-shift_remove
invariant_of-self-in_default-shift_remove c =
    let t = c.self.inside in
    absurd (first-found t.rows.entries t.order.entries t.births t.sizes c.self.invariant c.in-Some.field-0-0 c.in-Some.ensures.least c.as_bytes.result.now (c.in-Some.ensures.value ∙ ap Some (sym c.as_bytes.ensures)) (sym c.shift_remove.ensures.value ∙ c.in_default-shift_remove.is))

pub returns-clause-some : goal.returns-clause-some
returns-clause-some c =
    let t = c.self.inside in
    λ h.
    elim c.match-shift_remove.branch [
      | in-Some-shift_remove w ↦
          subst (λ z. LeavesFirst z c.match-shift_remove.self) c.self.view_is
          (subst (λ z. LeavesFirst (rows_of t.rows.entries) z) (sym w.self-is)
          (first-leaves t.rows.entries t.order.entries t.births t.sizes c.self.invariant c.in-Some.field-0-0 c.in-Some.ensures.least c.as_bytes.result.now (c.in-Some.ensures.value ∙ ap Some (sym c.as_bytes.ensures)) w.in-Some-shift_remove.cell (sym c.shift_remove.ensures.value ∙ w.in-Some-shift_remove.is)
          c.shift_remove.new.self.entries c.shift_remove.ensures.entries))
      | in_default-shift_remove w ↦
          absurd (first-found t.rows.entries t.order.entries t.births t.sizes c.self.invariant c.in-Some.field-0-0 c.in-Some.ensures.least c.as_bytes.result.now (c.in-Some.ensures.value ∙ ap Some (sym c.as_bytes.ensures)) (sym c.shift_remove.ensures.value ∙ w.in_default-shift_remove.is))
    ]
