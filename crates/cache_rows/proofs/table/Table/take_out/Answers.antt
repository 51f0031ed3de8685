use Rattle.std.proofs.Common.{ap, sym, subst, ◌∙◌, ◌-◌}
use Rattle.cache_rows.specs.RowMachine.{NoneNamed, TakesOut, key_of, pickle_size}
use Rattle.cache_rows.specs.Indexed.{rows_of}
use Rattle.cache_rows.proofs.Tabling.{none-out, out-indexed, out-rows}
use Rattle.cache_rows.proofs.table.Table.take_out.Goals as goal

pub returns-in_default : goal.returns-in_default
returns-in_default c =
    let t = c.self.inside in
    let h = none-out t.rows.entries t.order.entries t.births t.sizes c.self.invariant c.as_bytes.result.now c.shift_remove.new.self.entries (sym c.shift_remove.ensures.value ∙ c.in_default.is) c.shift_remove.ensures.entries in
    (subst (λ z. NoneNamed key_of z c.args.self.now) c.as_bytes.ensures (subst (NoneNamed key_of c.as_bytes.result.now) c.self.view_is h.0), ap rows_of h.1 ∙ c.self.view_is)

pub invariant_of-self-2 : goal.invariant_of-self-2
invariant_of-self-2 c =
    let t = c.self.inside in
    out-indexed t.rows.entries t.order.entries t.births t.sizes c.self.invariant c.as_bytes.result.now c.in-Some.cell (sym c.shift_remove.ensures.value ∙ c.in-Some.is) c.shift_remove.new.self.entries c.remove.new.self.entries c.saturating_sub-self-inside.result
    c.shift_remove.ensures.entries c.shift_remove.ensures.unique c.remove.ensures.updates.0
    (c.saturating_sub-self-inside.ensures ∙ ap (λ n. t.sizes - n) (c.size_of.ensures ∙ ap (λ z. pickle_size z c.in-Some.cell.value) (sym c.as_bytes.ensures)))

pub returns : goal.returns
returns c =
    let t = c.self.inside in
    subst (λ z. TakesOut c.args.key.now z (rows_of c.shift_remove.new.self.entries)) c.self.view_is
    (subst (λ z. TakesOut z (rows_of t.rows.entries) (rows_of c.shift_remove.new.self.entries)) c.as_bytes.ensures
    (out-rows t.rows.entries t.order.entries t.births t.sizes c.self.invariant c.as_bytes.result.now c.in-Some.cell (sym c.shift_remove.ensures.value ∙ c.in-Some.is) c.shift_remove.new.self.entries c.shift_remove.ensures.entries))
