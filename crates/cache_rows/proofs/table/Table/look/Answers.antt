use Rattle.std.proofs.Common.{◌≡◌, ap, sym, subst, ◌∙◌, refl, inl, inr, Some, ◌⊎◌, false, cond}
use Rattle.std.specs.BTreeMap.{is_at}
use Rattle.cache_rows.specs.RowMachine.{NoneNamed, key_of, current}
use Rattle.cache_rows.specs.Indexed.{Touches, Restamps, rows_of, by_place, key_at}
use Rattle.cache_rows.proofs.Tabling.{none-stays, none-current, touched-not, touched-rows, touched-indexed}
use Rattle.cache_rows.proofs.table.Table.look.Goals as goal
use Rattle.cache_rows.proofs.table.Table.look.Goals.{then-kind+then-stamp-now+in_ok-try_copy+in_ok-insert, else-kind, else-kind-via-then-kind+else-stamp-now, else-kind-via-else-kind}

pub returns-in_default-clause-ok : goal.returns-in_default-clause-ok
returns-in_default-clause-ok c =
    let t = c.self.inside in
    let h = none-current t.rows.entries t.order.entries t.births t.sizes c.self.invariant c.as_bytes.result.now c.args.kind.time c.args.now (sym c.in_default.ensures.value) in
    (subst (λ z. NoneNamed key_of z (current c.args.kind.time c.args.now c.args.self.now)) c.as_bytes.ensures (subst (λ z. NoneNamed key_of c.as_bytes.result.now (current c.args.kind.time c.args.now z)) c.self.view_is h), refl)

pub returns-then-not-stays-clause-ok : goal.returns-then-not-stays-clause-ok
returns-then-not-stays-clause-ok c =
    let t = c.self.inside in
    let h = none-stays t.rows.entries t.order.entries t.births t.sizes c.self.invariant c.as_bytes.result.now c.in-Some.cell.now (sym c.in-Some.ensures.value) c.args.kind.time c.args.now (sym c.stays.ensures ∙ c.if-not-stays.true) in
    (subst (λ z. NoneNamed key_of z (current c.args.kind.time c.args.now c.args.self.now)) c.as_bytes.ensures (subst (λ z. NoneNamed key_of c.as_bytes.result.now (current c.args.kind.time c.args.now z)) c.self.view_is h), refl)

pub invariant_of-self-then-stamp-now : goal.invariant_of-self-then-stamp-now
invariant_of-self-then-stamp-now c =
    let t = c.self.inside in
    let found = sym c.in-Some.ensures.value in
    let same = c.as_bytes.ensures ∙ sym c.as_bytes-then-stamp-now.ensures in
    touched-indexed t.rows.entries t.order.entries t.births t.sizes c.self.invariant c.as_bytes.result.now c.in-Some.cell.now found c.args.now c.if-stamp-now.true c.set_stamp.new.rows.entries
    (subst (λ z. Restamps z c.args.now t.rows.entries c.set_stamp.new.rows.entries) (sym same) c.set_stamp.ensures c.in-Some.cell.now found)
    c.insert.new.self.entries c.remove.new.self.entries
    (λ q. c.in_ok-insert.ensures.updates.0 q ∙ ap (λ k. cond (is_at (by_place (c.args.now, c.in-Some.cell.now.birth)) q) (Some k) (key_at q t.order.entries)) (c.in_ok-try_copy.ensures ∙ sym c.as_bytes.ensures))
    c.remove.ensures.updates.0

pub returns-clause-ok : goal.returns-clause-ok
returns-clause-ok c =
    let t = c.self.inside in
    let found = sym c.in-Some.ensures.value in
    let alive = sym c.stays.ensures ∙ c.if-not-stays.false in
    let back = λ (h : Touches c.args.kind c.args.now c.as_bytes.result.now (rows_of t.rows.entries) c.in_ok-value.value c.if-kind.self).
    subst (λ z. Touches c.args.kind c.args.now c.args.key.now z c.in_ok-value.value c.if-kind.self) c.self.view_is
    (subst (λ z. Touches c.args.kind c.args.now z (rows_of t.rows.entries) c.in_ok-value.value c.if-kind.self) c.as_bytes.ensures h) in
    let kept = λ (same : c.if-kind.self ≡ c.args.self.now) (s : (c.args.kind.used ≡ false) ⊎ (c.in-Some.cell.now.stamp ≡ c.args.now)).
    back (subst (Touches c.args.kind c.args.now c.as_bytes.result.now (rows_of t.rows.entries) c.in_ok-value.value) (c.self.view_is ∙ sym same)
    (touched-not t.rows.entries t.order.entries t.births t.sizes c.self.invariant c.as_bytes.result.now c.in-Some.cell.now found c.args.kind c.args.now c.in_ok-value.value alive c.in_ok-value.ensures s)) in
    elim c.if-kind.branch [
      | then-kind+then-stamp-now+in_ok-try_copy+in_ok-insert w ↦
          let same = c.as_bytes.ensures ∙ sym w.as_bytes-then-stamp-now.ensures in
          back (subst (Touches c.args.kind c.args.now c.as_bytes.result.now (rows_of t.rows.entries) c.in_ok-value.value) (sym w.self-is)
          (touched-rows t.rows.entries t.order.entries t.births t.sizes c.self.invariant c.as_bytes.result.now c.in-Some.cell.now found c.args.now w.if-stamp-now.true w.set_stamp.new.rows.entries
          (subst (λ z. Restamps z c.args.now t.rows.entries w.set_stamp.new.rows.entries) (sym same) w.set_stamp.ensures c.in-Some.cell.now found)
          c.args.kind c.in_ok-value.value alive c.in_ok-value.ensures w.if-kind.true))
      | else-kind w ↦
          elim w.else-kind.branch [
            | else-kind-via-then-kind+else-stamp-now v ↦ kept w.self-is (inr v.if-stamp-now.false)
            | else-kind-via-else-kind v ↦ kept w.self-is (inl v.if-kind.false)
          ]
    ]
