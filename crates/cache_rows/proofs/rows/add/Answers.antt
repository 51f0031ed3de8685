use Rattle.std.proofs.Common.{◌≡◌, ap, sym, subst, ◌∙◌, rules, not, true, Some}
use Rattle.cache_rows.proofs.Settling.{Added, alone, added, new-stays, is_fresh}
use Rattle.cache_rows.proofs.rows.add.Goals as goal
use Rattle.cache_rows.proofs.rows.add.Goals.{in-Some, in-None}

pub returns-then-eq-clause-ok : goal.returns-then-eq-clause-ok
returns-then-eq-clause-ok c =
    let none : Some 0 ≡ c.args.time = search rules in
    subst (λ z. Added z c.args.now c.args.key.now c.args.value.now c.args.table.now true c.replace.new.self) none
    (alone c.args.now c.args.key.now c.args.value.now c.args.table.now c.replace.new.self c.new-alone.result c.in_ok-replace.field-0 c.in_ok-replace.ensures.ok c.new-alone.ensures)

pub returns-clause-ok : goal.returns-clause-ok
returns-clause-ok c =
    let some : c.args.time ≡ Some 0 → ⊥ = search rules in
    let h = added c.args.time c.args.now c.args.key.now c.args.value.now c.args.table.now c.replace-2.new.self c.expire.new.self c.in_ok-stamp.field-0 c.in_ok-stamp.ensures.ok c.expire.ensures (new-stays c.args.time c.args.now some) in
    let fresh : is_fresh c.args.time c.args.now c.in_ok-stamp.field-0 ≡ c.match-branch-3.fresh =
    elim c.match-branch-3.branch [
      | in-Some w ↦ ap (is_fresh c.args.time c.args.now) w.in-Some.is ∙ (ap not (sym w.stays.ensures) ∙ sym w.fresh-is)
      | in-None w ↦ ap (is_fresh c.args.time c.args.now) w.in-None.is ∙ sym w.fresh-is
    ] in
    subst (λ z. Added c.args.time c.args.now c.args.key.now c.args.value.now c.args.table.now z c.expire.new.self) fresh h
