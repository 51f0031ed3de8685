use Rattle.std.proofs.Common.{sym, ◌∙◌, subst, Some, None}
use Rattle.cache_rows.specs.RowMachine.{Foretells}
use Rattle.cache_rows.specs.Indexed.{rows_of}
use Rattle.cache_rows.proofs.Tabling.{none-stays, none-current}
use Rattle.cache_rows.proofs.Foretelling.{foretold, foretold-none}
use Rattle.cache_rows.proofs.table.Table.peek.Goals as goal

pub returns-in_default : goal.returns-in_default
returns-in_default c =
    let t = c.self.inside in
    let h = none-current t.rows.entries t.order.entries t.births t.sizes c.self.invariant c.as_bytes.result.now c.args.kind.time c.args.now (sym c.in_default.ensures.value) in
    let f = foretold-none c.args.kind c.args.now c.as_bytes.result.now (rows_of t.rows.entries) h in
    subst (λ z. Foretells c.args.kind c.args.now z c.args.self.now None) c.as_bytes.ensures (subst (λ z. Foretells c.args.kind c.args.now c.as_bytes.result.now z None) c.self.view_is f)

pub returns-then-not-stays : goal.returns-then-not-stays
returns-then-not-stays c =
    let t = c.self.inside in
    let h = none-stays t.rows.entries t.order.entries t.births t.sizes c.self.invariant c.as_bytes.result.now c.in-Some.cell.now (sym c.in-Some.ensures.value) c.args.kind.time c.args.now (sym c.stays.ensures ∙ c.if-not-stays.true) in
    let f = foretold-none c.args.kind c.args.now c.as_bytes.result.now (rows_of t.rows.entries) h in
    subst (λ z. Foretells c.args.kind c.args.now z c.args.self.now None) c.as_bytes.ensures (subst (λ z. Foretells c.args.kind c.args.now c.as_bytes.result.now z None) c.self.view_is f)

pub returns : goal.returns
returns c =
    let t = c.self.inside in
    let f = foretold t.rows.entries t.order.entries t.births t.sizes c.self.invariant c.as_bytes.result.now c.in-Some.cell.now (sym c.in-Some.ensures.value) c.args.kind c.args.now (sym c.stays.ensures ∙ c.if-not-stays.false) in
    subst (λ z. Foretells c.args.kind c.args.now z c.args.self.now (Some c.in-Some.cell.now.value)) c.as_bytes.ensures (subst (λ z. Foretells c.args.kind c.args.now c.as_bytes.result.now z (Some c.in-Some.cell.now.value)) c.self.view_is f)
