use Rattle.std.proofs.Common.{ap, sym, ◌∙◌, rules, true≢false}
use Rattle.indexmap.proofs.CallerLemmas.{filter-RetainsPairs}
use Rattle.cache_rows.specs.RowMachine.{current}
use Rattle.cache_rows.specs.Indexed.{rows_of}
use Rattle.cache_rows.proofs.Indexing.{entry_stays, place_stays, rows-filter}
use Rattle.cache_rows.proofs.Tabling.{all-stay, no-rows, stay-indexed}
use Rattle.cache_rows.proofs.table.Table.expire.Goals as goal

pub returns-in_default : goal.returns-in_default
returns-in_default c =
    let t = c.self.inside in
    let e = no-rows t.rows.entries t.order.entries t.births t.sizes c.self.invariant (λ h. true≢false (sym (c.in_default.ensures.variant.1 h))) in
    let z = sym c.self.view_is ∙ ap rows_of e in
    z ∙ ap (current c.args.time c.args.now) (sym z)

pub returns-then-stays : goal.returns-then-stays
returns-then-stays c =
    let t = c.self.inside in
    let h = all-stay t.rows.entries t.order.entries t.births t.sizes c.self.invariant c.in-Some.place.now c.in-Some.ensures.least c.args.time c.args.now (sym c.stays.ensures ∙ c.if-stays.true) in
    sym c.self.view_is ∙ (h ∙ ap (current c.args.time c.args.now) c.self.view_is)

pub invariant_of-self : goal.invariant_of-self
invariant_of-self c =
    let t = c.self.inside in
    stay-indexed c.args.time c.args.now t.rows.entries c.retain.new.self.entries t.order.entries c.retain-2.new.self.entries t.births t.sizes c.sizes_of-self-inside.result c.self.invariant
    (filter-RetainsPairs _ (entry_stays c.args.time c.args.now) _ (λ k v b w g t. (search rules, search rules, search rules)) _ _ c.retain.ensures.filtered)
    (filter-RetainsPairs _ (place_stays c.args.time c.args.now) _ (λ k v b w g t. (search rules, search rules, search rules)) _ _ c.retain-2.ensures.filtered)
    c.retain.ensures.unique c.sizes_of-self-inside.ensures (search rules)

pub returns : goal.returns
returns c =
    let t = c.self.inside in
    ap rows_of (filter-RetainsPairs _ (entry_stays c.args.time c.args.now) _ (λ k v b w g t. (search rules, search rules, search rules)) _ _ c.retain.ensures.filtered)
    ∙ (rows-filter c.args.time c.args.now t.rows.entries ∙ ap (current c.args.time c.args.now) c.self.view_is)
