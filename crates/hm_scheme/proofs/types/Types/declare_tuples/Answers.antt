use Rattle.std.proofs.Common.{◌≡◌, ◌≤◌, suc, ◌+◌, ◌-◌, ◌++◌, ◌∷◌, [], ◌∙◌, ap, map, max, arith}
use Rattle.std.specs.List.{range_with_len}
use Rattle.hm_scheme.specs.declared.type_name.TyName.TheVariants.{Tuple}
use Rattle.hm_scheme.proofs.Naming.{names-more}
use Rattle.hm_scheme.proofs.types.Types.declare_tuples.Goals as goal

pub loop-parts-preserved : goal.loop-parts-preserved
loop-parts-preserved c =
    let parts = c.loop-parts.parts in
    let base = c.args.self.now.names.items in
    let from = c.loop-parts.auto.parts in
    let before = c.loop-parts-test.true in
    let more : suc (parts - 1) ≡ parts + 1 - 1 = omega (arith, from) in
    let here : 2 + (parts - 1) ≡ parts + 1 = omega (arith, from) in
    let within : parts + 1 ≤ max c.args.widest 1 = omega (arith, before) in
    (c.in_ok-declare.ensures.names ∙ ap (λ ns. ns ++ Tuple (parts + 1) ∷ []) c.loop-parts.invariant.0 ∙ names-more base (λ n. Tuple n) 2 (parts - 1) (parts + 1 - 1) (parts + 1) more here, within)

pub returns : goal.returns
returns c =
    let parts = c.loop-parts.parts in
    let end = c.loop-parts-test.false in
    let within = c.loop-parts.invariant.1 in
    let from = c.loop-parts.auto.parts in
    let same : parts - 1 ≡ c.args.widest - 1 = omega (arith, end, within, from) in
    c.loop-parts.invariant.0 ∙ ap (λ n. c.args.self.now.names.items ++ map (λ x. Tuple x) (range_with_len 2 n)) same
