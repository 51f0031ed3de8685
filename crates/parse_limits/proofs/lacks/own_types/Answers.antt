use Rattle.std.proofs.Common.{◌+◌, [], ◌++◌, drop, option_copied, ap, sym, ◌∙◌, arith}
use Rattle.std.proofs.lemmas.List.{drop_all, append-nil}
use Rattle.parse_limits.specs.Lacks.{own_types}
use Rattle.parse_limits.proofs.Folds.{at_item}
use Rattle.parse_limits.proofs.LackSearch.{own_none, own_end, own_kept}
use Rattle.parse_limits.proofs.lacks.own_types.Goals as goal

pub returns-then-ends_datatypes : goal.returns-then-ends_datatypes
returns-then-ends_datatypes c =
    let acts = c.args.acts.now in
    let i = c.loop-made.made-index in
    let m = c.made-item.result in
    sym (append-nil c.loop-made.own.items)
    ∙ ap (λ w. c.loop-made.own.items ++ w) (sym (own_end c.loop-made.vars.items (drop i acts) (drop (i + 1) acts) m (at_item acts i _ m c.made-item.is c.loop-made-test.true) (sym c.ends_datatypes.ensures ∙ c.if-ends_datatypes.true)))
    ∙ c.loop-made.invariant

pub loop-made-preserved : goal.loop-made-preserved
loop-made-preserved c =
    let acts = c.args.acts.now in
    let i = c.loop-made.made-index in
    let m = c.made-item.result in
    own_kept (drop i acts) (drop (i + 1) acts) m c.loop-made.own.items c.add_own.new.own.items c.loop-made.vars.items c.in_ok-vars.vars.items c.as_slice.result.now (option_copied c.head_of.result) (own_types [] acts)
    (at_item acts i _ m c.made-item.is c.loop-made-test.true) (sym c.ends_datatypes.ensures ∙ c.if-ends_datatypes.false) c.in_ok-add_own.ensures c.as_slice.ensures.value c.head_of.ensures c.in_ok-vars.ensures c.loop-made.invariant

pub returns : goal.returns
returns c =
    let acts = c.args.acts.now in
    let i = c.loop-made.made-index in
    sym (append-nil c.loop-made.own.items) ∙ ap (λ w. c.loop-made.own.items ++ w) (sym (own_none c.loop-made.vars.items (drop i acts) (drop_all i acts (omega arith)))) ∙ c.loop-made.invariant
