use Rattle.std.proofs.Common.{rules, ◌≡◌, ◌+◌, Some, drop, true, false, ap, sym, ◌∙◌, arith}
use Rattle.std.specs.Str.{bytes_eq}
use Rattle.std.proofs.lemmas.List.{drop_all}
use Rattle.parse_limits.proofs.Folds.{at_item}
use Rattle.parse_limits.proofs.LackSearch.{variables_here, variables_next, variables_none}
use Rattle.parse_limits.proofs.lacks.variables_of.Goals as goal

pub returns-then-eq : goal.returns-then-eq
returns-then-eq c =
    let own = c.args.own.now in
    let i = c.loop-types.types-index in
    let one = c.types-item.result in
    let same : bytes_eq one.1 c.args.name.now ≡ true = search rules in
    ap Some c.as_slice.ensures ∙ sym (variables_here c.args.name.now (drop i own) (drop (i + 1) own) one (at_item own i _ one c.types-item.is c.loop-types-test.true) same) ∙ c.loop-types.invariant

pub loop-types-preserved : goal.loop-types-preserved
loop-types-preserved c =
    let own = c.args.own.now in
    let i = c.loop-types.types-index in
    let one = c.types-item.result in
    let other : bytes_eq one.1 c.args.name.now ≡ false = search rules in
    sym (variables_next c.args.name.now (drop i own) (drop (i + 1) own) one (at_item own i _ one c.types-item.is c.loop-types-test.true) other) ∙ c.loop-types.invariant

pub returns : goal.returns
returns c =
    let own = c.args.own.now in
    let i = c.loop-types.types-index in
    sym (variables_none c.args.name.now (drop i own) (drop_all i own (omega arith))) ∙ c.loop-types.invariant
