use Rattle.std.proofs.Common.{rules, drop, ◌+◌, ◌∙◌, arith}
use Rattle.script_loader.proofs.Lists.{at_item}
use Rattle.script_loader.proofs.Read.{one_read, first_unread}
use Rattle.script_loader.proofs.source.read_sources.Goals as goal

pub returns-in_err-left-clause-refused : goal.returns-in_err-left-clause-refused
returns-in_err-left-clause-refused g c =
    let named = c.args.named.now in
    let i = c.loop-file.file-index in
    let here = at_item named i _ c.file-item.result c.file-item.is c.loop-file-test.true in
    let told = first_unread _ _ _ _ _ _ _ _ named (drop i named) (drop (i + 1) named) _ c.file-item.result c.in_err-left.field-0.0 c.loop-file.invariant.read here c.loop-file.invariant.count c.loop-file.invariant.same c.in_err-left.ensures.refused in
    search rules

pub loop-file-preserved : goal.loop-file-preserved
loop-file-preserved g c =
    let named = c.args.named.now in
    let i = c.loop-file.file-index in
    let here = at_item named i _ c.file-item.result c.file-item.is c.loop-file-test.true in
    let count = c.loop-file.invariant.count in
    let more = c.in_ok-left.ensures.count in
    record {
      read = one_read _ _ _ _ _ named (drop i named) (drop (i + 1) named) _ _ c.file-item.result c.loop-file.invariant.read here c.loop-file.invariant.same c.in_ok-left.ensures.ok;
      same = c.in_ok-left.ensures.same ∙ c.loop-file.invariant.same;
      count = omega (arith, count, more);
      keeps = c.in_ok-left.ensures.keeps ∙ c.loop-file.invariant.keeps;
    }
