use Rattle.std.proofs.Common.{◌+◌, ◌≤◌, sym, ◌∙◌, arith}
use Rattle.sml_lex.proofs.MoveSteps.{text_goes, text_halts, text_over}
use Rattle.sml_lex.proofs.quotations.text_end.Goals as goal

pub loop-at-preserved : goal.loop-at-preserved
loop-at-preserved c = record {
  within = omega arith;
  onward = omega arith;
  whole = λ m r. c.loop-at.invariant.whole m (text_goes c.args.bytes.now c.loop-at.at m c.loop-at-test.true (sym c.is_text.ensures ∙ c.if-is_text.true) r);
}

pub returns-else-is_text-clause-text : goal.returns-else-is_text-clause-text
returns-else-is_text-clause-text c = c.loop-at.invariant.whole c.loop-at.at (text_halts c.args.bytes.now c.loop-at.at c.loop-at-test.true (sym c.is_text.ensures ∙ c.if-is_text.false))

pub returns-after-loop-at-clause-text : goal.returns-after-loop-at-clause-text
returns-after-loop-at-clause-text c = c.loop-at.invariant.whole c.loop-at.at (text_over c.args.bytes.now c.loop-at.at c.loop-at-test.false)
