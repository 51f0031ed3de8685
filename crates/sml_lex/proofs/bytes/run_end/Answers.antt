use Rattle.std.proofs.Common.{◌+◌, ◌≤◌, sym, ◌∙◌, arith}
use Rattle.sml_lex.specs.Coded.{in_run}
use Rattle.sml_lex.proofs.Runs.{go_on, run_halt, run_over}
use Rattle.sml_lex.proofs.bytes.run_end.Goals as goal

pub loop-at-preserved : goal.loop-at-preserved
loop-at-preserved c = record {
  within = omega arith;
  onward = omega arith;
  whole = λ m r. c.loop-at.invariant.whole m (go_on (in_run c.args.run) c.args.bytes.now c.loop-at.at m c.loop-at-test.true (sym c.in_run.ensures ∙ c.if-in_run.true) r);
}

pub returns-else-in_run-clause-run : goal.returns-else-in_run-clause-run
returns-else-in_run-clause-run c = c.loop-at.invariant.whole c.loop-at.at (run_halt (in_run c.args.run) c.args.bytes.now c.loop-at.at c.loop-at-test.true (sym c.in_run.ensures ∙ c.if-in_run.false))

pub returns-after-loop-at-clause-run : goal.returns-after-loop-at-clause-run
returns-after-loop-at-clause-run c = c.loop-at.invariant.whole c.loop-at.at (run_over (in_run c.args.run) c.args.bytes.now c.loop-at.at c.loop-at-test.false)
