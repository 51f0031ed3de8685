use Rattle.std.proofs.Common.{◌+◌, ◌∷◌, ◌++◌, sym, subst, [], take}
use Rattle.cache_rows.specs.RowMachine.{RowRun, Stays}
use Rattle.cache_rows.proofs.Calling.{run-more, rise-more, on_err}
use Rattle.cache_rows.proofs.runs.run_rows.Goals as goal

pub returns-in_err-answers-clause-err : goal.returns-in_err-answers-clause-err
returns-in_err-answers-clause-err g c = on_err c.from_residual.result _ (0, [], Stays (g.R.RowStore.state c.args.rows.now))

pub loop-call-init : goal.loop-call-init
loop-call-init g c =
    let state = g.R.RowStore.state c.args.rows.now in
    (subst (λ z. RowRun state [] z state) (sym c.in_ok-answers.ensures.items) (Stays state), c.requires)

pub returns-in_err-push-clause-err : goal.returns-in_err-push-clause-err
returns-in_err-push-clause-err g c =
    on_err c.from_residual-in_err-push.result _ (
      c.loop-call.call-index + 1,
      c.loop-call.answers.items ++ c.in_ok-answer.answer ∷ [],
      run-more (g.R.RowStore.state c.args.rows.now) (g.R.RowStore.state c.loop-call.rows) (g.R.RowStore.state c.run_call.new.rows) c.args.calls.now c.loop-call.call-index c.call-item.result c.loop-call-test.true c.call-item.is
          c.loop-call.answers.items c.in_ok-answer.answer c.loop-call.invariant.0 c.in_ok-answer.ensures.ok,
    )

pub loop-call-preserved : goal.loop-call-preserved
loop-call-preserved g c =
    let start = g.R.RowStore.state c.args.rows.now in
    let old = g.R.RowStore.state c.loop-call.rows in
    let new = g.R.RowStore.state c.run_call.new.rows in
    let run = run-more start old new c.args.calls.now c.loop-call.call-index c.call-item.result c.loop-call-test.true c.call-item.is c.loop-call.answers.items c.in_ok-answer.answer c.loop-call.invariant.0 c.in_ok-answer.ensures.ok in (
      subst (λ z. RowRun start (take (c.loop-call.call-index + 1) c.args.calls.now) z new) (sym c.in_ok-push.ensures.items) run,
      rise-more start old new c.args.calls.now c.loop-call.call-index c.call-item.result c.loop-call-test.true c.call-item.is c.loop-call.answers.items c.in_ok-answer.answer c.loop-call.invariant.0 c.in_ok-answer.ensures.ok c.loop-call.invariant.1,
    )
