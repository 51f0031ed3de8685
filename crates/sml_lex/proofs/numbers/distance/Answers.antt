use Rattle.std.proofs.Common.{◌≡◌, ◌+◌, ◌*◌, ◌^◌, ◌<◌, ◌≤◌, arith}
use Rattle.sml_lex.proofs.NumberSteps.{distance_past}
use Rattle.sml_lex.proofs.numbers.distance.Goals as goal

pub returns-then-n-gt922337203685477580-clause-none : goal.returns-then-n-gt922337203685477580-clause-none
returns-then-n-gt922337203685477580-clause-none c = λ none. distance_past c.loop-d.n c.loop-d.d-index (2 ^ 63) c.args.digits.now c.loop-d-test.true c.loop-d.invariant.value (omega arith)

pub returns-then-n-gt-FARTHEST-clause-none : goal.returns-then-n-gt-FARTHEST-clause-none
returns-then-n-gt-FARTHEST-clause-none c = λ none. distance_past c.loop-d.n c.loop-d.d-index (2 ^ 63) c.args.digits.now c.loop-d-test.true c.loop-d.invariant.value (omega arith)
