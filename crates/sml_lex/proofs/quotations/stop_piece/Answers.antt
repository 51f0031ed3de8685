use Rattle.std.proofs.Common.{◌≡◌, ◌≢◌, ◌+◌, ◌<◌, ◌≤◌, arith}
use Rattle.sml_lex.proofs.MoveSteps.{stop_quote, stop_paren, stop_name}
use Rattle.sml_lex.proofs.quotations.stop_piece.Goals as goal

pub returns-then-bytes-at-eq96-clause-stop : goal.returns-then-bytes-at-eq96-clause-stop
returns-then-bytes-at-eq96-clause-stop c = stop_quote c.args.bytes.now c.args.at c.requires.within (omega arith)

pub returns-then-bytes-at-eq40-clause-stop : goal.returns-then-bytes-at-eq40-clause-stop
returns-then-bytes-at-eq40-clause-stop c = stop_paren c.args.bytes.now c.args.at c.requires.within c.requires.stop (omega arith) (omega arith)

pub returns-clause-stop : goal.returns-clause-stop
returns-clause-stop c =
    stop_name c.args.bytes.now c.args.at c.requires.within c.run_end-to.result c.in_ok-name.name c.requires.stop (omega arith) (omega arith) c.run_end-to.ensures.onward c.run_end-to.ensures.run c.in_ok-name.ensures
