use Rattle.std.proofs.Common.{◌≡◌, ◌+◌, ◌<◌, ◌≤◌, get_or, refl}
use Rattle.sml_lex.proofs.ExpressionSteps.{tilde_number, tilde_symbols}
use Rattle.sml_lex.proofs.expressions.tilde_piece.Goals as goal

pub returns-in-Some : goal.returns-in-Some
returns-in-Some c = tilde_number c.args.at (get_or c.args.bytes.now c.args.at 0) c.args.bytes.now (c.args.at + 1) c.number_piece.result refl c.in-Some.ensures.0 c.in-Some.ensures.1 c.number_piece.ensures

pub returns-in-None : goal.returns-in-None
returns-in-None c = tilde_symbols c.args.at (get_or c.args.bytes.now c.args.at 0) c.args.bytes.now (c.args.at + 1) c.symbol_piece.result c.in-None.ensures c.symbol_piece.ensures
