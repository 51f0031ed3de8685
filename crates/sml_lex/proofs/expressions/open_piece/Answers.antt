use Rattle.std.proofs.Common.{◌≡◌, ◌+◌, ◌<◌, ◌≤◌, get_or, refl, sym, ap, ◌∙◌, arith}
use Rattle.std.proofs.lemmas.List.{take_rest}
use Rattle.sml_lex.specs.Coded.{first_is, refusal_of}
use Rattle.sml_lex.proofs.ExpressionSteps.{open_comment, open_refused, open_mark}
use Rattle.sml_lex.proofs.expressions.open_piece.Goals as goal

pub returns-in-Ok : goal.returns-in-Ok
returns-in-Ok c =
    open_comment c.args.at (get_or c.args.bytes.now c.args.at 0) c.args.bytes.now (c.args.at + 1) (c.args.at + 2) c.in-Ok.to (omega arith)
    (sym (ap (first_is 42) (take_rest c.args.bytes.now (c.args.at + 1))) ∙ (sym c.first_is.ensures ∙ c.if-first_is.true)) c.in-Ok.ensures

pub returns-in-Err : goal.returns-in-Err
returns-in-Err c =
    open_refused c.args.at (get_or c.args.bytes.now c.args.at 0) c.args.bytes.now (c.args.at + 1) (c.args.at + 2) (refusal_of c.in-Err.refusal) (omega arith)
    (sym (ap (first_is 42) (take_rest c.args.bytes.now (c.args.at + 1))) ∙ (sym c.first_is.ensures ∙ c.if-first_is.true)) c.in-Err.ensures

pub returns : goal.returns
returns c =
    open_mark c.args.at (get_or c.args.bytes.now c.args.at 0) c.args.bytes.now (c.args.at + 1) c.mark_piece.result
    (sym (ap (first_is 42) (take_rest c.args.bytes.now (c.args.at + 1))) ∙ (sym c.first_is.ensures ∙ c.if-first_is.false)) c.mark_piece.ensures
