use Rattle.std.proofs.Common.{◌≡◌, ◌+◌, ◌<◌, ◌≤◌, drop, sym, ap, ◌∙◌}
use Rattle.std.proofs.lemmas.List.{take_rest}
use Rattle.sml_lex.specs.Coded.{has_two_dots}
use Rattle.sml_lex.proofs.ExpressionSteps.{dots_lack, dot_bad}
use Rattle.sml_lex.proofs.expressions.dot_piece.Goals as goal

pub returns-then-has_two_dots : goal.returns-then-has_two_dots
returns-then-has_two_dots c =
    dots_lack c.args.at (c.args.at + 1) (drop (c.args.at + 1) c.args.bytes.now)
    (sym (ap has_two_dots (take_rest c.args.bytes.now (c.args.at + 1))) ∙ (sym c.has_two_dots.ensures ∙ c.if-has_two_dots.true))

pub returns : goal.returns
returns c =
    dot_bad c.args.at (c.args.at + 1) (drop (c.args.at + 1) c.args.bytes.now)
    (sym (ap has_two_dots (take_rest c.args.bytes.now (c.args.at + 1))) ∙ (sym c.has_two_dots.ensures ∙ c.if-has_two_dots.false))
