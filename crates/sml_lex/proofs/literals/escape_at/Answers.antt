use Rattle.std.proofs.Common.{◌≡◌, ◌+◌, ◌<◌, ◌≤◌, sym, ◌∙◌, arith}
use Rattle.sml_lex.proofs.LiteralSteps.{escape_ends, escape_short, escape_lacking}
use Rattle.sml_lex.proofs.literals.escape_at.Goals as goal

pub returns-then-at-bytes : goal.returns-then-at-bytes
returns-then-at-bytes c = escape_ends c.args.bytes.now c.args.at c.if-at-bytes.true

pub returns-then-is_short_escape : goal.returns-then-is_short_escape
returns-then-is_short_escape c =
    (omega arith, omega arith, escape_short c.args.bytes.now c.args.at c.short_escape.result (omega arith) (sym c.is_short_escape.ensures ∙ c.if-is_short_escape.true) c.short_escape.ensures)

pub returns-in-None : goal.returns-in-None
returns-in-None c = escape_lacking c.args.bytes.now c.args.at (omega arith) (sym c.is_short_escape.ensures ∙ c.if-is_short_escape.false) c.in-None.ensures
