use Rattle.std.proofs.Common.{◌≡◌, ◌+◌, ◌<◌, ◌≤◌, arith}
use Rattle.grammar_rules.specs.Spelling.{Refused, Refusal, OpenString, TextOf, literal}
use Rattle.sml_lex.specs.Ends.{EndsBadly}
use Rattle.sml_lex.specs.Coded.{refusal_of}
use Rattle.sml_lex.proofs.Steps.{if_refused}
use Rattle.sml_lex.proofs.LiteralSteps.{lit_end}
use Rattle.sml_lex.proofs.literals.text_piece.Goals as goal

pub returns-in-Refused : goal.returns-in-Refused
returns-in-Refused c =
    if_refused (refusal_of c.in-Refused.refusal) (EndsBadly (literal c.args.start (TextOf c.loop-at.value.items) c.loop-at.at) c.loop-at.at _) _
    (λ r d. (d.0, c.loop-at.invariant.whole (Refused r) d.0 d.1)) (c.in-Refused.ensures c.loop-at.value.items)

pub returns : goal.returns
returns c =
    let d = lit_end c.args.start (TextOf c.loop-at.value.items) c.args.bytes.now c.loop-at.at c.loop-at-test.false in
    (d.0, c.loop-at.invariant.whole (Refused (OpenString c.args.start)) d.0 d.1)
