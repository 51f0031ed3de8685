use Rattle.std.proofs.Common.{◌≡◌, ◌≢◌, ◌+◌, ◌<◌, ◌≤◌, arith}
use Rattle.grammar_rules.specs.Spelling.{CharOf}
use Rattle.sml_lex.proofs.LiteralSteps.{lit_end, at_mark, character_full}
use Rattle.sml_lex.proofs.literals.shut_character.Goals as goal

pub returns-then-at-bytes : goal.returns-then-at-bytes
returns-then-at-bytes c = lit_end c.args.start (CharOf c.args.byte) c.args.bytes.now c.args.at (omega arith)

pub returns-then-bytes-at-ne34 : goal.returns-then-bytes-at-ne34
returns-then-bytes-at-ne34 c = character_full c.args.bytes.now c.args.start c.args.at (omega arith) c.args.byte (omega arith)

pub returns : goal.returns
returns c = at_mark c.args.bytes.now c.args.start c.args.at (omega arith) (CharOf c.args.byte) (omega arith)
