use Rattle.std.proofs.Common.{◌≡◌, ◌≢◌, ◌+◌, ◌<◌, ◌≤◌, refl, arith, get_or}
use Rattle.std.proofs.lemmas.Bool.Decides.{nat_tests}
use Rattle.grammar_rules.specs.Spelling.{Char, BadByte, Unsupported}
use Rattle.sml_syntax.specs.declared.token.Lack.TheVariants as lack
use Rattle.sml_lex.proofs.LiteralSteps.{lit_end, at_mark, at_back_bad, character_low, character_high, gives_fit, gives_back}
use Rattle.sml_lex.proofs.literals.character_piece.Goals as goal

pub returns-then-at-bytes : goal.returns-then-at-bytes
returns-then-at-bytes c = lit_end c.args.start Char c.args.bytes.now (c.args.start + 2) (omega arith)

pub returns-then-b-eq34 : goal.returns-then-b-eq34
returns-then-b-eq34 c = (c.args.start + 2 + 1, at_mark c.args.bytes.now c.args.start (c.args.start + 2) (omega arith) Char (omega arith))

pub returns-in-Byte : goal.returns-in-Byte
returns-in-Byte c =
    gives_back c.args.bytes.now c.args.start (c.args.start + 2) (omega arith) c.in-Byte.byte c.in-Byte.to c.shut_character.result (omega arith)
    (λ r m d. c.in-Byte.ensures.2 c.args.start Char r m d) c.shut_character.ensures

pub returns-in-Open : goal.returns-in-Open
returns-in-Open c = at_back_bad c.args.bytes.now c.args.start (c.args.start + 2) (omega arith) Char (BadByte c.args.start) (omega arith) refl (c.in-Open.ensures c.args.start Char)

pub returns-in-Bad : goal.returns-in-Bad
returns-in-Bad c = at_back_bad c.args.bytes.now c.args.start (c.args.start + 2) (omega arith) Char (BadByte (c.args.start + 2)) (omega arith) refl (c.in-Bad.ensures c.args.start Char)

pub returns-in-Lacking : goal.returns-in-Lacking
returns-in-Lacking c = at_back_bad c.args.bytes.now c.args.start (c.args.start + 2) (omega arith) Char (Unsupported (c.args.start + 2) lack.Escape) (omega arith) refl (c.in-Lacking.ensures c.args.start Char)

pub returns-then-b-lt32 : goal.returns-then-b-lt32
returns-then-b-lt32 c = character_low c.args.bytes.now c.args.start (c.args.start + 2) (omega arith) (omega arith)

pub returns-then-b-ge128 : goal.returns-then-b-ge128
returns-then-b-ge128 c = character_high c.args.bytes.now c.args.start (c.args.start + 2) (omega arith) (omega arith)

pub returns : goal.returns
returns c = gives_fit c.args.bytes.now c.args.start (c.args.start + 2) (omega arith) c.shut_character-2.result (omega arith) (omega arith) (grind (arith, nat_tests)) c.shut_character-2.ensures
