use Rattle.std.proofs.Common.{◌≡◌, ◌≢◌, ◌+◌, ◌<◌, ◌≤◌, refl, arith, get_or}
use Rattle.std.proofs.lemmas.Bool.Decides.{nat_tests}
use Rattle.grammar_rules.specs.Spelling.{TextOf, OpenString, BadByte, Unsupported}
use Rattle.sml_syntax.specs.declared.token.Lack.TheVariants as lack
use Rattle.sml_lex.proofs.LiteralSteps.{at_mark, at_back, at_back_bad, at_fit, text_low, text_line}
use Rattle.sml_lex.proofs.literals.text_turn.Goals as goal

pub returns-then-b-eq34 : goal.returns-then-b-eq34
returns-then-b-eq34 c = λ w. at_mark c.args.bytes.now c.args.start c.args.at c.requires (TextOf w) (omega arith)

pub returns-in-Byte : goal.returns-in-Byte
returns-in-Byte c = (c.in-Byte.ensures.0, c.in-Byte.ensures.1, λ w r m d. at_back c.args.bytes.now c.args.start c.args.at c.requires (TextOf w) r m (omega arith) refl (c.in-Byte.ensures.2 c.args.start (TextOf w) r m d))

pub returns-in-Open : goal.returns-in-Open
returns-in-Open c = λ w. at_back_bad c.args.bytes.now c.args.start c.args.at c.requires (TextOf w) (OpenString c.args.start) (omega arith) refl (c.in-Open.ensures c.args.start (TextOf w))

pub returns-in-Bad : goal.returns-in-Bad
returns-in-Bad c = λ w. at_back_bad c.args.bytes.now c.args.start c.args.at c.requires (TextOf w) (BadByte c.args.at) (omega arith) refl (c.in-Bad.ensures c.args.start (TextOf w))

pub returns-in-Lacking : goal.returns-in-Lacking
returns-in-Lacking c = λ w. at_back_bad c.args.bytes.now c.args.start c.args.at c.requires (TextOf w) (Unsupported c.args.at lack.Escape) (omega arith) refl (c.in-Lacking.ensures c.args.start (TextOf w))

pub returns-then-b-eq10 : goal.returns-then-b-eq10
returns-then-b-eq10 c = λ w. text_line c.args.bytes.now c.args.start c.args.at c.requires w (omega arith)

pub returns-then-b-lt32 : goal.returns-then-b-lt32
returns-then-b-lt32 c = λ w. text_low c.args.bytes.now c.args.start c.args.at c.requires w (omega arith) (omega arith)

pub returns : goal.returns
returns c = (omega arith, omega arith, λ w r m d. at_fit c.args.bytes.now c.args.start c.args.at c.requires (TextOf w) r m (omega arith) (omega arith) (grind (arith, nat_tests)) d)
