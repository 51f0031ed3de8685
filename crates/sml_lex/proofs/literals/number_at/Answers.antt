use Rattle.std.proofs.Common.{◌≡◌, ◌+◌, ◌*◌, ◌<◌, ◌≤◌, refl, arith}
use Rattle.sml_lex.proofs.LiteralSteps.{one_digit, two_digits, big_number, whole_number}
use Rattle.sml_lex.proofs.literals.number_at.Goals as goal

pub returns-in_default : goal.returns-in_default
returns-in_default c = one_digit c.args.bytes.now c.args.at c.args.hundreds c.requires c.in_default.ensures

pub returns-in_default-digit_at : goal.returns-in_default-digit_at
returns-in_default-digit_at c = two_digits c.args.bytes.now c.args.at c.args.hundreds c.in-Some.tens c.requires c.in-Some.ensures c.in_default-digit_at.ensures

pub returns-then-n-ge256 : goal.returns-then-n-ge256
returns-then-n-ge256 c = big_number c.args.bytes.now c.args.at c.args.hundreds c.in-Some.tens c.in-Some-digit_at.ones c.requires c.in-Some.ensures c.in-Some-digit_at.ensures c.if-n-ge256.true

pub returns : goal.returns
returns c = (
  omega arith,
  omega (arith, c.in-Some-digit_at.ensures.0),
  whole_number c.args.bytes.now c.args.at c.args.hundreds c.in-Some.tens c.in-Some-digit_at.ones (10 * (10 * c.args.hundreds + c.in-Some.tens) + c.in-Some-digit_at.ones)
      c.requires c.in-Some.ensures c.in-Some-digit_at.ensures refl c.if-n-ge256.false,
)
