use Rattle.std.proofs.Common.{◌/◌, sym, subst, arith}
use Rattle.value_pickle.proofs.Digits.{Writes, writes_all, writes_digit}
use Rattle.value_pickle.proofs.numbers.push_number.Goals as goal

pub loop-left-init : goal.loop-left-init
loop-left-init c = writes_all c.args.out.now.items c.args.number (omega (arith, c.ranges.number))

pub loop-left-preserved : goal.loop-left-preserved
loop-left-preserved c =
    subst (λ items. Writes c.args.out.now.items items c.args.number (c.loop-left.left / 128)) (sym c.in_ok-push.ensures.items)
    (writes_digit c.args.out.now.items c.loop-left.out.items c.args.number c.loop-left.left c.loop-left.invariant (omega (arith, c.loop-left-test.true)))
