use Rattle.smlserver_top.proofs.Runs.{code_writes, code_never_stuck}
use Rattle.std.proofs.Common.{sym, subst}
use Rattle.smlserver_top.specs.StraightCode.{AreStraight}
use Rattle.smlserver_top.proofs.StraightCode.{code_straight}
use Rattle.smlserver_top.proofs.compile.compile.Goals as goal

pub returns-clause-writes : goal.returns-clause-writes
returns-clause-writes c =
    code_writes c.in_ok-code.code c.args.parts.now c.requires.plain c.requires.small c.requires.few c.in_ok-code.ensures.instrs c.in_ok-code.ensures.texts

pub returns-clause-never_stuck : goal.returns-clause-never_stuck
returns-clause-never_stuck c =
    code_never_stuck c.in_ok-code.code c.args.parts.now c.requires.plain c.requires.small c.requires.few c.in_ok-code.ensures.instrs c.in_ok-code.ensures.texts

pub returns-clause-straight : goal.returns-clause-straight
returns-clause-straight c = subst AreStraight (sym c.in_ok-code.ensures.instrs) (code_straight c.args.parts.now)
