use Rattle.std.proofs.Common.{refl, arith}
use Rattle.std.proofs.Math.Seq.{drop-length}
use Rattle.smlserver_top.proofs.ToldLaws.{cut_here, word_back, whole_word}
use Rattle.smlserver_top.proofs.told.cut_last.Goals as goal

pub loop-n-init : goal.loop-n-init
loop-n-init c = record { within = omega arith; word = rw (drop-length c.args.text.now) refl }

pub returns-then-text-n-eq32 : goal.returns-then-text-n-eq32
returns-then-text-n-eq32 c = cut_here _ _ c.loop-n-test.true c.loop-n.invariant.within c.if-text-n-eq32.true c.loop-n.invariant.word

pub loop-n-preserved : goal.loop-n-preserved
loop-n-preserved c = record {
  within = omega arith;
  word = word_back _ _ c.loop-n-test.true c.loop-n.invariant.within c.if-text-n-eq32.false c.loop-n.invariant.word;
}

pub returns : goal.returns
returns c = whole_word _ _ c.loop-n-test.false c.loop-n.invariant.word
