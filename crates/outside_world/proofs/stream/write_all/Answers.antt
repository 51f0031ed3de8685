use Rattle.std.proofs.Common.{arith, ◌∙◌}
use Rattle.std.proofs.lemmas.Grind.{common_steps}
use Rattle.outside_world.proofs.Grown.{grown_more}
use Rattle.outside_world.proofs.stream.write_all.Goals as goal

pub loop-at-preserved : goal.loop-at-preserved
loop-at-preserved g c = record {
  within = let h = c.in_ok-took.ensures.within in grind (arith, common_steps);
  written = grown_more _ _ _ _ _ _ c.loop-at.invariant.written c.in_ok-took.ensures.ok;
  count = let h = c.in_ok-took.ensures.count in let i = c.loop-at.invariant.count in omega (arith, h, i);
  keeps = c.in_ok-took.ensures.keeps ∙ c.loop-at.invariant.keeps;
}
