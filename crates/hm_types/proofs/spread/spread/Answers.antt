use Rattle.hm_types.proofs.Asking.{spread-on}
use Rattle.hm_types.proofs.spread.spread.Goals as goal

pub loop-class-preserved : goal.loop-class-preserved
loop-class-preserved c = spread-on c.args.names.now c.args.parts.now c.args.nodes.now c.args.asked.now c.loop-class.asked c.tell.new.asked c.loop-class.work.items c.pop.new.self.items c.tell.new.work.items c.in-Some.class c.in-Some.ensures.items c.requires.same c.loop-class.invariant c.in_ok-tell.ensures.told c.in_ok-tell.ensures.closes
