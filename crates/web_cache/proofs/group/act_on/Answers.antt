use Rattle.web_cache.proofs.Grouping.{acted}
use Rattle.web_cache.proofs.group.act_on.Goals as goal

pub returns-in-Some-clause-ok : goal.returns-in-Some-clause-ok
returns-in-Some-clause-ok c = acted c.act.result c.as_slice.result.now c.args.caches.now.items c.in-Some.at c.index_mut.result.now c.act.new.self c.in-Some.ensures.some.0 c.args.call.now.id c.args.now c.args.call.now.op c.as_slice.ensures.value c.in-Some.ensures.some.1 c.in-Some.ensures.some.2 c.index_mut.ensures.value c.act.ensures.id c.act.ensures.ok
