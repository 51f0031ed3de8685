use Rattle.hm_types.proofs.Asking.{told-set, differs}
use Rattle.hm_types.proofs.spread.ask.Goals as goal

pub returns-clause-told : goal.returns-clause-told
returns-clause-told c = told-set c.args.asked.now c.args.class c.args.more c.both-met.result _ _ c.requires.within c.both-met.ensures (differs _ _ c.if-eq.ensures) c.in_ok-push.ensures.items
