use Rattle.script_loader.proofs.Exact.{gives_cause, gives_front, gives_unbound}
use Rattle.script_loader.proofs.front.load_front.Goals as goal

pub returns-clause-cause_where : goal.returns-clause-cause_where
returns-clause-cause_where g c sure e cause = gives_cause _ _ _ _ c.find_front.result e c.find_front.ensures.front c.find_front.ensures.cause sure cause

pub returns-clause-trees_where : goal.returns-clause-trees_where
returns-clause-trees_where g c sure trees has = gives_front _ _ _ _ c.find_front.result trees c.find_front.ensures.front c.find_front.ensures.cause sure has

pub returns-clause-unbound_where : goal.returns-clause-unbound_where
returns-clause-unbound_where g c sure trees has e unbound =
    gives_unbound c.find_front.result trees e (gives_front _ _ _ _ c.find_front.result trees c.find_front.ensures.front c.find_front.ensures.cause sure has) unbound
