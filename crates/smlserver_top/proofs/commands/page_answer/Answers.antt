use Rattle.std.proofs.Common.{inr}
use Rattle.smlserver_top.proofs.AnswerLaws.{front_cause, refused_cause, front_of_trees, front_unbound, refused_of_trees, refused_unbound}
use Rattle.smlserver_top.proofs.commands.page_answer.Goals as goal

pub returns-in-Front-clause-trees_where : goal.returns-in-Front-clause-trees_where
returns-in-Front-clause-trees_where g c sure trees has = front_of_trees _ _ _ _ _ _ _ c.in-Front.is (c.in_ok-front.ensures.trees_where sure trees has) c.loaded_answer.ensures

pub returns-in-Front-clause-unbound_where : goal.returns-in-Front-clause-unbound_where
returns-in-Front-clause-unbound_where g c sure trees has e unbound = absurd (front_unbound _ _ _ _ c.in-Front.is (c.in_ok-front.ensures.unbound_where sure trees has e unbound))

pub returns-in-Refused-clause-trees_where : goal.returns-in-Refused-clause-trees_where
returns-in-Refused-clause-trees_where g c sure trees has = inr (refused_of_trees _ _ _ c.in-Refused.is (c.in_ok-front.ensures.trees_where sure trees has))

pub returns-in-Refused-clause-unbound_where : goal.returns-in-Refused-clause-unbound_where
returns-in-Refused-clause-unbound_where g c sure trees has e unbound = refused_unbound _ _ _ _ c.in-Refused.is (c.in_ok-front.ensures.unbound_where sure trees has e unbound)

pub returns-in-Front-clause-cause_where : goal.returns-in-Front-clause-cause_where
returns-in-Front-clause-cause_where g c sure e cause = absurd (front_cause _ _ _ c.in-Front.is (c.in_ok-front.ensures.cause_where sure e cause))

pub returns-in-Refused-clause-cause_where : goal.returns-in-Refused-clause-cause_where
returns-in-Refused-clause-cause_where g c sure e cause = refused_cause _ _ _ c.in-Refused.is (c.in_ok-front.ensures.cause_where sure e cause)
