use Rattle.smlserver_top.proofs.StraightLaws.{gives_straight, gives_none}
use Rattle.smlserver_top.proofs.straight.straight_parts.Goals as goal

pub returns-clause-found : goal.returns-clause-found
returns-clause-found c = gives_straight _ _ _ c.read_items.ensures

pub returns-clause-not_form : goal.returns-clause-not_form
returns-clause-not_form c = gives_none _ _ _ c.read_items.ensures
