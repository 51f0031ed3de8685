use Rattle.smlserver_top.proofs.ExplainLaws.{told_said, none_told}
use Rattle.smlserver_top.proofs.explanation.explain.Goals as goal

pub returns-in-Some-clause-explained : goal.returns-in-Some-clause-explained
returns-in-Some-clause-explained g c = told_said _ _ _ _ _ _ _ _ _ _ c.in-Some.ensures c.say.ensures.said

pub returns-in-None-clause-explained : goal.returns-in-None-clause-explained
returns-in-None-clause-explained g c file place name lack t = absurd (none_told _ _ _ _ _ c.in-None.ensures t)
